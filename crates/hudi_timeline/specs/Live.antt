-- The live rows of a table after the instants of its completed timeline (Hudi technical specification: file groups, write stats, replaced file ids).
use Rattle.std.specs.Prelude.{◌≡◌, ◌↔◌, ◌⊎◌, ℕ, List, ◌∷◌, ◌++◌, Ok, Contains}
use Rattle.lake_basics.specs.Outcome.{each}
use Rattle.table_history.specs.Row.{Row}
use Rattle.partition_map.specs.declared.kind.PartKind.{PartKind}
use Rattle.hudi_groups.specs.declared.form.Form.{Form}
use Rattle.hudi_instant.specs.declared.instant.Instant.{Instant}
use Rattle.hudi_instant.specs.declared.instant.Stat.{Stat}
use Rattle.hudi_properties.specs.declared.table.HudiTable.{HudiTable}
use Rattle.hudi_groups.specs.Group.{joined}
use Rattle.hudi_groups.specs.Files.{suffix_of, without_end, group_name}
use Rattle.hudi_groups.specs.GroupSets.{IsNewestOfGroup}
use Rattle.hudi_files.specs.Stats.{bare_row}
use Rattle.hudi_files.specs.Values.{style_of, HaveValues}

-- a completed commit or replacecommit, and how its files are named
pub record Completed : Type 0 where
  pub form : Form
  pub instant : Instant

abbrev pub completed : Form → Instant → Completed
completed form instant = record { form = form; instant = instant }

-- the completed commits and replacecommits of a table, the oldest first
abbrev pub Timeline : Type 0
Timeline = List Completed

-- ---- what one instant writes and replaces

-- the rows of the instant's write stats, in their order
abbrev pub AreRowsOf : HudiTable → List PartKind → Completed → List Row → Type 0
AreRowsOf table kinds u rows = (files : List Row) × (each (bare_row (suffix_of u.form)) u.instant.stats ≡ Ok files) × HaveValues (style_of table) table.partition kinds files rows

-- A write stat of the instant is this row, and it is the instant's last stat of the row's group.
pub record IsWrittenBy (table : HudiTable) (kinds : List PartKind) (u : Completed) (row : Row) : Type 0 where
  pub rows : List Row
  pub stats : AreRowsOf table kinds u rows
  pub newest : IsNewestOfGroup u.form rows row

-- a write stat of this group
abbrev pub Writes : Completed → List ℕ → Type 0
Writes u group = (s : Stat) × Contains u.instant.stats s × (group ≡ group_name u.form (without_end (suffix_of u.form) s.path))

-- A replaced file id of this group. No file id has a `/` in it, so that a text with one names no group.
abbrev pub Replaces : Completed → List ℕ → Type 0
Replaces u group = (p : List ℕ × List ℕ) × Contains u.instant.replaced p × (¬ Contains p.1 47) × (group ≡ joined p.0 p.1)

-- The instant writes or replaces the group of the file at this path.
abbrev pub Touches : Completed → List ℕ → Type 0
Touches u path = Writes u (group_name u.form path) ⊎ Replaces u (group_name u.form path)

-- ---- live rows

-- Some completed instant wrote the row, and none behind it wrote or replaced the row's group.
pub record HudiLive (table : HudiTable) (kinds : List PartKind) (timeline : Timeline) (row : Row) : Type 0 where
  pub before : Timeline
  pub by : Completed
  pub after : Timeline
  pub split : timeline ≡ before ++ by ∷ after
  pub written : IsWrittenBy table kinds by row
  pub last : (later : Completed) → Contains after later → ¬ Touches later row.path

-- the rows that are live after the timeline
abbrev pub AreLive : HudiTable → List PartKind → Timeline → List Row → Type 0
AreLive table kinds timeline rows = (row : Row) → Contains rows row ↔ HudiLive table kinds timeline row

-- What an instant makes of rows: its replacements first, and then its writes.
abbrev pub IsLiveAfter : HudiTable → List PartKind → Completed → List Row → Row → Type 0
IsLiveAfter table kinds u rows row = IsWrittenBy table kinds u row ⊎ (Contains rows row × ¬ Touches u row.path)

-- ---- over an older table

-- The row is live after the timeline over a table of these rows: an instant of the timeline left it live, or it was there, and none has written or replaced its group since.
abbrev pub IsLiveOver : HudiTable → List PartKind → List Row → Timeline → Row → Type 0
IsLiveOver table kinds origin timeline row = HudiLive table kinds timeline row ⊎ (Contains origin row × ((u : Completed) → Contains timeline u → ¬ Touches u row.path))
