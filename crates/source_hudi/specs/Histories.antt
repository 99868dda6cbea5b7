-- The histories of a table that a timeline's files hold (Hudi technical specification, "Timeline").
use Rattle.std.specs.Prelude.{◌≡◌, ◌↔◌, ℕ, zero, suc, List, [], ◌++◌, map, Option, Some, None, Contains, slice_get}
use Rattle.lake_store.specs.Disk.{Files}
use Rattle.table_history.specs.First.{NoneOf}
use Rattle.table_history.specs.History.{History, positions_of}
use Rattle.table_history.specs.Row.{Row}
use Rattle.table_history.specs.declared.table.Table.{Table}
use Rattle.partition_map.specs.declared.kind.PartKind.{PartKind}
use Rattle.hudi_timeline.specs.Causes.{AreKinds, IsInForce, IsMalformed, Shows, change_features, rows_before}
use Rattle.hudi_timeline.specs.Live.{Completed, IsLiveAfter, completed}
use Rattle.hudi_groups.specs.declared.form.Form.TheVariants.{Base}
use Rattle.hudi_instant.specs.declared.instant.Instant.{Instant}
use Rattle.hudi_properties.specs.declared.table.HudiTable.{HudiTable}
use Rattle.hudi_table.specs.Files.{SaysInstant, SaysProperties}
use Rattle.hudi_table.specs.declared.instants.CompletedInstant.{CompletedInstant}
use Rattle.hudi_table.specs.declared.properties.Properties.{Properties}
use Rattle.source_hudi.specs.Instants.{IsArchiveEmpty, reached_in}

abbrev pub times_of : List CompletedInstant → List (List ℕ)
times_of instants = map (λ c. c.time) instants

-- ---- one instant

-- The instant is in its grammar, and shows no feature over the table before it. Numbers are no matter.
pub record IsReadable (u : Completed) (table : HudiTable) (base : Option Table) : Type 0 where
  pub grammar : ¬ IsMalformed u
  pub features : NoneOf (Shows u table base) change_features

-- The table is what the instant makes of the one before it: its schema is the one that the instant states, or else the one before, its partition columns are
-- those of the properties, and its rows are those that are live after the instant.
pub record IsMadeBy (u : Completed) (table : HudiTable) (base : Option Table) (next : Table) : Type 0 where
  pub schema : IsInForce u base next.schema
  pub partition : next.partition ≡ table.partition
  pub rows : (kinds : List PartKind) → AreKinds u table base kinds → (row : Row) → Contains next.rows row ↔ IsLiveAfter table kinds u (rows_before base) row

-- Where the instant's file can be read over the table before it, this is the table after it. Where it can't, nothing is said of the table after it.
abbrev pub LeavesTable : Files → CompletedInstant → Option Table → Table → Type 0
LeavesTable files c base next =
    (properties : Properties) (instant : Instant) → SaysProperties files properties → SaysInstant files c instant → IsReadable (completed Base instant) properties.table base → IsMadeBy (completed Base instant) properties.table base next

-- ---- a history

-- The first entry is that of an instant of the timeline, and there is no table before it.
abbrev pub LeavesFirst : Files → History → Type 0
LeavesFirst files history =
    (entry : List ℕ × Table) → slice_get history zero ≡ Some entry → (c : CompletedInstant) → Contains (reached_in files) c → c.time ≡ entry.0 → LeavesTable files c None entry.1

-- Each later entry that is that of an instant of the timeline has the table that this instant makes of the one in the entry before it.
abbrev pub LeaveTables : Files → History → Type 0
LeaveTables files history =
    (v : ℕ) (before entry : List ℕ × Table) → slice_get history v ≡ Some before → slice_get history (suc v) ≡ Some entry
    → (c : CompletedInstant) → Contains (reached_in files) c → c.time ≡ entry.0 → LeavesTable files c (Some before.1) entry.1

-- Where no instant is archived, those of the timeline are all there ever were.
pub record IsFromFirst (files : Files) (archived : List (List ℕ)) (history : History) : Type 0 where
  pub none : archived ≡ []
  pub first : LeavesFirst files history

-- The completed commits and replacecommits up to the head stand for the last entries, each with its time for its position. Before them are those of archived
-- instants. Each instant leads from the table before it to the table of its entry.
pub record HoldsHistory (files : Files) (history : History) : Type 0 where
  pub archived : List (List ℕ)
  pub positions : positions_of history ≡ archived ++ times_of (reached_in files)
  pub tables : LeaveTables files history
  pub whole : IsArchiveEmpty files → IsFromFirst files archived history
