-- A snapshot behind the one before it (Iceberg specification, "Manifests", "Manifest Lists" and "Scan Planning").
use Rattle.std.specs.Prelude.{◌≡◌, ◌≤◌, ◌++◌, ◌∷◌, [], ℕ, Bool, true, false, List, flat_map, length, Contains, Option, None, Some}
use Rattle.std.specs.List.Sorted.{IsPermutation}
use Rattle.lake_basics.specs.declared.limits.TheConstants.{MAX_ACTIONS, MAX_LIVE_FILES}
use Rattle.lake_store.specs.Disk.{Files}
use Rattle.table_history.specs.Rows.{HasDistinctPaths, SameRows}
use Rattle.table_history.specs.Tables.{IsDiff}
use Rattle.table_history.specs.declared.row.FileRow.{FileRow}
use Rattle.table_history.specs.declared.table.Change.{Change}
use Rattle.table_history.specs.declared.table.Table.{Table}
use Rattle.iceberg_manifest.specs.Lists.{AreEach}
use Rattle.iceberg_manifest.specs.declared.partition.PartColumn.{PartColumn}
use Rattle.iceberg_metadata.specs.Writing.{IsWritable}
use Rattle.iceberg_metadata.specs.declared.metadata.Metadata.{Metadata}
use Rattle.iceberg_metadata.specs.declared.metadata.Snapshot.{Snapshot}
use Rattle.iceberg_table.specs.Counted.{Counts}
use Rattle.iceberg_table.specs.Kinds.{FitLive}
use Rattle.iceberg_table.specs.Lists.{SaysList}
use Rattle.iceberg_table.specs.Manifests.{IsManifestOf}
use Rattle.iceberg_table.specs.Once.{entries_once}
use Rattle.iceberg_table.specs.Plan.{IsPlanOf, IsSoundPlan, part_columns}
use Rattle.iceberg_table.specs.Tables.{IsTableOfRows, rows_in, rows_of}
use Rattle.iceberg_table.specs.declared.list.ManifestFile.{ManifestFile}
use Rattle.iceberg_table.specs.declared.manifest.Manifest.{Manifest}
use Rattle.iceberg_table.specs.declared.plan.Plan.{Plan}
use Rattle.iceberg_change.specs.declared.behind.Listed.{Listed}
use Rattle.iceberg_change.specs.declared.behind.Start.{Start}
use Rattle.iceberg_change.specs.declared.behind.Step.{Step}
use Rattle.iceberg_change.specs.declared.held.Held.{Held}
use Rattle.iceberg_change.specs.declared.joining.Joining.{Joining}

-- ---- manifests that were read

-- It is so of each of the manifests.
abbrev pub Each : (Manifest → Type 0) → List Manifest → Type 0
Each P manifests = (m : Manifest) → Contains manifests m → P m

-- Their rows have paths, and values for these columns.
abbrev pub AreFit : List PartColumn → List Manifest → Type 0
AreFit columns manifests = Each (λ m. FitLive columns m.rows) manifests

-- Each is what is read of the manifest for its own row of a list.
abbrev pub AreRead : Files → List ℕ → List PartColumn → List Manifest → Type 0
AreRead files location columns manifests = Each (λ m. IsManifestOf files location columns m.file m) manifests

-- the rows of the manifest in a slot, which may be empty
abbrev pub slot_rows : Option Manifest → List FileRow
slot_rows None = []
slot_rows (Some m) = rows_in m.rows

-- one slot after another
abbrev pub slots_rows : List (Option Manifest) → List FileRow
slots_rows slots = flat_map slot_rows slots

abbrev pub held_rows : Held → List FileRow
held_rows h = slots_rows h.slots.items

abbrev pub IsHeld : Held → Manifest → Type 0
IsHeld h m = Contains h.slots.items (Some m)

-- It is so of each manifest that is held.
abbrev pub EachHeld : (Manifest → Type 0) → Held → Type 0
EachHeld P h = (m : Manifest) → IsHeld h m → P m

abbrev pub HoldsFit : List PartColumn → Held → Type 0
HoldsFit columns h = EachHeld (λ m. FitLive columns m.rows) h

abbrev pub HoldsRead : Files → List ℕ → List PartColumn → Held → Type 0
HoldsRead files location columns h = EachHeld (λ m. IsManifestOf files location columns m.file m) h

-- Two rows of lists name one manifest, with the same content. Its entries inherit the same snapshot id and sequence number from both ("Sequence Number Inheritance").
pub record NamesSame (one other : ManifestFile) : Type 0 where
  pub path : one.path ≡ other.path
  pub content : one.info.content ≡ other.info.content
  pub snapshot : one.info.added_snapshot_id ≡ other.info.added_snapshot_id
  pub sequence : one.info.sequence_number ≡ other.info.sequence_number

-- ---- what a snapshot leaves for the next one

-- The table has just the rows of the manifests, if they are known with the columns for which they were read.
abbrev pub GoesOnFrom : Table → List Manifest → Option (List PartColumn) → Type 0
GoesOnFrom t manifests None = Unit {0}
GoesOnFrom t manifests (Some columns) = IsTableOfRows t.schema t.partition (rows_of manifests) t × AreFit columns manifests

abbrev pub GoesOn : Table → Listed → Type 0
GoesOn t l = GoesOnFrom t l.manifests l.columns

-- In these files they are read so for the columns.
abbrev pub AreReadFor : Files → List ℕ → List Manifest → Option (List PartColumn) → Type 0
AreReadFor files location manifests None = Unit {0}
AreReadFor files location manifests (Some columns) = AreRead files location columns manifests

abbrev pub IsListed : Files → List ℕ → Listed → Type 0
IsListed files location l = AreReadFor files location l.manifests l.columns

-- ---- the rows of a table, by what becomes of them

-- No row of the one has the path of a row of the other.
abbrev pub AreApart : List FileRow → List FileRow → Type 0
AreApart xs ys = (x y : FileRow) → Contains xs x → Contains ys y → x.path ≡ y.path → ⊥

-- The rows before that aren't those of manifests which are held: none, or all of them.
abbrev pub others_of : Bool → List FileRow → List FileRow
others_of true before = []
others_of false before = before

-- The rows before are those of the manifests that are held, and the others.
pub record IsStart (columns : List PartColumn) (before : Table) (s : Start) : Type 0 where
  pub same : SameRows before.rows (held_rows s.held ++ others_of s.is_held before.rows)
  pub distinct : HasDistinctPaths (held_rows s.held ++ others_of s.is_held before.rows)
  pub fit : HoldsFit columns s.held

-- Of the rows that were held some are those of a manifest that was taken out, and some those of manifests that the list names already. The list's other rows came.
pub record IsJoined (columns : List PartColumn) (rows : List FileRow) (taken : Option Manifest) (j : Joining) : Type 0 where
  pub kept : List FileRow
  pub split : IsPermutation rows (kept ++ (slot_rows taken ++ held_rows j.held))
  pub whole : IsPermutation (rows_of j.manifests) (kept ++ j.came.items)
  pub fit : AreFit columns j.manifests
  pub counts : Counts j.manifests j.counted

-- The rows before are those that were held and the others. Of those that were held some stay, and these are left. All are those that stay and those that came.
pub record AreParts (before : List FileRow) (others left came all : List FileRow) : Type 0 where
  pub held : List FileRow
  pub kept : List FileRow
  pub same : SameRows before (held ++ others)
  pub distinct : HasDistinctPaths (held ++ others)
  pub split : IsPermutation held (kept ++ left)
  pub whole : IsPermutation all (kept ++ came)

-- The change is what differs between the rows before and all rows, which have paths of their own and aren't too many.
pub record IsChangeTo (before all : List FileRow) (c : Change) : Type 0 where
  pub distinct : HasDistinctPaths all
  pub few : length all ≤ MAX_LIVE_FILES
  pub diff : IsDiff before all c.removed c.added

-- ---- one snapshot behind another

-- The list names one manifest more, and what is read of it is this one.
pub record IsNextIn (files : Files) (location : List ℕ) (columns : List PartColumn) (file : ManifestFile) (old new : Joining) : Type 0 where
  pub manifest : Manifest
  pub manifests : new.manifests ≡ old.manifests ++ manifest ∷ []
  pub is : IsManifestOf files location columns file manifest

-- The list of the plan and each manifest that it names are read so.
pub record IsListRead (files : Files) (m : Metadata) (plan : Plan) (manifests : List Manifest) : Type 0 where
  pub list : List ManifestFile
  pub says : SaysList files m plan.list list
  pub only : (others : List ManifestFile) → SaysList files m plan.list others → others ≡ list
  pub are : AreEach (IsManifestOf files m.location (part_columns plan.columns)) list manifests

-- The step from the rows before to all rows of the snapshot's manifests. In these files they are what the plan's list names.
pub record IsStepBy (tells : Type 0) (files : Files) (m : Metadata) (plan : Plan) (before : Table) (was : Listed) (step : Step) : Type 0 where
  pub change : IsChangeTo before.rows (rows_of step.listed.manifests) step.change
  pub within : entries_once step.listed.manifests ≤ MAX_ACTIONS
  pub columns : step.listed.columns ≡ Some (part_columns plan.columns)
  pub fit : AreFit (part_columns plan.columns) step.listed.manifests
  pub schema : step.change.schema ≡ Some plan.schema
  pub own : HasDistinctPaths before.rows
  pub read : tells → IsListed files m.location was → IsListRead files m plan step.listed.manifests

-- So it is by what the metadata says of the snapshot.
pub record IsStep (tells : Type 0) (files : Files) (m : Metadata) (s : Snapshot) (before : Table) (was : Listed) (step : Step) : Type 0 where
  pub plan : Plan
  pub planned : IsPlanOf m s plan
  pub sound : IsWritable m → IsSoundPlan plan
  pub by : IsStepBy tells files m plan before was step
