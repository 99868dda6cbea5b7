-- The commits of an Iceberg table after a snapshot (Iceberg specification, "Snapshots" and "Scan Planning").
use Rattle.std.specs.Prelude.{◌≡◌, ◌≢◌, ◌⊎◌, ◌<◌, ◌≤◌, ℕ, List, [], ◌∷◌, ◌++◌, reverse, length, Contains, Some, Ok}
use Rattle.std.specs.Fmt.{signed_decimal}
use Rattle.lake_basics.specs.declared.limits.TheConstants.{MAX_ACTIONS, MAX_COMMITS}
use Rattle.lake_store.specs.Disk.{Files}
use Rattle.table_history.specs.Tables.{IsDiff}
use Rattle.table_history.specs.declared.feature.Feature.TheVariants.{PartitionChange}
use Rattle.table_history.specs.declared.limit.LimitKind.TheVariants as limit
use Rattle.table_history.specs.declared.table.Commit.{Commit}
use Rattle.table_history.specs.declared.table.Table.{Table}
use Rattle.partition_map.specs.Columns.{HasOtherKind}
use Rattle.iceberg_ancestry.specs.Ancestry.{IsAncestry}
use Rattle.iceberg_metadata.specs.Paths.{current_schema}
use Rattle.iceberg_metadata.specs.Schemas.{HeldSchema}
use Rattle.iceberg_columns.specs.SourceColumns.{columns_of}
use Rattle.iceberg_columns.specs.declared.columns.SourceColumn.{SourceColumn}
use Rattle.iceberg_metadata.specs.declared.metadata.Metadata.{Metadata}
use Rattle.iceberg_metadata.specs.declared.metadata.Snapshot.{Snapshot}
use Rattle.iceberg_table.specs.Folder.{version_path}
use Rattle.iceberg_table.specs.Plan.{names_of, snapshot_schema}
use Rattle.iceberg_table.specs.Snapshots.{IsReadAs, IsTableOfSnapshot}
use Rattle.iceberg_table.specs.declared.manifest.Manifest.{Manifest}
use Rattle.iceberg_table.specs.declared.snapshot.SnapshotTable.{SnapshotTable}
use Rattle.source_core.specs.declared.error.SourceError.{SourceError}
use Rattle.source_core.specs.declared.error.SourceError.TheVariants.{Limit, Unsupported}
use Rattle.source_iceberg.specs.Heads.{IsNewestMetadata}
use Rattle.iceberg_table.specs.Once.{entries_once}
use Rattle.source_iceberg.specs.Reading.{IsRefusedSnapshot}

-- ---- whether they are there

-- The position is the id of one of these snapshots in decimal, and of none behind that one, which are these.
pub record IsBehind (snapshots : List Snapshot) (position : List ℕ) (later : List Snapshot) : Type 0 where
  pub front : List Snapshot
  pub at : Snapshot
  pub split : snapshots ≡ front ++ at ∷ later
  pub spelled : position ≡ signed_decimal at.id
  pub others : (s : Snapshot) → Contains later s → position ≢ signed_decimal s.id

-- The position is that of an ancestor of the current snapshot that the newest metadata holds, and these are the ancestors behind it up to the current snapshot, the oldest first.
pub record IsReached (files : Files) (position : List ℕ) (version : ℕ) (m : Metadata) (later : List Snapshot) : Type 0 where
  pub metadata : IsNewestMetadata files version m
  pub ancestors : List Snapshot
  pub are : IsAncestry m ancestors
  pub behind : IsBehind (reverse ancestors) position later

abbrev pub Reaches : Files → List ℕ → Type 0
Reaches files position = (version : ℕ) × (m : Metadata) × (later : List Snapshot) × IsReached files position version m later

-- ---- partition columns

-- The columns of the default spec in this schema have other names than the table's partition columns.
abbrev pub HasOtherColumns : Metadata → HeldSchema → Table → Type 0
HasOtherColumns m held before = (columns : List SourceColumn) × (columns_of m held ≡ Ok columns) × (names_of columns ≢ before.partition)

-- So it is in the current schema.
abbrev pub NamesOtherColumns : Metadata → Table → Type 0
NamesOtherColumns m base = (held : HeldSchema) × (current_schema m ≡ Some held) × HasOtherColumns m held base

-- So it is in this schema, or it gives one of the table's partition columns another kind.
abbrev pub ChangesPartition : Metadata → HeldSchema → Table → Type 0
ChangesPartition m held before = HasOtherColumns m held before ⊎ HasOtherKind before.schema held.1 before.partition

-- So it is in the schema that the snapshot names.
abbrev pub SnapshotChanges : Metadata → Snapshot → Table → Type 0
SnapshotChanges m s before = (held : HeldSchema) × (snapshot_schema m s ≡ Ok held) × ChangesPartition m held before

-- ---- the commits

-- The commit has the snapshot's id for its position, states the schema of the snapshot's own table, and has for its change what differs between the rows of the table before it and those of its own.
pub record IsCommitOf (files : Files) (m : Metadata) (before : Table) (s : Snapshot) (commit : Commit) (own : SnapshotTable) : Type 0 where
  pub position : commit.position ≡ signed_decimal s.id
  pub read : IsReadAs files m s own
  pub is : IsTableOfSnapshot files m s own.table
  pub partition : own.table.partition ≡ before.partition
  pub unchanged : ¬ SnapshotChanges m s before
  pub rows : IsDiff before.rows own.table.rows commit.change.removed commit.change.added
  pub schema : commit.change.schema ≡ Some own.table.schema

-- One commit for each snapshot, each over the own table of the one before it, the first over the base. The last leaves this table, and these are the manifests of their lists, one list after another.
abbrev pub AreCommits : Files → Metadata → Table → List Snapshot → List Commit → Table → List Manifest → Type 0
AreCommits files m base [] commits last read = (commits ≡ []) × (last ≡ base) × (read ≡ [])
AreCommits files m base (s ∷ ss) commits last read =
    (commit : Commit) × (rest : List Commit) × (own : SnapshotTable) × (more : List Manifest) × (commits ≡ commit ∷ rest) × IsCommitOf files m base s commit own × AreCommits files m own.table ss rest last more × (read ≡ own.manifests ++ more)

-- These are the commits of the snapshots over the base. Not more entries are read than may be, where a manifest counts once, also one that several lists name.
pub record AreCommitsBehind (files : Files) (m : Metadata) (base : Table) (snapshots : List Snapshot) (commits : List Commit) : Type 0 where
  pub last : Table
  pub read : List Manifest
  pub are : AreCommits files m base snapshots commits last read
  pub few : entries_once read ≤ MAX_ACTIONS

-- The default spec names the base's partition columns, and the snapshots aren't more than are read.
pub record AreCommitsOver (files : Files) (m : Metadata) (base : Table) (snapshots : List Snapshot) (commits : List Commit) : Type 0 where
  pub unchanged : ¬ NamesOtherColumns m base
  pub few : length snapshots ≤ MAX_COMMITS
  pub behind : AreCommitsBehind files m base snapshots commits

-- One commit for each ancestor behind the position.
pub record IsSince (files : Files) (position : List ℕ) (base : Table) (commits : List Commit) : Type 0 where
  pub version : ℕ
  pub metadata : Metadata
  pub later : List Snapshot
  pub reached : IsReached files position version metadata later
  pub over : AreCommitsOver files metadata base later commits

-- ---- causes

-- the newest metadata is told
abbrev pub TellsChange : ℕ → SourceError → Type 0
TellsChange version e = e ≡ Unsupported PartitionChange (version_path version)

-- These manifests and those that were read before them have more entries than are read, where each manifest counts once.
abbrev pub HasManyEntries : List Manifest → List Manifest → SourceError → Type 0
HasManyEntries read manifests e = (MAX_ACTIONS < entries_once (read ++ manifests)) × (e ≡ Limit limit.Actions MAX_ACTIONS)

-- The snapshot's partition columns aren't those of the table before it; or they are, and it can't be read, or has too many entries besides those of the manifests that were read before.
abbrev pub IsRefusedBehind : Files → ℕ → Metadata → Table → List Manifest → Snapshot → SourceError → Type 0
IsRefusedBehind files version m before read s e =
    (SnapshotChanges m s before × TellsChange version e)
    ⊎ ((¬ SnapshotChanges m s before) × (IsRefusedSnapshot files m version s e ⊎ ((own : SnapshotTable) × IsReadAs files m s own × HasManyEntries read own.manifests e)))

-- One of the snapshots is refused so, those before it being taken over the base.
pub record StopsBehind (files : Files) (version : ℕ) (m : Metadata) (base : Table) (snapshots : List Snapshot) (e : SourceError) : Type 0 where
  pub front : List Snapshot
  pub snapshot : Snapshot
  pub behind : List Snapshot
  pub split : snapshots ≡ front ++ snapshot ∷ behind
  pub commits : List Commit
  pub before : Table
  pub read : List Manifest
  pub taken : AreCommits files m base front commits before read
  pub few : entries_once read ≤ MAX_ACTIONS
  pub refused : IsRefusedBehind files version m before read snapshot e

abbrev pub HasManyCommits : List Snapshot → SourceError → Type 0
HasManyCommits later e = (MAX_COMMITS < length later) × (e ≡ Limit limit.Commits MAX_COMMITS)

-- The number of ancestors is judged before the list of the first of them is read.
abbrev pub ShowsInLater : Files → ℕ → Metadata → Table → List Snapshot → SourceError → Type 0
ShowsInLater files version m base later e = HasManyCommits later e ⊎ ((length later ≤ MAX_COMMITS) × StopsBehind files version m base later e)

-- The columns of the default spec come before that.
abbrev pub ShowsBehind : Files → ℕ → Metadata → Table → List Snapshot → SourceError → Type 0
ShowsBehind files version m base later e = (NamesOtherColumns m base × TellsChange version e) ⊎ ((¬ NamesOtherColumns m base) × ShowsInLater files version m base later e)

-- All of it is told of a position that is reached.
abbrev pub ShowsFromPosition : Files → List ℕ → Table → SourceError → Type 0
ShowsFromPosition files position base e = (version : ℕ) × (m : Metadata) × (later : List Snapshot) × IsReached files position version m later × ShowsBehind files version m base later e
