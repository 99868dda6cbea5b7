-- The table that a snapshot stands for (Iceberg specification, "Scan Planning").
use Rattle.std.specs.Prelude.{◌≡◌, ◌↔◌, ◌≤◌, pos, List, Contains}
use Rattle.lake_basics.specs.declared.limits.TheConstants.{MAX_ACTIONS}
use Rattle.lake_store.specs.Disk.{Files}
use Rattle.table_history.specs.Row.{Row}
use Rattle.table_history.specs.declared.table.Table.{Table}
use Rattle.iceberg_manifest.specs.Entry.{EntryData}
use Rattle.iceberg_manifest.specs.Lists.{AreEach}
use Rattle.iceberg_live.specs.Live.{IsRowOf}
use Rattle.iceberg_live.specs.declared.live.LiveRow.{LiveRow}
use Rattle.iceberg_metadata.specs.declared.metadata.Metadata.{Metadata}
use Rattle.iceberg_metadata.specs.declared.metadata.Snapshot.{Snapshot}
use Rattle.iceberg_table.specs.Lists.{SaysList}
use Rattle.iceberg_table.specs.Manifests.{IsManifestOf, SaysManifest}
use Rattle.iceberg_table.specs.Once.{entries_once}
use Rattle.iceberg_table.specs.Plan.{IsPlanOf, names_of, part_columns}
use Rattle.iceberg_table.specs.Tables.{IsTableOfRows, rows_of}
use Rattle.iceberg_table.specs.declared.list.ManifestFile.{ManifestFile}
use Rattle.iceberg_table.specs.declared.plan.Plan.{Plan}
use Rattle.iceberg_table.specs.declared.snapshot.SnapshotTable.{SnapshotTable}

-- Some manifest of data that the snapshot's list names holds an entry, existing or added, of which this is the row. Its null numbers are those of the manifest's row in the list.
pub record IsLiveIn (files : Files) (m : Metadata) (s : Snapshot) (row : Row) : Type 0 where
  pub plan : Plan
  pub planned : IsPlanOf m s plan
  pub list : List ManifestFile
  pub listed : SaysList files m plan.list list
  pub file : ManifestFile
  pub named : Contains list file
  pub of_data : file.info.content ≡ pos 0
  pub entries : List EntryData
  pub says : SaysManifest files (part_columns plan.columns) file.path entries
  pub entry : EntryData
  pub held : Contains entries entry
  pub live : LiveRow
  pub is : IsRowOf m.location file.info entry live
  pub same : live.row ≡ row

-- The table has the snapshot's schema, the partition columns of the default spec, and just the rows that are live in the snapshot.
pub record IsTableOfSnapshot (files : Files) (m : Metadata) (s : Snapshot) (t : Table) : Type 0 where
  pub plan : Plan
  pub planned : IsPlanOf m s plan
  pub schema : t.schema ≡ plan.schema
  pub partition : t.partition ≡ names_of plan.columns
  pub rows : (row : Row) → Contains t.rows row ↔ IsLiveIn files m s row

-- The table has the snapshot's schema and the partition columns of the default spec.
pub record HasColumnsOf (m : Metadata) (s : Snapshot) (t : Table) : Type 0 where
  pub plan : Plan
  pub planned : IsPlanOf m s plan
  pub schema : t.schema ≡ plan.schema
  pub partition : t.partition ≡ names_of plan.columns

-- The table has just the rows of the manifests' live entries, of which no two have one path.
abbrev pub HasManifestRows : SnapshotTable → Type 0
HasManifestRows t = IsTableOfRows t.table.schema t.table.partition (rows_of t.manifests) t.table

-- The list and each manifest that it names are read so, and their live rows are the table's.
pub record IsReadBy (files : Files) (m : Metadata) (plan : Plan) (t : SnapshotTable) : Type 0 where
  pub list : List ManifestFile
  pub says : SaysList files m plan.list list
  pub only : (others : List ManifestFile) → SaysList files m plan.list others → others ≡ list
  pub manifests : AreEach (IsManifestOf files m.location (part_columns plan.columns)) list t.manifests
  pub few : entries_once t.manifests ≤ MAX_ACTIONS
  pub table : IsTableOfRows plan.schema (names_of plan.columns) (rows_of t.manifests) t.table

-- So are those of the snapshot.
abbrev pub IsReadAs : Files → Metadata → Snapshot → SnapshotTable → Type 0
IsReadAs files m s t = (plan : Plan) × IsPlanOf m s plan × IsReadBy files m plan t
