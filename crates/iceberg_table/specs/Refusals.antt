-- Why a snapshot isn't read.
use Rattle.std.specs.Prelude.{◌≡◌, ◌⊎◌, ℕ, ◌<◌, ◌≤◌, List, length}
use Rattle.lake_basics.specs.declared.limits.TheConstants.{MAX_ACTIONS, MAX_NAMES}
use Rattle.lake_basics.specs.declared.outcome.ReadError.TheVariants as read
use Rattle.lake_store.specs.Disk.{Files, names_in}
use Rattle.table_history.specs.First.{IsFirst, NoneOf}
use Rattle.iceberg_manifest.specs.Lists.{AreEach}
use Rattle.iceberg_ancestry.specs.Ancestry.{FormsCycle}
use Rattle.iceberg_metadata.specs.Reading.{HasCause, IsRead, causes}
use Rattle.iceberg_metadata.specs.declared.error.MetadataError.{MetadataError}
use Rattle.iceberg_metadata.specs.declared.metadata.Metadata.{Metadata}
use Rattle.iceberg_metadata.specs.declared.metadata.Snapshot.{Snapshot}
use Rattle.iceberg_table.specs.Errors.{IsFileFault, IsTold, metadata_fault}
use Rattle.iceberg_table.specs.Folder.{metadata_folder, version_path}
use Rattle.iceberg_table.specs.Lists.{IsListFault, SaysList}
use Rattle.iceberg_table.specs.Manifests.{AreManifestsRefused, IsManifestOf}
use Rattle.iceberg_table.specs.Once.{entries_once}
use Rattle.iceberg_table.specs.Order.{Stops}
use Rattle.iceberg_table.specs.Plan.{IsPlanFault, IsPlanOf, part_columns}
use Rattle.iceberg_table.specs.Tables.{AreManyRows, rows_of}
use Rattle.iceberg_table.specs.declared.error.Fault.{Fault}
use Rattle.iceberg_table.specs.declared.error.Fault.TheVariants as fault
use Rattle.iceberg_table.specs.declared.error.IcebergError.{IcebergError}
use Rattle.iceberg_table.specs.declared.error.IcebergError.TheVariants as error
use Rattle.iceberg_table.specs.declared.plan.Plan.{Plan}

-- The folder has more names than are listed.
abbrev pub HasManyNames : Files → IcebergError → Type 0
HasManyNames files error.ManyNames = MAX_NAMES < length (names_in files metadata_folder)
HasManyNames files _ = ⊥

-- The bytes are no metadata that is read, first for this cause, or the snapshots' parents form a cycle.
abbrev pub IsMetadataFault : List ℕ → Fault → Type 0
IsMetadataFault bytes f =
    ((e : MetadataError) × IsFirst (HasCause bytes) causes e × (metadata_fault e ≡ read.Fault f))
    ⊎ ((m : Metadata) × IsRead bytes m × NoneOf (HasCause bytes) causes × FormsCycle m × (f ≡ fault.Malformed))

-- The list is refused, or else the first of its manifests that is refused, or else their rows are too many, for which the list is named.
abbrev pub IsListedRefusal : Files → Metadata → Plan → IcebergError → Type 0
IsListedRefusal files m plan =
    Stops (SaysList files m plan.list) (IsFileFault files plan.list (IsListFault m))
    (λ list. Stops (AreEach (IsManifestOf files m.location (part_columns plan.columns)) list) (AreManifestsRefused files m.location (part_columns plan.columns) plan.list list)
    (λ manifests e. (entries_once manifests ≤ MAX_ACTIONS) × IsTold plan.list (AreManyRows (rows_of manifests)) e))

-- What the metadata of that version says of the snapshot is refused, or else what it names.
abbrev pub IsSnapshotRefusal : Files → Metadata → ℕ → Snapshot → IcebergError → Type 0
IsSnapshotRefusal files m version s = Stops (IsPlanOf m s) (IsTold (version_path version) (IsPlanFault m s)) (IsListedRefusal files m)
