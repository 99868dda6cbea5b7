-- What an Iceberg table shows for which it isn't read as a source.
use Rattle.std.specs.Prelude.{◌≡◌, ◌⊎◌, ◌<◌, ◌≤◌, ℕ, List, length, Some, None, find}
use Rattle.lake_basics.specs.declared.limits.TheConstants.{MAX_FILE_BYTES, MAX_NAMES}
use Rattle.lake_store.specs.Disk.{Files, names_in}
use Rattle.table_history.specs.Words.{limit_number}
use Rattle.table_history.specs.declared.feature.Feature.TheVariants.{CatalogNames, CompressedMetadata}
use Rattle.table_history.specs.declared.kind.Kind.TheVariants.{Iceberg}
use Rattle.table_history.specs.declared.limit.LimitKind.TheVariants as limit
use Rattle.iceberg_metadata.specs.declared.metadata.Metadata.{Metadata}
use Rattle.iceberg_metadata.specs.declared.metadata.Snapshot.{Snapshot}
use Rattle.iceberg_table.specs.Errors.{IsFileFault}
use Rattle.iceberg_table.specs.Folder.{HasVersion, IsNewest, is_compressed, is_metadata, metadata_folder, path_of, version_path}
use Rattle.iceberg_table.specs.Refusals.{IsMetadataFault, IsSnapshotRefusal}
use Rattle.iceberg_table.specs.declared.error.Fault.{Fault}
use Rattle.iceberg_table.specs.declared.error.Fault.TheVariants as fault
use Rattle.iceberg_table.specs.declared.error.IcebergError.{IcebergError}
use Rattle.iceberg_table.specs.declared.error.IcebergError.TheVariants as error
use Rattle.source_core.specs.declared.error.SourceError.{SourceError}
use Rattle.source_core.specs.declared.error.SourceError.TheVariants.{Malformed, Unsupported, Limit}
use Rattle.source_iceberg.specs.Heads.{IsCurrent}

-- ---- how a fault of the metadata is told

-- of the file at this path
abbrev pub TellsFault : List ℕ → Fault → SourceError → Type 0
TellsFault path fault.Malformed e = e ≡ Malformed path
TellsFault path (fault.Unsupported feature) e = e ≡ Unsupported feature path
TellsFault path (fault.Limit which) e = e ≡ Limit which (limit_number Iceberg which)

-- A file that has to be there and isn't is malformed. Want of memory and a fault of the store are no faults of the table.
abbrev pub Tells : IcebergError → SourceError → Type 0
Tells error.Memory e = ⊥
Tells error.StoreFault e = ⊥
Tells error.ManyNames e = e ≡ Limit limit.Names MAX_NAMES
Tells (error.Missing path) e = e ≡ Malformed path
Tells (error.Large path) e = e ≡ Limit limit.File MAX_FILE_BYTES
Tells (error.Refused path f) e = TellsFault path f e

-- ---- causes

-- The folder of the metadata has more names than are listed.
abbrev pub HasManyNames : Files → SourceError → Type 0
HasManyNames files e = (MAX_NAMES < length (names_in files metadata_folder)) × (e ≡ Limit limit.Names MAX_NAMES)

-- The first name of compressed metadata is told, or, where there is none, the first name that a catalog gave.
abbrev pub TellsNames : List (List ℕ) → SourceError → Type 0
TellsNames names e =
    ((name : List ℕ) × (find is_compressed names ≡ Some name) × (e ≡ Unsupported CompressedMetadata (path_of name)))
    ⊎ ((find is_compressed names ≡ None) × (name : List ℕ) × (find is_metadata names ≡ Some name) × (e ≡ Unsupported CatalogNames (path_of name)))

-- No version of the metadata is there, but metadata of another name.
abbrev pub HasOtherNames : Files → SourceError → Type 0
HasOtherNames files e = ((version : ℕ) → ¬ HasVersion files version) × TellsNames (names_in files metadata_folder) e

-- This version of the metadata is refused.
abbrev pub IsRefusedVersion : Files → ℕ → SourceError → Type 0
IsRefusedVersion files version e = (cause : IcebergError) × IsFileFault files (version_path version) IsMetadataFault cause × Tells cause e

-- The newest metadata is refused.
abbrev pub IsRefusedMetadata : Files → SourceError → Type 0
IsRefusedMetadata files e = (version : ℕ) × IsNewest (HasVersion files) version × IsRefusedVersion files version e

-- What the metadata says of the snapshot, its manifest list, or one of its manifests is refused.
abbrev pub IsRefusedSnapshot : Files → Metadata → ℕ → Snapshot → SourceError → Type 0
IsRefusedSnapshot files m version s e = (cause : IcebergError) × IsSnapshotRefusal files m version s cause × Tells cause e

-- The names aren't too many to be listed.
abbrev pub HasFewNames : Files → Type 0
HasFewNames files = length (names_in files metadata_folder) ≤ MAX_NAMES

-- Finding the head reads the names, and where they aren't too many the newest metadata.
abbrev pub ShowsAtHead : Files → SourceError → Type 0
ShowsAtHead files e = HasManyNames files e ⊎ (HasFewNames files × (HasOtherNames files e ⊎ IsRefusedMetadata files e))

-- Reading from scratch reads the same, and then the current snapshot.
abbrev pub ShowsFromScratch : Files → SourceError → Type 0
ShowsFromScratch files e =
    ShowsAtHead files e ⊎ ((version : ℕ) × (m : Metadata) × (s : Snapshot) × IsCurrent files version m s × IsRefusedSnapshot files m version s e)
