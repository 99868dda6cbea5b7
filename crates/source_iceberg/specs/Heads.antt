-- The current snapshot of an Iceberg table, and the table there (Iceberg specification, "Table Metadata", "Snapshots" and "Scan Planning").
use Rattle.std.specs.Prelude.{◌≡◌, ◌⊎◌, ◌≤◌, ℕ, List, [], ◌∷◌, Contains, false, Some, None, length}
use Rattle.std.specs.Fmt.{signed_decimal}
use Rattle.lake_basics.specs.declared.limits.TheConstants.{MAX_NAMES}
use Rattle.lake_store.specs.Disk.{Files, names_in}
use Rattle.table_history.specs.First.{NoneOf}
use Rattle.table_history.specs.declared.table.Table.{Table}
use Rattle.iceberg_ancestry.specs.Ancestry.{held_at}
use Rattle.iceberg_metadata.specs.Grammar.{IsMetadataText}
use Rattle.iceberg_metadata.specs.Reading.{HasCause}
use Rattle.iceberg_metadata.specs.Schemas.{SchemaReading}
use Rattle.iceberg_metadata.specs.declared.error.MetadataError.{MetadataError}
use Rattle.iceberg_metadata.specs.declared.error.MetadataError.TheVariants.{FormatVersion, SchemaType, Transform, Renamed, PartitionType}
use Rattle.iceberg_metadata.specs.declared.metadata.Metadata.{Metadata}
use Rattle.iceberg_metadata.specs.declared.metadata.Snapshot.{Snapshot}
use Rattle.iceberg_table.specs.Files.{HoldsFile, SaysMetadata}
use Rattle.iceberg_table.specs.Folder.{HasVersion, IsNewest, is_compressed, is_metadata, metadata_folder, version_path}
use Rattle.iceberg_table.specs.Snapshots.{IsReadAs, IsTableOfSnapshot}
use Rattle.iceberg_table.specs.declared.snapshot.SnapshotTable.{SnapshotTable}
use Rattle.source_core.specs.declared.head.Head.{Head}

-- ---- the newest metadata

-- The newest version of the metadata says this. It is in its grammar, shows no feature that isn't supported, and passes no number.
pub record IsNewestMetadata (files : Files) (version : ℕ) (m : Metadata) : Type 0 where
  pub newest : IsNewest (HasVersion files) version
  pub says : SaysMetadata files version m

-- the features that metadata can show
abbrev pub metadata_features : List MetadataError
metadata_features = FormatVersion ∷ SchemaType ∷ Transform ∷ Renamed ∷ PartitionType ∷ []

-- The newest version of the metadata says this. It is in its grammar but for cycles. The features that it shows and numbers are no matter.
pub record StatesMetadata (files : Files) (version : ℕ) (m : Metadata) : Type 0 where
  pub newest : IsNewest (HasVersion files) version
  pub bytes : List ℕ
  pub holds : HoldsFile files (version_path version) bytes
  pub readings : List SchemaReading
  pub text : IsMetadataText bytes readings m

-- So it does, and shows no feature. Numbers are no matter.
pub record StandsForMetadata (files : Files) (version : ℕ) (m : Metadata) : Type 0 where
  pub states : StatesMetadata files version m
  pub supported : NoneOf (HasCause states.bytes) metadata_features

-- ---- where there is no table

-- None of these is the name of compressed metadata, or of metadata that a catalog named.
abbrev pub HasNoName : List (List ℕ) → Type 0
HasNoName names = (name : List ℕ) → Contains names name → (is_compressed name ≡ false) × (is_metadata name ≡ false)

-- No version of the metadata is there, nor metadata of another name.
pub record HasNoMetadata (files : Files) : Type 0 where
  pub versions : (version : ℕ) → ¬ HasVersion files version
  pub names : HasNoName (names_in files metadata_folder)

-- The newest metadata has no current snapshot, so that its parents can't form a cycle.
abbrev pub HasNoSnapshot : Files → Type 0
HasNoSnapshot files = (version : ℕ) × (m : Metadata) × StandsForMetadata files version m × (m.current_snapshot ≡ None)

abbrev pub IsAbsent : Files → Type 0
IsAbsent files = HasNoMetadata files ⊎ HasNoSnapshot files

-- ---- the head, and the table there

-- The newest metadata says this, and its current snapshot is this one.
pub record IsCurrent (files : Files) (version : ℕ) (m : Metadata) (s : Snapshot) : Type 0 where
  pub metadata : IsNewestMetadata files version m
  pub held : held_at m.snapshots m.current_snapshot ≡ Some s

-- The current snapshot's id in decimal, and the table's UUID, where the names in the metadata's folder aren't too many to be listed. Nothing is pending in an Iceberg table.
pub record IsIcebergHead (files : Files) (head : Head) : Type 0 where
  pub version : ℕ
  pub metadata : Metadata
  pub snapshot : Snapshot
  pub current : IsCurrent files version metadata snapshot
  pub position : head.position ≡ signed_decimal snapshot.id
  pub pending : head.pending ≡ None
  pub table : head.table ≡ Some metadata.uuid
  pub few : length (names_in files metadata_folder) ≤ MAX_NAMES

-- The table that the current snapshot stands for, whose rows are just the live ones. The snapshot's list and manifests can be read.
pub record IsTableAtHead (files : Files) (table : Table) : Type 0 where
  pub version : ℕ
  pub metadata : Metadata
  pub snapshot : Snapshot
  pub current : IsCurrent files version metadata snapshot
  pub is : IsTableOfSnapshot files metadata snapshot table
  pub read : (t : SnapshotTable) × IsReadAs files metadata snapshot t
