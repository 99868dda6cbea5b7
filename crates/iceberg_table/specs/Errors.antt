-- What is told of a refusal below.
use Rattle.std.specs.Prelude.{◌≡◌, ℕ, ◌<◌, List, length, None}
use Rattle.std.specs.FinMap as map
use Rattle.lake_basics.specs.declared.limits.TheConstants.{MAX_FILE_BYTES}
use Rattle.lake_basics.specs.declared.outcome.ReadError.{ReadError}
use Rattle.lake_basics.specs.declared.outcome.ReadError.TheVariants as read
use Rattle.lake_store.specs.Disk.{Files}
use Rattle.lake_store.specs.declared.store.StoreError.{StoreError}
use Rattle.lake_store.specs.declared.store.StoreError.TheVariants as store
use Rattle.table_history.specs.declared.feature.Feature.TheVariants as feature
use Rattle.iceberg_manifest.specs.declared.error.ManifestError.{ManifestError}
use Rattle.iceberg_manifest.specs.declared.error.ManifestError.TheVariants as manifest
use Rattle.iceberg_metadata.specs.declared.error.MetadataError.{MetadataError}
use Rattle.iceberg_metadata.specs.declared.error.MetadataError.TheVariants as metadata
use Rattle.iceberg_table.specs.Files.{HoldsFile}
use Rattle.iceberg_table.specs.declared.error.Fault.{Fault}
use Rattle.iceberg_table.specs.declared.error.Fault.TheVariants as fault
use Rattle.iceberg_table.specs.declared.error.IcebergError.{IcebergError}
use Rattle.iceberg_table.specs.declared.error.IcebergError.TheVariants as error

-- ---- names for the faults below

abbrev pub metadata_fault : MetadataError → ReadError Fault
metadata_fault metadata.Memory = read.Memory
metadata_fault metadata.FormatVersion = read.Fault (fault.Unsupported feature.FormatVersion)
metadata_fault metadata.Malformed = read.Fault fault.Malformed
metadata_fault metadata.SchemaType = read.Fault (fault.Unsupported feature.SchemaType)
metadata_fault metadata.Transform = read.Fault (fault.Unsupported feature.Transform)
metadata_fault metadata.Renamed = read.Fault (fault.Unsupported feature.Renamed)
metadata_fault metadata.PartitionType = read.Fault (fault.Unsupported feature.PartitionType)
metadata_fault (metadata.Limit which) = read.Fault (fault.Limit which)

abbrev pub manifest_fault : ManifestError → ReadError Fault
manifest_fault manifest.Memory = read.Memory
manifest_fault manifest.Malformed = read.Fault fault.Malformed
manifest_fault manifest.Codec = read.Fault (fault.Unsupported feature.AvroCodec)
manifest_fault manifest.RowDeletes = read.Fault (fault.Unsupported feature.RowDeletes)
manifest_fault manifest.FileFormat = read.Fault (fault.Unsupported feature.FileFormat)
manifest_fault manifest.OutsideTable = read.Fault (fault.Unsupported feature.OutsideTable)
manifest_fault (manifest.Limit which) = read.Fault (fault.Limit which)

-- what is told of a folder that couldn't be listed
abbrev pub error_of_list : StoreError → IcebergError
error_of_list store.Memory = error.Memory
error_of_list store.Failed = error.StoreFault
error_of_list (store.TooLong n) = error.ManyNames
error_of_list store.Taken = error.Memory

-- of a file that couldn't be read
abbrev pub error_of_read : List ℕ → StoreError → IcebergError
error_of_read path store.Memory = error.Memory
error_of_read path store.Failed = error.StoreFault
error_of_read path (store.TooLong n) = error.Large path
error_of_read path store.Taken = error.Memory

-- of what a file says
abbrev pub error_at : List ℕ → ReadError Fault → IcebergError
error_at path read.Memory = error.Memory
error_at path (read.Fault f) = error.Refused path f

-- ---- causes

-- Want of memory has no cause, and a fault has this one.
abbrev pub IsFault : (Fault → Type 0) → ReadError Fault → Type 0
IsFault Shows read.Memory = Unit {0}
IsFault Shows (read.Fault f) = Shows f

-- Want of memory and a fault of the store have no cause in the files, and any other refusal has this one.
abbrev pub IsRefusal : (IcebergError → Type 0) → IcebergError → Type 0
IsRefusal Shows error.Memory = Unit {0}
IsRefusal Shows error.StoreFault = Unit {0}
IsRefusal Shows error.ManyNames = Shows error.ManyNames
IsRefusal Shows (error.Missing path) = Shows (error.Missing path)
IsRefusal Shows (error.Large path) = Shows (error.Large path)
IsRefusal Shows (error.Refused path f) = Shows (error.Refused path f)

-- The file at this path isn't there, has more bytes than are read, or has bytes that show this fault.
abbrev pub IsFileFault : Files → List ℕ → (List ℕ → Fault → Type 0) → IcebergError → Type 0
IsFileFault files path Shows error.Memory = ⊥
IsFileFault files path Shows error.StoreFault = ⊥
IsFileFault files path Shows error.ManyNames = ⊥
IsFileFault files path Shows (error.Missing p) = (p ≡ path) × (map.get files path ≡ None)
IsFileFault files path Shows (error.Large p) = (p ≡ path) × (bytes : List ℕ) × HoldsFile files path bytes × (MAX_FILE_BYTES < length bytes)
IsFileFault files path Shows (error.Refused p f) = (p ≡ path) × (bytes : List ℕ) × HoldsFile files path bytes × Shows bytes f

-- The file at this path is refused for this fault.
abbrev pub IsTold : List ℕ → (Fault → Type 0) → IcebergError → Type 0
IsTold path Shows e = (f : Fault) × (e ≡ error.Refused path f) × Shows f
