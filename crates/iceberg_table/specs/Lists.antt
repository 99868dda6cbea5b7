-- What a snapshot's manifest list says (Iceberg specification, "Manifest Lists").
use Rattle.std.specs.Prelude.{◌≡◌, ◌≢◌, ◌⊎◌, ℕ, pos, List, Contains}
use Rattle.lake_basics.specs.declared.outcome.ReadError.TheVariants as read
use Rattle.lake_store.specs.Disk.{Files}
use Rattle.avro_value.specs.declared.api.TheConstants.{MAX_VALUES}
use Rattle.table_history.specs.declared.feature.Feature.TheVariants as feature
use Rattle.iceberg_manifest.specs.Containers.{StandsFor, IsRefusedBy}
use Rattle.iceberg_manifest.specs.ListWriting.{HasContent}
use Rattle.iceberg_manifest.specs.Lists.{AreEach}
use Rattle.iceberg_live.specs.MetadataPaths.{IsMetadataPath}
use Rattle.iceberg_manifest.specs.Scans.{infos_of}
use Rattle.iceberg_manifest.specs.declared.error.ManifestError.{ManifestError}
use Rattle.iceberg_manifest.specs.declared.info.ManifestInfo.{ManifestInfo}
use Rattle.iceberg_metadata.specs.declared.metadata.Metadata.{Metadata}
use Rattle.iceberg_table.specs.Errors.{manifest_fault}
use Rattle.iceberg_table.specs.Files.{HoldsFile}
use Rattle.iceberg_table.specs.Order.{Stops, StopsAt}
use Rattle.iceberg_table.specs.Plan.{ShowsPath}
use Rattle.iceberg_table.specs.declared.error.Fault.{Fault}
use Rattle.iceberg_table.specs.declared.error.Fault.TheVariants as fault
use Rattle.iceberg_table.specs.declared.list.ManifestFile.{ManifestFile}

-- A manifest of deletes has delete files that are live.
abbrev pub HasDeletes : ManifestInfo → Type 0
HasDeletes info = (info.content ≢ pos 0) × ((info.added_files_count ≢ pos 0) ⊎ (info.existing_files_count ≢ pos 0))

-- The row names a manifest in the table's folder of metadata, of the default spec and without live deletes.
pub record IsListed (m : Metadata) (info : ManifestInfo) (file : ManifestFile) : Type 0 where
  pub path : IsMetadataPath m.location info.manifest_path file.path
  pub row : file.info ≡ info
  pub spec : info.partition_spec_id ≡ m.default_spec
  pub deletes : ¬ HasDeletes info

-- The row shows this: first its path is judged, then its spec, and then its deletes.
abbrev pub IsRowFault : Metadata → ManifestInfo → Fault → Type 0
IsRowFault m info =
    Stops (IsMetadataPath m.location info.manifest_path) (ShowsPath m.location info.manifest_path)
    (λ path f. ((info.partition_spec_id ≢ m.default_spec) × (f ≡ fault.Unsupported feature.PartitionSpecs)) ⊎ ((info.partition_spec_id ≡ m.default_spec) × HasDeletes info × (f ≡ fault.Unsupported feature.RowDeletes)))

-- The bytes are a list of these rows.
abbrev pub AreRows : List ℕ → List ManifestInfo → Type 0
AreRows bytes infos = StandsFor MAX_VALUES infos_of bytes infos

-- Each of these manifests is one of data or of deletes.
abbrev pub HaveContents : List ManifestFile → Type 0
HaveContents list = (file : ManifestFile) → Contains list file → HasContent file.info

-- The list at this path is there and names these manifests, in the order of its rows.
pub record SaysList (files : Files) (m : Metadata) (path : List ℕ) (list : List ManifestFile) : Type 0 where
  pub bytes : List ℕ
  pub holds : HoldsFile files path bytes
  pub infos : List ManifestInfo
  pub rows : AreRows bytes infos
  pub listed : AreEach (IsListed m) infos list

-- The bytes are no list, or the first of its rows that shows something shows this.
abbrev pub IsListFault : Metadata → List ℕ → Fault → Type 0
IsListFault m bytes =
    Stops (AreRows bytes) (λ f. (e : ManifestError) × IsRefusedBy MAX_VALUES infos_of bytes e × (manifest_fault e ≡ read.Fault f))
    (λ infos. StopsAt (IsListed m) (λ list. IsRowFault m) infos)
