-- Which files the versions of an Iceberg table reach (Iceberg specification, "Table Metadata and Snapshots").
use Rattle.std.specs.Prelude.{◌≡◌, ℕ, List, Contains}
use Rattle.lake_store.specs.Disk.{Files}
use Rattle.iceberg_live.specs.MetadataPaths.{IsMetadataPath}
use Rattle.iceberg_manifest.specs.declared.info.ManifestInfo.{ManifestInfo}
use Rattle.iceberg_metadata.specs.Grammar.{IsMetadataText}
use Rattle.iceberg_metadata.specs.Schemas.{SchemaReading}
use Rattle.iceberg_metadata.specs.declared.metadata.Metadata.{Metadata}
use Rattle.iceberg_metadata.specs.declared.metadata.Snapshot.{Snapshot}
use Rattle.iceberg_table.specs.Files.{HoldsFile}
use Rattle.iceberg_table.specs.Folder.{HasVersion, version_path}
use Rattle.iceberg_table.specs.Lists.{AreRows}

-- A snapshot that some version holds names its manifest list by this path.
pub record NamesList (files : Files) (path : List ℕ) : Type 0 where
  pub version : ℕ
  pub there : HasVersion files version
  pub bytes : List ℕ
  pub holds : HoldsFile files (version_path version) bytes
  pub readings : List SchemaReading
  pub metadata : Metadata
  pub text : IsMetadataText bytes readings metadata
  pub snapshot : Snapshot
  pub held : Contains metadata.snapshots snapshot
  pub is : IsMetadataPath metadata.location snapshot.list path

-- Such a list names a manifest by this path.
pub record NamesManifest (files : Files) (path : List ℕ) : Type 0 where
  pub list : List ℕ
  pub names : NamesList files list
  pub bytes : List ℕ
  pub holds : HoldsFile files list bytes
  pub infos : List ManifestInfo
  pub rows : AreRows bytes infos
  pub info : ManifestInfo
  pub row : Contains infos info
  pub is : IsMetadataPath names.metadata.location info.manifest_path path

-- The versions reach their own metadata, the lists of the snapshots that they hold, and the manifests of these lists.
pub data IsReached (files : Files) (path : List ℕ) : Type 0 where
  metadata : (version : ℕ) → HasVersion files version → path ≡ version_path version → IsReached files path
  list : NamesList files path → IsReached files path
  manifest : NamesManifest files path → IsReached files path
