-- Which files the versions of an Iceberg target reach, and when no crash and no leftover can change what they stand for.
use Rattle.std.specs.Prelude.{◌≡◌, ◌≤◌, ◌<◌, ◌≤ℤ◌, ℕ, ℤ, pos, List, length, Contains, Some}
use Rattle.lake_basics.specs.declared.limits.TheConstants.{MAX_MANIFEST_ENTRIES}
use Rattle.lake_store.specs.Disk.{Disk, Files, IsDirty}
use Rattle.lake_store.specs.Runs.{IsIn}
use Rattle.iceberg_manifest.specs.Entry.{EntryData}
use Rattle.iceberg_live.specs.MetadataPaths.{IsMetadataPath}
use Rattle.iceberg_manifest.specs.declared.info.ManifestInfo.{ManifestInfo}
use Rattle.iceberg_metadata.specs.Grammar.{IsMetadataText}
use Rattle.iceberg_metadata.specs.Schemas.{SchemaReading}
use Rattle.iceberg_metadata.specs.declared.metadata.Metadata.{Metadata}
use Rattle.iceberg_metadata.specs.declared.metadata.Snapshot.{Snapshot}
use Rattle.iceberg_table.specs.Files.{HoldsFile, SaysMetadata}
use Rattle.iceberg_table.specs.Folder.{HasVersion, IsNewest, metadata_folder, path_of, version_path}
use Rattle.iceberg_table.specs.Lists.{AreRows}
use Rattle.iceberg_table.specs.Manifests.{SaysManifest}
use Rattle.iceberg_table.specs.Plan.{part_columns}
use Rattle.iceberg_table.specs.declared.list.ManifestFile.{ManifestFile}
use Rattle.iceberg_version.specs.Names.{list_name, manifest_name, staged_name}
use Rattle.target_iceberg.specs.Leftovers.{IsLeftover}
use Rattle.target_iceberg.specs.Reading.{SaysCurrent}

-- ---- what is reached

-- A snapshot that some version holds names its manifest list by this path.
pub record NamesList (files : Files) (path : List ℕ) : Type 0 where
  pub version : ℕ
  pub there : HasVersion files version
  pub bytes : List ℕ
  pub holds : HoldsFile files (version_path version) bytes
  pub readings : List SchemaReading
  pub metadata : Metadata
  pub text : IsMetadataText bytes readings metadata
  pub snapshot : Snapshot
  pub held : Contains metadata.snapshots snapshot
  pub is : IsMetadataPath metadata.location snapshot.list path

-- Such a list names a manifest by this path.
pub record NamesManifest (files : Files) (path : List ℕ) : Type 0 where
  pub list : List ℕ
  pub names : NamesList files list
  pub bytes : List ℕ
  pub holds : HoldsFile files list bytes
  pub infos : List ManifestInfo
  pub rows : AreRows bytes infos
  pub info : ManifestInfo
  pub row : Contains infos info
  pub is : IsMetadataPath names.metadata.location info.manifest_path path

-- The versions reach their own metadata, the lists of the snapshots that they hold, and the manifests of these lists.
pub data IsReached (files : Files) (path : List ℕ) : Type 0 where
  metadata : (version : ℕ) → HasVersion files version → path ≡ version_path version → IsReached files path
  list : NamesList files path → IsReached files path
  manifest : NamesManifest files path → IsReached files path

-- ---- leftovers

-- Nothing that is reached has a name that a later commit writes: none is one that metadata is staged under, and none is that of a later version's
-- metadata, list or manifests.
pub record LeavesNames (files : Files) (newest : ℕ) : Type 0 where
  pub staged : (version : ℕ) → ¬ IsReached files (path_of (staged_name version))
  pub metadata : (version : ℕ) → newest < version → ¬ IsReached files (version_path version)
  pub lists : (version : ℕ) → newest < version → ¬ IsReached files (path_of (list_name version))
  pub manifests : (version number : ℕ) → newest < version → ¬ IsReached files (path_of (manifest_name version number))

-- No row of the newest version's current list, and no entry of the manifests that it names, is of a later snapshot, and none of these manifests has
-- more entries than one that is written.
pub record HasOwnEntries (files : Files) (newest : ℕ) (m : Metadata) (current : SaysCurrent files m) : Type 0 where
  pub rows : (file : ManifestFile) → Contains current.list file → file.info.added_snapshot_id ≤ℤ pos newest
  pub entries : (file : ManifestFile) (entries : List EntryData) (entry : EntryData) (snapshot : ℤ) → Contains current.list file → SaysManifest files (part_columns current.plan.columns) file.path entries → Contains entries entry → entry.snapshot ≡ Some snapshot
      → snapshot ≤ℤ pos newest
  pub few : (file : ManifestFile) (entries : List EntryData) → Contains current.list file → SaysManifest files (part_columns current.plan.columns) file.path entries → length entries ≤ MAX_MANIFEST_ENTRIES

-- Commits can go on from the newest version: what they write under is free.
pub record CanGoOn (files : Files) (newest : ℕ) : Type 0 where
  pub names : LeavesNames files newest
  pub entries : (m : Metadata) → SaysMetadata files newest m → (current : SaysCurrent files m) → HasOwnEntries files newest m current

-- Each dirty path in the folder is one that some commit may have written and not published, and nothing that is reached is dirty.
pub record IsSettled (disk : Disk) : Type 0 where
  pub leftovers : (path : List ℕ) → IsIn metadata_folder path → IsDirty disk path → IsLeftover path
  pub unreached : (path : List ℕ) → IsDirty disk path → ¬ IsReached disk.files path
  pub goes_on : (newest : ℕ) → IsNewest (HasVersion disk.files) newest → CanGoOn disk.files newest
