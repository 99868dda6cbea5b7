-- How the versions of an Iceberg table are read for what they reach (Iceberg specification, "Table Metadata and Snapshots" and "Manifest Lists").
use Rattle.std.specs.Prelude.{◌≡◌, ◌⊎◌, ◌↔◌, ◌<◌, ℕ, List, ◌∷◌, ◌++◌, length, Contains}
use Rattle.std.specs.List.{IsDistinct}
use Rattle.std.specs.List.Sorted.{IsStrictlySortedBy}
use Rattle.std.specs.Ordering.{nat_cmp}
use Rattle.std.specs.Str.{bytes_eq}
use Rattle.lake_store.specs.Disk.{Files}
use Rattle.iceberg_live.specs.MetadataPaths.{IsMetadataPath}
use Rattle.iceberg_manifest.specs.Lists.{AreEach}
use Rattle.iceberg_metadata.specs.declared.metadata.Metadata.{Metadata}
use Rattle.iceberg_metadata.specs.declared.metadata.Snapshot.{Snapshot}
use Rattle.iceberg_table.specs.Errors.{IsFileFault}
use Rattle.iceberg_table.specs.Files.{HoldsShortFile, SaysMetadata}
use Rattle.iceberg_table.specs.Folder.{HasVersion, version_path}
use Rattle.iceberg_table.specs.Lists.{IsListFault, SaysList}
use Rattle.iceberg_table.specs.Refusals.{IsMetadataFault}
use Rattle.iceberg_table.specs.declared.error.IcebergError.{IcebergError}
use Rattle.iceberg_table.specs.declared.list.ManifestFile.{ManifestFile}
use Rattle.target_leftovers.specs.Reached.{NamesList, NamesManifest}
use Rattle.lake_sweep.specs.Told.{told_of}
use Rattle.lake_sweep.specs.declared.error.SweepError.{SweepError}
use Rattle.lake_sweep.specs.declared.error.SweepError.TheVariants.{Foreign}

-- ---- what is read

-- The version's metadata is read, and the lists of its snapshots, in their order, lie at these paths in the table's folder of metadata.
pub record SaysLists (files : Files) (version : ℕ) (m : Metadata) (paths : List (List ℕ)) : Type 0 where
  pub says : SaysMetadata files version m
  pub lists : AreEach (λ (s : Snapshot). IsMetadataPath m.location s.list) m.snapshots paths

-- The list at this path is read, and isn't larger than a file that is read.
pub record IsListRead (files : Files) (m : Metadata) (path : List ℕ) : Type 0 where
  pub list : List ManifestFile
  pub says : SaysList files m path list
  pub short : HoldsShortFile files path

-- the lists at these paths are read
abbrev pub AreListsRead : Files → Metadata → List (List ℕ) → Type 0
AreListsRead files m paths = (path : List ℕ) → Contains paths path → IsListRead files m path

-- The version's metadata is read, and so is each of the lists of its snapshots.
pub record IsVersionRead (files : Files) (version : ℕ) : Type 0 where
  pub metadata : Metadata
  pub paths : List (List ℕ)
  pub says : SaysLists files version metadata paths
  pub lists : AreListsRead files metadata paths

-- each version among these that is there is read
abbrev pub AreVersionsRead : Files → (ℕ → Type 0) → Type 0
AreVersionsRead files Among = (version : ℕ) → Among version → HasVersion files version → IsVersionRead files version

-- ---- what isn't

-- The list of one of the snapshots doesn't lie in the table's folder of metadata.
abbrev pub LacksList : Metadata → Type 0
LacksList m = (s : Snapshot) × Contains m.snapshots s × ((path : List ℕ) → ¬ IsMetadataPath m.location s.list path)

-- The version's metadata is refused so: it can't be read, or it lacks the list of a snapshot.
abbrev pub IsVersionRefused : Files → ℕ → SweepError → Type 0
IsVersionRefused files version e =
    ((told : IcebergError) × IsFileFault files (version_path version) IsMetadataFault told × (e ≡ told_of told))
    ⊎ ((m : Metadata) × SaysMetadata files version m × LacksList m × (e ≡ Foreign (version_path version)))

-- The list at this path is refused so: it can't be read, or a row of it names no manifest that is taken.
abbrev pub IsListRefused : Files → Metadata → List ℕ → SweepError → Type 0
IsListRefused files m path e = (told : IcebergError) × IsFileFault files path (IsListFault m) told × (e ≡ told_of told)

-- Of these lists one is refused so, and those before it are read.
pub record IsOneRefused (files : Files) (m : Metadata) (paths : List (List ℕ)) (e : SweepError) : Type 0 where
  pub front : List (List ℕ)
  pub path : List ℕ
  pub behind : List (List ℕ)
  pub split : paths ≡ front ++ path ∷ behind
  pub before : AreListsRead files m front
  pub refused : IsListRefused files m path e

-- One of the version's lists is refused so.
abbrev pub HasListRefused : Files → ℕ → SweepError → Type 0
HasListRefused files version e = (m : Metadata) × (paths : List (List ℕ)) × SaysLists files version m paths × IsOneRefused files m paths e

-- The first file that is refused is refused so: the versions rise, and the lists of each come after it in the order of its snapshots.
pub record IsFirstRefused (files : Files) (e : SweepError) : Type 0 where
  pub version : ℕ
  pub there : HasVersion files version
  pub before : AreVersionsRead files (λ earlier. earlier < version)
  pub refused : IsVersionRefused files version e ⊎ HasListRefused files version e

-- ---- how many there are

-- so many versions are there
pub record CountsVersions (files : Files) (count : ℕ) : Type 0 where
  pub versions : List ℕ
  pub rising : IsStrictlySortedBy nat_cmp versions
  pub members : (version : ℕ) → Contains versions version ↔ HasVersion files version
  pub count_is : count ≡ length versions

-- so many lists and manifests are reached, each counted once
pub record CountsReached (files : Files) (count : ℕ) : Type 0 where
  pub paths : List (List ℕ)
  pub distinct : IsDistinct bytes_eq paths
  pub members : (path : List ℕ) → Contains paths path ↔ (NamesList files path ⊎ NamesManifest files path)
  pub count_is : count ≡ length paths
