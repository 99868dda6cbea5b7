-- What publishing a new version makes of a table's files.
use Rattle.std.specs.Prelude.{◌≡◌, ◌≢◌, ◌⊎◌, ◌<◌, ℕ, List, [], length, Bool, true, None, Some, slice_get, slice_index_or}
use Rattle.std.specs.FinMap as map
use Rattle.lake_store.specs.Disk.{Disk, Files, IsClean}
use Rattle.lake_store.specs.Runs.{IsEachMoment, Keeps, KeepsImage, LeavesAlone}
use Rattle.lake_store.specs.declared.store.Store.{Ghosts}
use Rattle.iceberg_table.specs.Folder.{path_of, version_path}
use Rattle.iceberg_version.specs.Names.{list_name, manifest_name, staged_name}
use Rattle.iceberg_commit.specs.NextVersion.{VersionFiles}

-- ---- paths

-- a path that is written before the version is published
pub data IsAside (new : VersionFiles) (path : List ℕ) : Type 0 where
  manifest : (number : ℕ) → number < length new.manifests → path ≡ path_of (manifest_name new.version number) → IsAside new path
  list : path ≡ path_of (list_name new.version) → IsAside new path
  staged : path ≡ path_of (staged_name new.version) → IsAside new path

abbrev pub IsNotAside : VersionFiles → List ℕ → Type 0
IsNotAside new path = ¬ IsAside new path

-- a path of none of the version's files
pub record IsOther (new : VersionFiles) (path : List ℕ) : Type 0 where
  pub version : path ≢ version_path new.version
  pub aside : IsNotAside new path

-- ---- files

-- The version's metadata, its list and its new manifests have their bytes, the name that the metadata was staged under is gone, and all other files are
-- as before.
pub record IsPublished (new : VersionFiles) (before after : Files) : Type 0 where
  pub metadata : map.get after (version_path new.version) ≡ Some new.metadata
  pub list : map.get after (path_of (list_name new.version)) ≡ Some new.list
  pub manifests : (number : ℕ) → number < length new.manifests → map.get after (path_of (manifest_name new.version number)) ≡ slice_get new.manifests number
  pub staged : map.get after (path_of (staged_name new.version)) ≡ None
  pub others : (path : List ℕ) → IsOther new path → map.get after path ≡ map.get before path

-- So it is, and no path is dirty.
pub record IsDurable (new : VersionFiles) (before : Files) (disk : Disk) : Type 0 where
  pub files : IsPublished new before disk.files
  pub clean : (path : List ℕ) → IsClean disk path

-- Another writer's file has come to the version's path. The version's own files are there, its metadata under the name that it was staged under, and no
-- path is dirty. A crash at any moment since shows all but those files as before, or all files as they are now.
pub record IsForestalled {S : Type 0} (store : Ghosts S) (new : VersionFiles) (old now : S) : Type 0 where
  pub theirs : List ℕ
  pub there : map.get (store.disk now).files (version_path new.version) ≡ Some theirs
  pub list : map.get (store.disk now).files (path_of (list_name new.version)) ≡ Some new.list
  pub manifests : (number : ℕ) → number < length new.manifests → map.get (store.disk now).files (path_of (manifest_name new.version number)) ≡ slice_get new.manifests number
  pub staged : map.get (store.disk now).files (path_of (staged_name new.version)) ≡ Some new.metadata
  pub clean : (path : List ℕ) → IsClean (store.disk now) path
  pub moments : IsEachMoment store old now (λ image. KeepsImage (IsNotAside new) (store.disk old) image ⊎ ((path : List ℕ) → map.get image path ≡ map.get (store.disk now).files path))

-- What publishing the version leaves, whatever it answers.
pub record PublishesVersion {S : Type 0} (store : Ghosts S) (new : VersionFiles) (Uncontested Contested : Type 0) (done : Bool) (old now : S) : Type 0 where
  -- the version, where it is done
  pub all : done ≡ true → IsDurable new (store.disk old).files (store.disk now)
  -- Unless another writer was in the way, all but what is written before is as it was, or the version is published: at return, and after a crash at any
  -- moment as far as the paths weren't dirty.
  pub at_return : Uncontested → Keeps (IsNotAside new) (store.disk old) (store.disk now) ⊎ IsDurable new (store.disk old).files (store.disk now)
  pub moments : Uncontested → IsEachMoment store old now (λ image. KeepsImage (IsNotAside new) (store.disk old) image ⊎ IsPublished new (store.disk old).files image)
  -- another writer's file, where it was first
  pub forestalled : Contested → IsForestalled store new old now
  -- Other files stay.
  pub others : LeavesAlone store (IsOther new) old now

-- ---- the manifests

-- these are the paths of the first manifests of a version
pub record AreManifestPaths (version count : ℕ) (paths : List (List ℕ)) : Type 0 where
  pub count_is : length paths ≡ count
  pub at : (number : ℕ) → number < count → slice_index_or paths number [] ≡ path_of (manifest_name version number)

-- no two of the paths are one
abbrev pub AreApart : List (List ℕ) → Type 0
AreApart paths = (j k : ℕ) → j < k → k < length paths → slice_index_or paths j [] ≢ slice_index_or paths k []

abbrev pub IsNoneOf : List (List ℕ) → List ℕ → Type 0
IsNoneOf paths path = (k : ℕ) → k < length paths → path ≢ slice_index_or paths k []

-- each of the paths has its bytes
abbrev pub HaveBytes : List (List ℕ) → List (List ℕ) → Files → Type 0
HaveBytes paths texts files = (k : ℕ) → k < length texts → map.get files (slice_index_or paths k []) ≡ slice_get texts k
