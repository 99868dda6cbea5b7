-- What was read so far of an Iceberg table's versions.
use Rattle.std.specs.Prelude.{◌≡◌, ◌⊎◌, ◌↔◌, ℕ, List, Contains}
use Rattle.std.specs.List.{IsDistinct}
use Rattle.std.specs.Str.{bytes_eq}
use Rattle.lake_store.specs.Disk.{Files}
use Rattle.iceberg_metadata.specs.declared.metadata.Metadata.{Metadata}
use Rattle.iceberg_table.specs.Files.{HoldsShortFile}
use Rattle.iceberg_table.specs.Folder.{path_of}
use Rattle.iceberg_table.specs.Lists.{SaysList}
use Rattle.iceberg_table.specs.declared.list.ManifestFile.{ManifestFile}
use Rattle.target_leftovers.specs.Names.{IsIcebergName}
use Rattle.target_leftovers.specs.Reached.{NamesList, NamesManifest}
use Rattle.lake_sweep.specs.Versions.{IsListRead, SaysLists}
use Rattle.lake_sweep.specs.declared.reached.Reached.{Reached}

-- A list at a path, by the metadata that holds it.
pub record ListOf : Type 0 where
  pub metadata : Metadata
  pub path : List ℕ

abbrev pub IsRead : Files → ListOf → Type 0
IsRead files l = IsListRead files l.metadata l.path

-- The list at this path names these manifests and no others, and isn't larger than a file that is read.
pub record NamesOnly (files : Files) (m : Metadata) (path : List ℕ) (manifests : List ManifestFile) : Type 0 where
  pub says : SaysList files m path manifests
  pub only : (others : List ManifestFile) → SaysList files m path others → others ≡ manifests
  pub short : HoldsShortFile files path

-- the path is that of one of these manifests
abbrev pub IsNamedIn : List ManifestFile → List ℕ → Type 0
IsNamedIn list path = (file : ManifestFile) × Contains list file × (path ≡ file.path)

-- the path is that of the list, or of a manifest that it names
abbrev pub NamesPath : Files → ListOf → List ℕ → Type 0
NamesPath files l path = (path ≡ l.path) ⊎ ((list : List ManifestFile) × SaysList files l.metadata l.path list × IsNamedIn list path)

-- These lists were read. The paths are those of the lists and of their manifests, each once, and the lists that are marked as read are some of those that
-- have this location and this default spec.
pub record HasRead (files : Files) (lists : List ListOf) (r : Reached) : Type 0 where
  pub read : (l : ListOf) → Contains lists l → IsRead files l
  pub distinct : IsDistinct bytes_eq r.paths.keys
  pub members : (path : List ℕ) → Contains r.paths.keys path ↔ ((l : ListOf) × Contains lists l × NamesPath files l path)
  pub marked : (path : List ℕ) → Contains r.read.keys path → (l : ListOf) × Contains lists l × (l.path ≡ path) × (l.metadata.location ≡ r.location) × (l.metadata.default_spec ≡ r.spec)

-- The lists that are marked as read have the location and the default spec of this metadata.
pub record IsAt (m : Metadata) (r : Reached) : Type 0 where
  pub location : r.location ≡ m.location
  pub spec : r.spec ≡ m.default_spec

abbrev pub list_at : Metadata → List ℕ → ListOf
list_at m path = record { metadata = m; path = path }

-- These are the lists of these versions.
pub record AreListsOf (files : Files) (versions : List ℕ) (lists : List ListOf) : Type 0 where
  pub from : (l : ListOf) → Contains lists l → (version : ℕ) × Contains versions version × ((paths : List (List ℕ)) × SaysLists files version l.metadata paths × Contains paths l.path)
  pub all : (version : ℕ) → Contains versions version → (m : Metadata) × (paths : List (List ℕ)) × SaysLists files version m paths × ((path : List ℕ) → Contains paths path → Contains lists (list_at m path))

-- So they were read.
pub record HasReadVersions (files : Files) (versions : List ℕ) (r : Reached) : Type 0 where
  pub lists : List ListOf
  pub are : AreListsOf files versions lists
  pub read : HasRead files lists r

-- What was reached is all that the versions reach: these are the paths of their lists and manifests.
pub record IsWhole (files : Files) (r : Reached) : Type 0 where
  pub members : (path : List ℕ) → Contains r.paths.keys path ↔ (NamesList files path ⊎ NamesManifest files path)

-- A commit may have written the name, and it isn't among what was reached.
abbrev pub IsFree : Reached → List ℕ → Type 0
IsFree r name = IsIcebergName name × ¬ Contains r.paths.keys (path_of name)
