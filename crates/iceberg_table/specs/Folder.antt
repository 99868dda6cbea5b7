-- Which versions of a table's metadata its folder holds (Iceberg specification, "File System Tables").
use Rattle.std.specs.Prelude.{◌≤◌, ◌||◌, ℕ, nat_eq, nat_lt, Bool, List, ◌++◌, Contains, Option, None, Some, codes, if◌then◌else◌}
use Rattle.std.specs.Fmt.{decimal}
use Rattle.lake_store.specs.Disk.{Files, names_in}
use Rattle.iceberg_metadata.specs.VersionName.{IsVersionName}
use Rattle.std.specs.List.{ends_with}

abbrev pub metadata_folder : List ℕ
metadata_folder = codes "metadata"

-- the path of the file of this name
abbrev pub path_of : List ℕ → List ℕ
path_of name = codes "metadata/" ++ name

-- the path of the metadata of a version
abbrev pub version_path : ℕ → List ℕ
version_path version = path_of (codes "v" ++ (decimal version ++ codes ".metadata.json"))

-- ---- versions

-- one of these names is the version's
abbrev pub IsNamed : List (List ℕ) → ℕ → Type 0
IsNamed names version = (name : List ℕ) × Contains names name × IsVersionName name version

-- the metadata of the version is there
abbrev pub HasVersion : Files → ℕ → Type 0
HasVersion files version = IsNamed (names_in files metadata_folder) version

-- the last of those that are held
pub record IsNewest (Held : ℕ → Type 0) (version : ℕ) : Type 0 where
  pub there : Held version
  pub last : (other : ℕ) → Held other → other ≤ version

-- the newer of two, where there are two
abbrev pub newer : Option ℕ → Option ℕ → Option ℕ
newer None found = found
newer (Some version) None = Some version
newer (Some version) (Some other) = Some (if nat_lt version other then other else version)

-- ---- other metadata

-- the name of compressed metadata
abbrev pub is_compressed : List ℕ → Bool
is_compressed name = ends_with nat_eq name (codes ".metadata.json.gz") || ends_with nat_eq name (codes ".gz.metadata.json")

-- the name of metadata, perhaps one that a catalog gave
abbrev pub is_metadata : List ℕ → Bool
is_metadata name = ends_with nat_eq name (codes ".metadata.json")
