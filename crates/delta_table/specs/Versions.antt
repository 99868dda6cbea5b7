-- Which versions of a Delta table's log a folder holds (Delta protocol, "Delta Log Entries").
use Rattle.std.specs.Prelude.{◌≡◌, ◌≤◌, ◌+◌, ℕ, List, ◌++◌, Contains, Some, codes}
use Rattle.std.specs.FinMap as map
use Rattle.lake_store.specs.Disk.{Files}
use Rattle.delta_log.specs.VersionName.{IsVersionName}
use Rattle.delta_table.specs.declared.versions.Versions.{Versions}

abbrev pub log_folder : List ℕ
log_folder = codes "_delta_log"

-- the path of the commit of a version
pub record IsVersionPath (path : List ℕ) (version : ℕ) : Type 0 where
  pub name : List ℕ
  pub named : IsVersionName name version
  pub split : path ≡ codes "_delta_log/" ++ name

-- The commit of the version is there, with these bytes.
pub record HoldsVersion (files : Files) (version : ℕ) (bytes : List ℕ) : Type 0 where
  pub path : List ℕ
  pub is : IsVersionPath path version
  pub there : map.get files path ≡ Some bytes

abbrev pub HasVersion : Files → ℕ → Type 0
HasVersion files version = (bytes : List ℕ) × HoldsVersion files version bytes

-- one of these names is the version's
abbrev pub IsNamed : List (List ℕ) → ℕ → Type 0
IsNamed names version = (name : List ℕ) × Contains names name × IsVersionName name version

-- Of the versions that are held, `newest` is the last, and `first` the first from which on none is missing up to it.
pub record AreVersions (Held : ℕ → Type 0) (versions : Versions) : Type 0 where
  pub there : Held versions.newest
  pub last : (version : ℕ) → Held version → version ≤ versions.newest
  pub within : versions.first ≤ versions.newest
  pub run : (version : ℕ) → versions.first ≤ version → version ≤ versions.newest → Held version
  pub gap : (version : ℕ) → version + 1 ≡ versions.first → Held version → ⊥
