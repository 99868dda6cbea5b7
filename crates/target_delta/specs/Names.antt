-- The names in a Delta log's folder (Delta protocol, "Delta Log Entries"), and the names that a commit is staged under.
use Rattle.std.specs.Prelude.{◌≡◌, ℕ, ◌<◌, ◌≤◌, ◌+◌, List, ◌++◌, length, codes, IsSome}
use Rattle.std.specs.FinMap as map
use Rattle.std.specs.Str.Parse.{IsNumeral}
use Rattle.lake_basics.specs.declared.limits.TheConstants.{MAX_DELTA_VERSION}
use Rattle.lake_store.specs.Disk.{Disk, Files, IsDirty}
use Rattle.lake_store.specs.Runs.{IsIn}
use Rattle.delta_log.specs.VersionName.{IsVersionName}
use Rattle.delta_table.specs.Versions.{HasVersion, IsVersionPath, log_folder}

-- the path of this name in the log's folder
abbrev pub path_of : List ℕ → List ℕ
path_of name = codes "_delta_log/" ++ name

abbrev pub leftover_front : List ℕ
leftover_front = codes ".lakebridge-"

-- a name that a commit may have been staged under: 20 digits between `.lakebridge-` and `.json`
pub record IsLeftoverName (name : List ℕ) : Type 0 where
  pub digits : List ℕ
  pub len : length digits ≡ 20
  pub numeral : IsNumeral 10 digits
  pub split : name ≡ leftover_front ++ (digits ++ codes ".json")

pub record IsLeftover (path : List ℕ) : Type 0 where
  pub name : List ℕ
  pub leftover : IsLeftoverName name
  pub is : path ≡ path_of name

-- the path that a version is staged under
pub record IsStagedPath (path : List ℕ) (version : ℕ) : Type 0 where
  pub name : List ℕ
  pub named : IsVersionName name version
  pub is : path ≡ path_of (leftover_front ++ name)

-- The versions under n are there, and no other.
pub record HasVersions (files : Files) (n : ℕ) : Type 0 where
  pub within : n ≤ MAX_DELTA_VERSION + 1
  pub there : (version : ℕ) → version < n → HasVersion files version
  pub none : (version : ℕ) → n ≤ version → ¬ HasVersion files version

-- A published commit reaches the versions that are there.
pub record IsReached (files : Files) (path : List ℕ) : Type 0 where
  pub version : ℕ
  pub named : IsVersionPath path version
  pub there : IsSome (map.get files path)

-- Each dirty path in the folder is a name that a commit may have been staged under.
pub record IsSettled (disk : Disk) : Type 0 where
  pub leftovers : (path : List ℕ) → IsIn log_folder path → IsDirty disk path → IsLeftover path
