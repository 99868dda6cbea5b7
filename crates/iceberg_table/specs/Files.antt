-- What the metadata of a version says.
use Rattle.std.specs.Prelude.{◌≡◌, ◌≤◌, ℕ, List, Some, length}
use Rattle.std.specs.FinMap as map
use Rattle.lake_basics.specs.declared.limits.TheConstants.{MAX_FILE_BYTES}
use Rattle.lake_store.specs.Disk.{Files}
use Rattle.table_history.specs.First.{NoneOf}
use Rattle.iceberg_ancestry.specs.Ancestry.{FormsCycle}
use Rattle.iceberg_metadata.specs.Reading.{HasCause, IsRead, causes}
use Rattle.iceberg_metadata.specs.declared.metadata.Metadata.{Metadata}
use Rattle.iceberg_table.specs.Folder.{version_path}

-- The file at this path is there, with these bytes.
abbrev pub HoldsFile : Files → List ℕ → List ℕ → Type 0
HoldsFile files path bytes = map.get files path ≡ Some bytes

-- The file at this path is there, and isn't larger than a file that is read.
pub record HoldsShortFile (files : Files) (path : List ℕ) : Type 0 where
  pub bytes : List ℕ
  pub holds : HoldsFile files path bytes
  pub short : length bytes ≤ MAX_FILE_BYTES

-- The metadata of the version is there and says this. It is in the grammar, shows no feature that isn't supported, and passes no number. The parents of its snapshots form no cycle.
pub record SaysMetadata (files : Files) (version : ℕ) (m : Metadata) : Type 0 where
  pub bytes : List ℕ
  pub holds : HoldsFile files (version_path version) bytes
  pub small : length bytes ≤ MAX_FILE_BYTES
  pub read : IsRead bytes m
  pub supported : NoneOf (HasCause bytes) causes
  pub acyclic : ¬ FormsCycle m
