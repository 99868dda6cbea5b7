-- The names of the versions of a table's metadata (Iceberg specification, "File System Tables").
use Rattle.std.specs.Prelude.{◌≡◌, ◌≤◌, ◌++◌, ℕ, List, codes}
use Rattle.std.specs.Fmt.{decimal}
use Rattle.lake_basics.specs.declared.limits.TheConstants.{MAX_ICEBERG_VERSION}

-- `v`, the version without leading zeros, and `.metadata.json`
pub record IsVersionName (name : List ℕ) (version : ℕ) : Type 0 where
  pub spelled : name ≡ codes "v" ++ (decimal version ++ codes ".metadata.json")
  pub within : version ≤ MAX_ICEBERG_VERSION
