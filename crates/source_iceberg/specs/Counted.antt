-- What is counted of the manifests that were read.
use Rattle.std.specs.Prelude.{◌≡◌, ℕ, List}
use Rattle.std.specs.List.{list_any}
use Rattle.std.specs.Str.{bytes_eq}
use Rattle.iceberg_table.specs.declared.manifest.Manifest.{Manifest}
use Rattle.iceberg_table.specs.Once.{entries_once, has_path}
use Rattle.source_iceberg.specs.declared.counted.Counted.{Counted}

-- The paths are those of the manifests that were read, and the number is that of their entries, where each manifest counts once.
pub record Counts (read : List Manifest) (c : Counted) : Type 0 where
  pub paths : (path : List ℕ) → list_any (bytes_eq path) c.paths.keys ≡ list_any (has_path path) read
  pub entries : c.entries ≡ entries_once read
