-- What is counted of the manifests that were read.
use Rattle.std.specs.Prelude.{◌≡◌, ◌≤◌, ℕ, List, cond}
use Rattle.std.specs.List.{list_any}
use Rattle.std.specs.Str.{bytes_eq}
use Rattle.lake_basics.specs.declared.limits.TheConstants.{MAX_ACTIONS}
use Rattle.iceberg_table.specs.Once.{entries_once, has_path}
use Rattle.iceberg_table.specs.declared.counted.Counted.{Counted}
use Rattle.iceberg_table.specs.declared.manifest.Manifest.{Manifest}

-- The paths are those of the manifests that were read, and the number is that of their entries, where each manifest counts once.
pub record Counts (read : List Manifest) (c : Counted) : Type 0 where
  pub paths : (path : List ℕ) → list_any (bytes_eq path) c.paths.keys ≡ list_any (has_path path) read
  pub entries : c.entries ≡ entries_once read

-- The entries aren't more than are read.
abbrev pub AreFew : Counted → Type 0
AreFew c = c.entries ≤ MAX_ACTIONS

-- how many entries count before the manifest of this path
abbrev pub before_of : List ℕ → Counted → ℕ
before_of path c = cond (list_any (bytes_eq path) c.paths.keys) 0 c.entries
