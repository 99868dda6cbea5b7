-- What differs between the rows before a commit and those behind it, in whatever order, and the same put in order.
use Rattle.std.specs.Prelude.{◌≡◌, ◌↔◌, ℕ, List, Contains}
use Rattle.std.specs.List.{IsDistinct}
use Rattle.std.specs.Str.{bytes_eq}
use Rattle.table_history.specs.Row.{Row}
use Rattle.table_history.specs.Rows.{HasDistinctPaths, IsInByteOrder, IsInPathOrder, SameRows}
use Rattle.table_history.specs.declared.table.Change.{Change}

-- what the paths that are removed and the rows that are added have to do with the rows before and after
abbrev pub Difference : Type 1
Difference = List Row → List Row → List (List ℕ) → List Row → Type 0

-- what differs between the rows before and after, each path removed once and added once, in whatever order
pub record IsUnorderedDiff (before after : List Row) (removed : List (List ℕ)) (added : List Row) : Type 0 where
  pub removed_paths : (path : List ℕ) → Contains removed path ↔ ((row : Row) × Contains before row × ¬ Contains after row × (row.path ≡ path))
  pub added_rows : (row : Row) → Contains added row ↔ (Contains after row × ¬ Contains before row)
  pub removed_distinct : IsDistinct bytes_eq removed
  pub added_distinct : HasDistinctPaths added

-- the same change, its removed paths and its added rows in byte order of paths
pub record IsInOrderOf (change ordered : Change) : Type 0 where
  pub schema : ordered.schema ≡ change.schema
  pub removed : (path : List ℕ) → Contains ordered.removed path ↔ Contains change.removed path
  pub added : SameRows ordered.added change.added
  pub removed_order : IsInByteOrder ordered.removed
  pub added_order : IsInPathOrder ordered.added
