-- How large a schema is.
use Rattle.std.specs.Prelude.{ℕ, ◌≤◌, ◌+◌, ◌-◌, max}
use Rattle.table_history.specs.TypeTree.{TypeTree, struct_of, list_of, map_of, ColumnTrees, no_columns, column}
use Rattle.lake_basics.specs.declared.limits.TheConstants.{MAX_COLUMNS, MAX_SCHEMA_LEVELS}

-- A type without parts has one level, and the parts of another are one level below it.
abbrev mutual
  pub levels : TypeTree → ℕ
  levels (struct_of cs) = 1 + column_levels cs
  levels (list_of t b) = 1 + levels t
  levels (map_of k v b) = 1 + max (levels k) (levels v)
  levels _ = 1

  pub column_levels : ColumnTrees → ℕ
  column_levels no_columns = 0
  column_levels (column n t b cs) = max (levels t) (column_levels cs)

abbrev mutual
  -- the columns inside a type: those of its structs, and not elements, keys and values
  pub inner_count : TypeTree → ℕ
  inner_count (struct_of cs) = column_count cs
  inner_count (list_of t b) = inner_count t
  inner_count (map_of k v b) = inner_count k + inner_count v
  inner_count _ = 0

  -- the columns at all levels
  pub column_count : ColumnTrees → ℕ
  column_count no_columns = 0
  column_count (column n t b cs) = 1 + inner_count t + column_count cs

-- The schema is one level, above those of its columns' types.
abbrev pub max_type_levels : ℕ
max_type_levels = MAX_SCHEMA_LEVELS - 1

-- The schema has no more columns and no more levels than may be read.
pub record IsWithinLimits (cs : ColumnTrees) : Type 0 where
  pub levels : column_levels cs ≤ max_type_levels
  pub columns : column_count cs ≤ MAX_COLUMNS
