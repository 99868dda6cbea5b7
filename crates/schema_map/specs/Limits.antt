-- Which limit a schema passes.
use Rattle.std.specs.Prelude.{nat_lt, Option, Some, None, Result, Ok, Err, if◌then◌else◌}
use Rattle.table_history.specs.TypeTree.{ColumnTrees}
use Rattle.table_history.specs.SchemaSize.{column_levels, column_count, max_type_levels}
use Rattle.table_history.specs.declared.limit.LimitKind.{LimitKind}
use Rattle.table_history.specs.declared.limit.LimitKind.TheVariants.{Columns, Depth}
use Rattle.lake_basics.specs.declared.limits.TheConstants.{MAX_COLUMNS}
use Rattle.schema_map.specs.declared.fault.MapError.{MapError}
use Rattle.schema_map.specs.declared.fault.MapError.TheVariants.{Limit}

abbrev pub schema_of_few_columns : ColumnTrees → Result ColumnTrees MapError
schema_of_few_columns cs = if nat_lt MAX_COLUMNS (column_count cs) then Err (Limit Columns) else Ok cs

-- the limit that the schema passes: columns are judged before levels
abbrev pub schema_limit : ColumnTrees → Option LimitKind
schema_limit cs = if nat_lt MAX_COLUMNS (column_count cs) then Some Columns else (if nat_lt max_type_levels (column_levels cs) then Some Depth else None)
