use Rattle.std.proofs.Common.{◌≡◌, take, map}
use Rattle.table_history.specs.SchemaView.{column_view}
use Rattle.iceberg_field_ids.proofs.Widened.{wide}
use Rattle.iceberg_field_ids.proofs.wide.+widen.Given as goal

abbrev pub invariant-wide_columns-loop-column : goal.invariant-wide_columns-loop-column
invariant-wide_columns-loop-column l = map column_view l.wide.items ≡ map wide (map column_view (take l.column-index l.columns))
