use Rattle.std.proofs.Common.{◌≡◌, ◌++◌, drop, map}
use Rattle.table_history.specs.SchemaView.{columns_view}
use Rattle.target_iceberg.specs.Fitting.{column_types}
use Rattle.target_iceberg.specs.Shapes.{shape_of}
use Rattle.target_iceberg.proofs.shape.+shapes.Given as goal

abbrev pub invariant-push_columns-loop-column : goal.invariant-push_columns-loop-column
invariant-push_columns-loop-column l =
    l.shapes.items ++ map shape_of (column_types (columns_view (drop l.column-index l.columns))) ≡ l.fn.shapes.items ++ map shape_of (column_types (columns_view l.columns))
