use Rattle.std.proofs.Common.{◌≡◌, drop}
use Rattle.table_history.specs.History.{column_type}
use Rattle.table_history.specs.SchemaView.{columns_view}
use Rattle.iceberg_metadata.proofs.kind.type_of.Given as goal

abbrev pub invariant-loop-column : goal.invariant-loop-column
invariant-loop-column l = column_type (columns_view (drop l.column-index l.columns)) l.name ≡ column_type l.schema l.name
