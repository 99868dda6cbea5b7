use Rattle.std.proofs.Common.{◌≡◌, ℕ, List, drop, is_some, ◌||◌}
use Rattle.std.specs.List.{list_any}
use Rattle.table_history.specs.History.{column_type}
use Rattle.table_history.specs.SchemaView.{columns_view}
use Rattle.delta_change.proofs.ColumnNameLemmas.{At}
use Rattle.delta_change.proofs.columns.column_names.Given as goal

abbrev pub invariant-loop-column : goal.invariant-loop-column
invariant-loop-column l = (name : List ℕ) → (list_any (At name) l.names.keys || is_some (column_type (columns_view (drop l.column-index l.columns)) name)) ≡ is_some (column_type (columns_view l.columns) name)
