use Rattle.std.proofs.Common.{◌≤◌, ◌↔◌, drop}
use Rattle.table_history.specs.SchemaView.{columns_view}
use Rattle.table_history.specs.SchemaSize.{column_levels}
use Rattle.schema_map.proofs.limits.+levels.Given as goal

abbrev pub invariant-have_levels_within-loop-column : goal.invariant-have_levels_within-loop-column
invariant-have_levels_within-loop-column l = column_levels (columns_view (drop l.column-index l.columns)) ≤ l.limit ↔ column_levels (columns_view l.columns) ≤ l.limit
