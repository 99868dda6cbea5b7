use Rattle.std.proofs.Common.{◌≡◌, ◌≤◌, length, true, drop}
use Rattle.table_history.specs.SchemaView.{columns_view}
use Rattle.table_history.specs.Sound.{have_own_names}
use Rattle.schema_map.proofs.OwnNames.{HoldsNames}
use Rattle.schema_map.proofs.names.have_own_names.Given as goal

abbrev pub invariant-loop-place : goal.invariant-loop-place
invariant-loop-place l = record {
  within : l.place ≤ length l.columns;
  held : HoldsNames l.seen (columns_view (drop l.place l.columns));
  own : have_own_names (columns_view (drop l.place l.columns)) ≡ true;
}

abbrev pub decreases-loop-place : goal.decreases-loop-place
decreases-loop-place l = l.place
