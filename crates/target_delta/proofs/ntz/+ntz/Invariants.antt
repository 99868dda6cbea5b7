use Rattle.std.proofs.Common.{◌≡◌, drop}
use Rattle.table_history.specs.SchemaView.{columns_view}
use Rattle.target_delta.specs.Writing.{have_ntz}
use Rattle.target_delta.proofs.ntz.+ntz.Given as goal

abbrev pub invariant-have_ntz-loop-column : goal.invariant-have_ntz-loop-column
invariant-have_ntz-loop-column l = have_ntz (columns_view (drop l.column-index l.columns)) ≡ have_ntz (columns_view l.columns)
