use Rattle.std.proofs.Common.{◌≡◌, drop}
use Rattle.table_history.specs.SchemaView.{columns_view}
use Rattle.table_history.specs.TypeEq.{columns_eq}
use Rattle.table_history.proofs.schema.+same.Given as goal

abbrev pub invariant-same_columns-loop-place : goal.invariant-same_columns-loop-place
invariant-same_columns-loop-place l = columns_eq (columns_view (drop l.place l.column-items)) (columns_view (drop l.place l.others)) ≡ columns_eq (columns_view l.column-items) (columns_view l.others)
