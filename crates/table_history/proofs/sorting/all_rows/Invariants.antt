use Rattle.std.proofs.Common.{◌≡◌, map, take}
use Rattle.table_history.proofs.sorting.all_rows.Given as goal

abbrev pub invariant-loop-row : goal.invariant-loop-row
invariant-loop-row l = map (λ r. r.now) l.all.items ≡ take l.row-index l.rows
