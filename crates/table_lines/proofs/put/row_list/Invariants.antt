use Rattle.std.proofs.Common.{◌≡◌, map, take}
use Rattle.table_lines.proofs.put.row_list.Given as goal

abbrev pub invariant-loop-place : goal.invariant-loop-place
invariant-loop-place l = map (λ row. row.now) l.list.items ≡ take l.place l.rows
