use Rattle.std.proofs.Common.{◌≡◌, ◌≤◌, ◌*◌, ◌^◌, map, take}
use Rattle.std.specs.List.{sum}
use Rattle.table_lines.proofs.summary.records_of.Given as goal

abbrev pub invariant-loop-row : goal.invariant-loop-row
invariant-loop-row l = (l.total ≡ sum (map (λ row. row.now.count) (take l.row-index l.rows))) × (l.total ≤ l.row-index * 2 ^ 63)
