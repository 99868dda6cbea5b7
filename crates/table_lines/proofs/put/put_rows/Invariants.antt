use Rattle.std.proofs.Common.{◌≡◌, ◌++◌, map, take}
use Rattle.std.specs.List.{concat}
use Rattle.lake_store.specs.Cause.{HasFault}
use Rattle.table_lines.specs.TableLines.{row_line}
use Rattle.table_lines.proofs.put.put_rows.Given as goal

abbrev pub invariant-loop-row : goal.invariant-loop-row
invariant-loop-row g l =
    let sink = g.O.Sink in
    record {
      so_far : sink.tells → sink.output l.out ≡ sink.output l.fn.out ++ concat (map (λ row. row_line row.now) (take l.row-index l.rows));
      cause : HasFault sink.faults sink.may_fail l.fn.out l.out ⊥;
    }
