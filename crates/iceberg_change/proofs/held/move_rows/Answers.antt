use Rattle.std.proofs.Common.{◌++◌, List, ap, ◌∙◌}
use Rattle.iceberg_live.specs.declared.live.LiveRow.{LiveRow}
use Rattle.iceberg_table.specs.Tables.{rows_in}
use Rattle.iceberg_change.proofs.HeldLaws.{moved_more}
use Rattle.iceberg_change.proofs.held.move_rows.Goals as goal

pub loop-found-init : goal.loop-found-init
loop-found-init c = ap (λ (l : List LiveRow). c.args.rows.now.items ++ rows_in l) (c.into_iter-found-iterator.ensures.into_iter_gives.0 ∙ c.into_vec-found-items.ensures)

pub loop-found-preserved : goal.loop-found-preserved
loop-found-preserved c =
    moved_more (λ (l : LiveRow). l.row) c.loop-found.rows.items c.push.new.self.items (c.args.rows.now.items ++ rows_in c.args.live) c.loop-found.found-iterator.rest.items c.next.new.self.rest.items c.in-Some.found c.in-Some.ensures.steps.0 c.in_ok-push.ensures.items c.loop-found.invariant
