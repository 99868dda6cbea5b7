use Rattle.iceberg_live.specs.declared.live.LiveRow.{LiveRow}
use Rattle.iceberg_change.proofs.HeldLaws.{pushed_more}
use Rattle.iceberg_change.proofs.held.push_rows.Goals as goal

pub loop-found-preserved : goal.loop-found-preserved
loop-found-preserved c =
    pushed_more (λ (l : LiveRow). l.row) c.args.rows.now.items c.loop-found.rows.items c.push.new.self.items c.args.live.now c.loop-found.found-index c.in_ok-copy.field-0 c.found-item.result c.loop-found-test.true c.found-item.is c.in_ok-push.ensures.items c.in_ok-copy.ensures c.loop-found.invariant
