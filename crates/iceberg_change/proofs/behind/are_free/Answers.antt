use Rattle.iceberg_change.proofs.StepLaws.{each_more}
use Rattle.iceberg_change.proofs.behind.are_free.Goals as goal

pub loop-row-preserved : goal.loop-row-preserved
loop-row-preserved c = each_more c.args.before.now.rows c.args.went.now.rows c.args.rows.now c.loop-row.row-index c.row-item.result c.loop-row-test.true c.row-item.is c.loop-row.invariant (c.is_free.ensures c.if-not-is_free.false)
