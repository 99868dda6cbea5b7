use Rattle.target_iceberg.specs.FormSteps.{IsUpTo}
use Rattle.target_iceberg.proofs.FormLemmas.{all_end, all_more, all_stop, failed, passed}
use Rattle.target_iceberg.proofs.form.are_up_to.Goals as goal

pub returns-then-not-is_up_to : goal.returns-then-not-is_up_to
returns-then-not-is_up_to c =
    all_stop (IsUpTo c.args.version) c.args.snapshots.now c.loop-snapshot.snapshot-index c.loop-snapshot.invariant c.snapshot-item.result c.loop-snapshot-test.true c.snapshot-item.is
    (failed c.is_up_to.result c.is_up_to.ensures c.if-not-is_up_to.true)

pub loop-snapshot-preserved : goal.loop-snapshot-preserved
loop-snapshot-preserved c =
    all_more (IsUpTo c.args.version) c.args.snapshots.now c.loop-snapshot.snapshot-index c.loop-snapshot.invariant c.snapshot-item.result c.loop-snapshot-test.true c.snapshot-item.is
    (passed c.is_up_to.result c.is_up_to.ensures c.if-not-is_up_to.false)

pub returns : goal.returns
returns c = all_end (IsUpTo c.args.version) c.args.snapshots.now c.loop-snapshot.snapshot-index c.loop-snapshot.invariant c.loop-snapshot-test.false
