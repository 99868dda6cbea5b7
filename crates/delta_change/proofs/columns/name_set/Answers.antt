use Rattle.delta_change.proofs.ColumnNameLemmas.{put_name, no_name_left}
use Rattle.delta_change.proofs.columns.name_set.Goals as goal

pub loop-name-preserved : goal.loop-name-preserved
loop-name-preserved c = λ name.
    put_name c.args.names.now c.loop-name.name-index c.name-item.result c.loop-name-test.true c.name-item.is c.loop-name.set.keys _ c.as_str.result name c.as_str.ensures.value c.in_ok-insert.ensures.keys (c.loop-name.invariant name)

pub returns : goal.returns
returns c = λ name. no_name_left c.args.names.now c.loop-name.name-index c.loop-name-test.false c.loop-name.set.keys name (c.loop-name.invariant name)
