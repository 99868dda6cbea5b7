use Rattle.delta_change.proofs.ColumnNameLemmas.{put_column, no_column_left}
use Rattle.delta_change.proofs.columns.column_names.Goals as goal

pub loop-column-preserved : goal.loop-column-preserved
loop-column-preserved c = λ name.
    put_column c.args.columns.now c.loop-column.column-index c.column-item.result c.loop-column-test.true c.column-item.is c.loop-column.names.keys _ c.as_str.result name c.as_str.ensures.value c.in_ok-insert.ensures.keys (c.loop-column.invariant name)

pub returns : goal.returns
returns c = λ name. no_column_left c.args.columns.now c.loop-column.column-index c.loop-column-test.false c.loop-column.names.keys name (c.loop-column.invariant name)
