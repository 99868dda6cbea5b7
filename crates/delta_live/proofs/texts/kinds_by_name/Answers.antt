use Rattle.std.proofs.Common.{ap, ◌∙◌, arith}
use Rattle.std.proofs.lemmas.List.{take_all}
use Rattle.std.proofs.lemmas.Map.Text.{hash_map_updates_str}
use Rattle.delta_live.specs.RowSteps.{kind_in, kind_of}
use Rattle.delta_live.proofs.TextLemmas.{kind_more}
use Rattle.delta_live.proofs.texts.kinds_by_name.Goals as goal

pub loop-column-preserved : goal.loop-column-preserved
loop-column-preserved c = λ name.
    kind_more c.args.columns.now c.loop-column.column-index c.column-item.result (omega arith) c.column-item.is (kind_in c.loop-column.kinds) (kind_in c.insert.new.self) c.as_str.result.now name c.as_str.ensures.value
    (hash_map_updates_str c.as_str.result.now c.loop-column.kinds c.insert.new.self _ c.in_ok-insert.ensures.updates name) (c.loop-column.invariant name)

pub returns : goal.returns
returns c = λ name. c.loop-column.invariant name ∙ ap (λ l. kind_of l name) (take_all c.loop-column.column-index c.args.columns.now c.loop-column-test.false)
