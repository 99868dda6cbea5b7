use Rattle.delta_live.specs.RowSteps.{kind_in}
use Rattle.delta_live.proofs.TextLemmas.{values_ok, values_refused}
use Rattle.delta_live.proofs.texts.judged_values.Goals as goal

pub returns : goal.returns
returns c = record {
  ok = values_ok (kind_in c.in_ok-kinds.kinds) c.args.columns.now c.in_ok-kinds.ensures c.requires.names c.args.files.now c.judged_files.result c.judged_files.ensures.ok;
  refused = values_refused (kind_in c.in_ok-kinds.kinds) c.args.columns.now c.in_ok-kinds.ensures c.args.files.now c.requires.sound c.judged_files.result c.judged_files.ensures.refused;
}
