use Rattle.std.proofs.Common.{◌∙◌}
use Rattle.delta_change.specs.ChangeSteps.{has_name, is_named}
use Rattle.delta_change.proofs.ColumnNameLemmas.{same_tests}
use Rattle.delta_change.proofs.columns.are_named.Goals as goal

pub returns : goal.returns
returns c = c.have_all.ensures ∙ same_tests (has_name c.in_ok-fields.fields) (is_named c.args.fields.now) c.in_ok-fields.ensures c.args.names.now
