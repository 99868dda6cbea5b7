use Rattle.std.proofs.Common.{is_some, ap, ◌∙◌}
use Rattle.table_history.specs.History.{column_type}
use Rattle.delta_change.specs.ChangeSteps.{is_column, has_name}
use Rattle.delta_change.proofs.ColumnNameLemmas.{same_tests}
use Rattle.delta_change.proofs.columns.are_columns.Goals as goal

pub returns : goal.returns
returns c =
    c.have_all.ensures
    ∙ same_tests (has_name c.in_ok-columns.columns) (is_column c.args.schema.now) (λ name. c.in_ok-columns.ensures name ∙ ap (λ s. is_some (column_type s name)) c.columns.ensures) c.args.names.now
