use Rattle.std.proofs.Common.{◌≡◌, Some, sym, ap, ◌∙◌}
use Rattle.std.specs.Option.{option_copied}
use Rattle.table_history.proofs.RowLemmas.{row_eq-Decides}
use Rattle.delta_live.proofs.between.is_same.Goals as goal

pub returns-in-Some : goal.returns-in-Some
returns-in-Some c =
    let decides = row_eq-Decides c.in-Some.held.now c.args.row.now in
    let held : option_copied c.args.held ≡ Some c.in-Some.held.now = ap option_copied c.in-Some.is in
    (λ t. held ∙ ap Some (decides.0 (sym c.eq.ensures ∙ t)), λ e. c.eq.ensures ∙ decides.1 (cc (sym held ∙ e)))
