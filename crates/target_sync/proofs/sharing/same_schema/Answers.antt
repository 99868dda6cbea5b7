use Rattle.std.proofs.Common.{sym, ◌∙◌}
use Rattle.table_history.specs.TypeEqLaws.{columns_eq-Decides}
use Rattle.target_sync.proofs.sharing.same_schema.Goals as goal

pub returns : goal.returns
returns c = let d = columns_eq-Decides c.args.schema.now c.args.other.now in (λ t. d.0 (sym c.eq.ensures ∙ t), λ e. c.eq.ensures ∙ d.1 e)
