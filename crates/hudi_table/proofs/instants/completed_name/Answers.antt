use Rattle.std.proofs.Common.{◌≡◌, ℕ, List, Some, ap, subst, sym}
use Rattle.hudi_names.specs.declared.name.Action.{Action}
use Rattle.hudi_table.specs.Instants.{completed_name}
use Rattle.hudi_table.proofs.instants.completed_name.Goals as goal

pub returns-in_ok-file_name-in-ReplaceCommit : goal.returns-in_ok-file_name-in-ReplaceCommit
returns-in_ok-file_name-in-ReplaceCommit c =
    let name = c.in_ok-file_name-in-ReplaceCommit.field-0 in
    subst (λ (a : Action). Some name ≡ completed_name a c.args.time.now) (sym c.in-ReplaceCommit.is) (ap (λ (n : List ℕ). Some n) c.in_ok-file_name-in-ReplaceCommit.ensures)
