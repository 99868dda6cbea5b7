use Rattle.std.proofs.Common.{Some, subst}
use Rattle.std.proofs.lemmas.Option.{same_Some}
use Rattle.delta_change.specs.Change.{IsTableOfLog}
use Rattle.delta_table.proofs.LogLaws.{step_made}
use Rattle.delta_table.proofs.log.next_log.Goals as goal

pub returns-clause-taken : goal.returns-clause-taken
returns-clause-taken c = (step_made c.args.commit (Some c.args.log.table) c.in_ok-change.change _ c.in_ok-change.ensures.grammar c.in_ok-change.ensures.supported c.in_ok-change.ensures.found c.in_ok-apply.ensures.ok, c.in_ok-change.ensures.follows)

pub returns-clause-sound : goal.returns-clause-sound
returns-clause-sound c = c.in_ok-change.ensures.goes_on.leaves (λ before is. subst IsTableOfLog (same_Some c.args.log.table before is) c.requires.table) _ c.in_ok-apply.ensures.ok
