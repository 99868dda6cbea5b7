use Rattle.std.proofs.Common.{◌≡◌, Some, sym, subst}
use Rattle.std.proofs.lemmas.Result.{IfErr-weaker, IfOk-weaker}
use Rattle.std.proofs.lemmas.Option.{same_Some}
use Rattle.table_history.specs.Tables.{IsAfter}
use Rattle.delta_change.specs.Change.{IsChangeRefusal, IsTableOfLog}
use Rattle.delta_log.specs.declared.error.DeltaError.{DeltaError}
use Rattle.delta_log.specs.declared.error.DeltaError.TheVariants.{Memory}
use Rattle.delta_table.specs.Log.{IsTaken}
use Rattle.delta_table.proofs.LogLaws.{step_made}
use Rattle.delta_compact.proofs.whole.next_table.Goals as goal

pub returns-clause-taken : goal.returns-clause-taken
returns-clause-taken c =
    let commit = c.args.commit.now in
    let change = c.in_ok-change.change in
    let read = c.in_ok-change.ensures in
    IfOk-weaker c.table_after.result (IsAfter c.args.table change) (IsTaken commit (Some c.args.table))
    (λ t after. (step_made commit (Some c.args.table) change t read.grammar read.supported read.found after, read.follows)) c.table_after.ensures.after

pub returns-clause-sound : goal.returns-clause-sound
returns-clause-sound c =
    IfOk-weaker c.table_after.result (IsAfter c.args.table c.in_ok-change.change) IsTableOfLog
    (λ t after. c.in_ok-change.ensures.goes_on.leaves (λ before is. subst IsTableOfLog (same_Some c.args.table before is) c.requires.table) t after) c.table_after.ensures.after

pub returns-clause-refused : goal.returns-clause-refused
returns-clause-refused c =
    let base = Some c.args.table in
    IfErr-weaker c.table_after.result (λ (e : DeltaError). e ≡ Memory) (IsChangeRefusal c.args.commit.now base) (λ e is. subst (IsChangeRefusal c.args.commit.now base) (sym is) tt) c.table_after.ensures.memory
