use Rattle.std.proofs.Common.{◌≡◌, None, sym, subst}
use Rattle.std.proofs.lemmas.Result.{IfErr-weaker, IfOk-weaker}
use Rattle.std.proofs.lemmas.Option.{none-some}
use Rattle.table_history.specs.Tables.{CanApply, IsAfter}
use Rattle.table_history.specs.declared.table.Table.{Table}
use Rattle.delta_change.specs.Change.{IsChangeRefusal, IsTableOfLog}
use Rattle.delta_log.specs.declared.error.DeltaError.{DeltaError}
use Rattle.delta_log.specs.declared.error.DeltaError.TheVariants.{Memory}
use Rattle.delta_table.specs.Log.{IsTaken}
use Rattle.delta_table.proofs.LogLaws.{step_made}
use Rattle.delta_compact.proofs.whole.first_table.Goals as goal

pub table_after-requires : goal.table_after-requires
table_after-requires c = subst (λ (t : Table). CanApply t c.in_ok-change.change) (sym c.in_ok-table.ensures) c.in_ok-change.ensures.fits

pub returns-clause-taken : goal.returns-clause-taken
returns-clause-taken c =
    let commit = c.args.commit.now in
    let change = c.in_ok-change.change in
    let read = c.in_ok-change.ensures in
    IfOk-weaker c.table_after.result (IsAfter c.in_ok-table.table change) (IsTaken commit None)
    (λ t after. (step_made commit None change t read.grammar read.supported read.found (subst (λ (b : Table). IsAfter b change t) c.in_ok-table.ensures after), read.follows)) c.table_after.ensures.after

pub returns-clause-sound : goal.returns-clause-sound
returns-clause-sound c =
    let change = c.in_ok-change.change in
    IfOk-weaker c.table_after.result (IsAfter c.in_ok-table.table change) IsTableOfLog
    (λ t after. c.in_ok-change.ensures.goes_on.leaves (λ b is. absurd (none-some b is)) t (subst (λ (b : Table). IsAfter b change t) c.in_ok-table.ensures after)) c.table_after.ensures.after

pub returns-clause-refused : goal.returns-clause-refused
returns-clause-refused c =
    IfErr-weaker c.table_after.result (λ (e : DeltaError). e ≡ Memory) (IsChangeRefusal c.args.commit.now None) (λ e is. subst (IsChangeRefusal c.args.commit.now None) (sym is) tt) c.table_after.ensures.memory
