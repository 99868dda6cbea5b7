use Rattle.std.proofs.Common.{◌⊎◌, inr}
use Rattle.std.proofs.lemmas.Result.{IfErr-weaker, IfOk-weaker}
use Rattle.table_history.specs.declared.table.Table.{Table}
use Rattle.delta_change.specs.Change.{IsChangeRefusal}
use Rattle.delta_log.specs.Readable.{IsReadableCommit, IsRefusal}
use Rattle.delta_log.specs.declared.commit.DeltaCommit.{DeltaCommit}
use Rattle.delta_log.specs.declared.error.DeltaError.{DeltaError}
use Rattle.delta_table.specs.Log.{IsTaken}
use Rattle.delta_compact.proofs.whole.table_behind_bytes.Goals as goal

pub returns-clause-taken : goal.returns-clause-taken
returns-clause-taken c =
    let bytes = c.args.bytes.now in
    let base = c.args.base in
    let commit = c.in_ok-commit.commit in
    IfOk-weaker c.table_behind.result (IsTaken commit base) (λ (next : Table). (d : DeltaCommit) × IsReadableCommit bytes d × IsTaken d base next) (λ next taken. (commit, c.in_ok-commit.ensures.found, taken)) c.table_behind.ensures.taken

pub returns-clause-refused : goal.returns-clause-refused
returns-clause-refused c =
    let bytes = c.args.bytes.now in
    let base = c.args.base in
    let commit = c.in_ok-commit.commit in
    IfErr-weaker c.table_behind.result (IsChangeRefusal commit base) (λ (e : DeltaError). IsRefusal bytes e ⊎ ((d : DeltaCommit) × IsReadableCommit bytes d × IsChangeRefusal d base e))
    (λ e refused. inr (commit, c.in_ok-commit.ensures.found, refused)) c.table_behind.ensures.refused
