use Rattle.std.proofs.Common.{Result, false, inl, inr, sym, subst}
use Rattle.std.specs.Prelude.{IfErr}
use Rattle.std.proofs.lemmas.Result.{err_from_is_err_and}
use Rattle.table_history.specs.declared.table.Table.{Table}
use Rattle.iceberg_table.specs.Folder.{version_path}
use Rattle.iceberg_table.specs.Plan.{IsPlanFault}
use Rattle.iceberg_table.specs.Errors.{IsRefusal, IsTold}
use Rattle.iceberg_table.specs.Refusals.{IsListedRefusal, IsSnapshotRefusal}
use Rattle.iceberg_table.specs.declared.error.IcebergError.{IcebergError}
use Rattle.iceberg_table.proofs.FaultLaws.{refused_further}
use Rattle.iceberg_table.proofs.SnapshotLaws.{table_of}
use Rattle.iceberg_table.proofs.snapshot.read_table.Goals as goal

pub returns-clause-table : goal.returns-clause-table
returns-clause-table g c told =
    let read = c.in_ok-read.ensures.read told in
    table_of (g.S.Store.disk c.args.store.now).files c.args.metadata.now c.args.snapshot.now c.in_ok-plan.plan c.in_ok-plan.ensures.found false read.0 c.in_ok-read.read read.1 read.2

pub returns-clause-read : goal.returns-clause-read
returns-clause-read g c told =
    let read = c.in_ok-read.ensures.read told in
    (read.0, (c.in_ok-plan.plan, c.in_ok-plan.ensures.found, read.1), read.2.table)

pub returns-clause-columns : goal.returns-clause-columns
returns-clause-columns g c =
    let columns = c.in_ok-read.ensures.columns in
    record { plan = c.in_ok-plan.plan; planned = c.in_ok-plan.ensures.found; schema = columns.0; partition = columns.1 }

pub returns-clause-sound : goal.returns-clause-sound
returns-clause-sound g c writable = c.in_ok-read.ensures.sound (c.in_ok-plan.ensures.sound writable)

pub returns-in_err-plan-clause-refused : goal.returns-in_err-plan-clause-refused
returns-in_err-plan-clause-refused g c told =
    let exit = err_from_is_err_and c.from_residual.result c.from_residual.ensures.1 in
    let m = c.args.metadata.now in
    let s = c.args.snapshot.now in
    let v = c.args.version in
    let Q : IcebergError → Type 0 = IsSnapshotRefusal (g.S.Store.disk c.args.store.now).files m v s in
    subst (λ (r : Result Table IcebergError). IfErr r (IsRefusal Q)) (sym exit.1)
    (subst (IsRefusal Q) (sym exit.2) (refused_further (IsTold (version_path v) (IsPlanFault m s)) Q c.in_err-plan.field-0.0 (λ d shows. inl shows) c.in_err-plan.ensures.refused))

pub returns-in_err-read-clause-refused : goal.returns-in_err-read-clause-refused
returns-in_err-read-clause-refused g c told =
    let exit = err_from_is_err_and c.from_residual-in_err-read.result c.from_residual-in_err-read.ensures.1 in
    let files = (g.S.Store.disk c.args.store.now).files in
    let m = c.args.metadata.now in
    let s = c.args.snapshot.now in
    let plan = c.in_ok-plan.plan in
    let Q : IcebergError → Type 0 = IsSnapshotRefusal files m c.args.version s in
    subst (λ (r : Result Table IcebergError). IfErr r (IsRefusal Q)) (sym exit.1)
    (subst (IsRefusal Q) (sym exit.2) (refused_further (IsListedRefusal files m plan) Q c.in_err-read.field-0.0 (λ d refused. inr (plan, c.in_ok-plan.ensures.found, refused)) (c.in_err-read.ensures.refused told)))
