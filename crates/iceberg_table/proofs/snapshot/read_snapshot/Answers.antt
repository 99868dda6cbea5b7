use Rattle.std.proofs.Common.{inl, refl}
use Rattle.iceberg_table.specs.Folder.{version_path}
use Rattle.iceberg_table.specs.Plan.{IsPlanFault}
use Rattle.iceberg_table.specs.Errors.{IsTold}
use Rattle.iceberg_table.specs.Refusals.{IsSnapshotRefusal}
use Rattle.iceberg_table.proofs.FaultLaws.{refused_further}
use Rattle.iceberg_table.proofs.SnapshotLaws.{all_found, columns_planned, table_found}
use Rattle.iceberg_table.proofs.snapshot.read_snapshot.Goals as goal

pub returns-in-Ok-clause-table : goal.returns-in-Ok-clause-table
returns-in-Ok-clause-table g c told = table_found (g.S.Store.disk c.args.store.now).files c.args.metadata.now c.args.snapshot.now c.in-Ok.plan c.in-Ok.ensures.found c.read_planned.result (c.read_planned.ensures.read told)

pub returns-in-Ok-clause-read : goal.returns-in-Ok-clause-read
returns-in-Ok-clause-read g c told = all_found (g.S.Store.disk c.args.store.now).files c.args.metadata.now c.args.snapshot.now c.in-Ok.plan c.in-Ok.ensures.found c.read_planned.result (c.read_planned.ensures.read told)

pub returns-in-Ok-clause-rows : goal.returns-in-Ok-clause-rows
returns-in-Ok-clause-rows g c = c.read_planned.ensures.rows refl

pub returns-in-Ok-clause-no_deletes : goal.returns-in-Ok-clause-no_deletes
returns-in-Ok-clause-no_deletes g c = c.read_planned.ensures.no_deletes refl

pub returns-in-Ok-clause-contents : goal.returns-in-Ok-clause-contents
returns-in-Ok-clause-contents g c = c.read_planned.ensures.contents refl

pub returns-in-Ok-clause-sound : goal.returns-in-Ok-clause-sound
returns-in-Ok-clause-sound g c writable = c.read_planned.ensures.sound (c.in-Ok.ensures.sound writable)

pub returns-in-Err-clause-refused : goal.returns-in-Err-clause-refused
returns-in-Err-clause-refused g c told =
    let files = (g.S.Store.disk c.args.store.now).files in
    let m = c.args.metadata.now in
    let s = c.args.snapshot.now in
    let v = c.args.version in
    refused_further (IsTold (version_path v) (IsPlanFault m s)) (IsSnapshotRefusal files m v s) c.in-Err.error (λ d shows. inl shows) c.in-Err.ensures.refused

pub returns-in-Ok-clause-columns : goal.returns-in-Ok-clause-columns
returns-in-Ok-clause-columns g c = columns_planned c.args.metadata.now c.args.snapshot.now c.in-Ok.plan c.in-Ok.ensures.found c.read_planned.result c.read_planned.ensures.columns
