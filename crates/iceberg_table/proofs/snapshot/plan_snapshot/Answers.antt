use Rattle.iceberg_table.specs.Folder.{version_path}
use Rattle.iceberg_table.specs.Plan.{IsPlanFault}
use Rattle.iceberg_table.proofs.FaultLaws.{told_at}
use Rattle.iceberg_table.proofs.PlanLaws.{plan_sound}
use Rattle.iceberg_table.proofs.snapshot.plan_snapshot.Goals as goal

pub returns-in-Ok-clause-sound : goal.returns-in-Ok-clause-sound
returns-in-Ok-clause-sound c writable = plan_sound c.args.metadata.now c.args.snapshot.now c.in-Ok.plan writable c.in-Ok.ensures.found

pub returns-in-Err-clause-refused : goal.returns-in-Err-clause-refused
returns-in-Err-clause-refused c =
    let path = version_path c.args.version in
    let shows = IsPlanFault c.args.metadata.now c.args.snapshot.now in
    told_at path shows c.in-Err.error c.version_refusal.result c.version_refusal.ensures c.in-Err.ensures.refused
