use Rattle.std.proofs.Common.{sym, subst}
use Rattle.std.specs.Prelude.{IfErr, IfOk, Result}
use Rattle.lake_store.specs.Disk.{Disk}
use Rattle.lake_store.proofs.RunLaws.{reading_further}
use Rattle.iceberg_version.specs.KeptEnd.{view_of}
use Rattle.target_core.specs.Refusals.{IsInspectRefusal}
use Rattle.target_core.specs.SeenView.{IsSeen}
use Rattle.target_core.specs.declared.target.Seen.{Seen}
use Rattle.target_core.specs.declared.target.TargetError.{TargetError}
use Rattle.iceberg_version.specs.declared.kept.IcebergKept.{IcebergKept}
use Rattle.target_iceberg.specs.Inspecting.{IsCrowded, IsForeign, IsNewestRead}
use Rattle.target_iceberg.specs.Kept.{StandsFor}
use Rattle.target_iceberg.specs.Reading.{Reads}
use Rattle.iceberg_table.specs.Errors.{IsFileFault}
use Rattle.iceberg_table.specs.Folder.{version_path}
use Rattle.iceberg_table.specs.Refusals.{IsMetadataFault}
use Rattle.target_iceberg.proofs.SeenLemmas.{told_refusal, told_seen, version_crowded, version_foreign}
use Rattle.target_iceberg.proofs.inspect.inspect_version.Goals as goal

pub inspect_metadata-requires-clause-newest : goal.inspect_metadata-requires-clause-newest
inspect_metadata-requires-clause-newest g c = λ told.
    subst (λ (d : Disk). IsNewestRead d.files c.args.version c.in-Ok.metadata) (sym (c.in-Ok.ensures.only_reads told).disk) (c.requires told, c.in-Ok.ensures.says told)

pub returns-in-Ok-clause-seen : goal.returns-in-Ok-clause-seen
returns-in-Ok-clause-seen g c = λ id location told.
    subst (λ (d : Disk). IfOk c.inspect_metadata.result (IsSeen (Reads d.files) (IsForeign c.args.source d.files) view_of (λ (kept : IcebergKept). StandsFor id location kept d.files) c.args.source)) (c.in-Ok.ensures.only_reads told).disk (c.inspect_metadata.ensures.seen id location told)

pub returns-in-Ok-clause-refusal : goal.returns-in-Ok-clause-refusal
returns-in-Ok-clause-refusal g c = λ told.
    subst (λ (d : Disk). IfErr c.inspect_metadata.result (IsInspectRefusal (IsCrowded c.args.source d.files))) (c.in-Ok.ensures.only_reads told).disk (c.inspect_metadata.ensures.refusal told)

pub returns-in-Ok-clause-only_reads : goal.returns-in-Ok-clause-only_reads
returns-in-Ok-clause-only_reads g c = reading_further g.S.Store c.args.store.now c.read_version.new.store c.inspect_metadata.new.store c.in-Ok.ensures.only_reads c.inspect_metadata.ensures.only_reads

pub returns-in-Err-clause-seen : goal.returns-in-Err-clause-seen
returns-in-Err-clause-seen g c = λ id location told.
    let files = (g.S.Store.disk c.args.store.now).files in
    let source = c.args.source in
    let version = c.args.version in
    let P = λ (kept : IcebergKept). StandsFor id location kept files in
    subst (λ (r : Result (Seen IcebergKept) TargetError). IfOk r (IsSeen (Reads files) (IsForeign source files) view_of P source)) (sym c.told.ensures.told)
    (told_seen files source (IsFileFault files (version_path version) IsMetadataFault) (version_foreign files source version (c.requires told)) P c.in-Err.error (c.in-Err.ensures.refused told))

pub returns-in-Err-clause-refusal : goal.returns-in-Err-clause-refusal
returns-in-Err-clause-refusal g c = λ told.
    let files = (g.S.Store.disk c.args.store.now).files in
    let source = c.args.source in
    let version = c.args.version in
    subst (λ (r : Result (Seen IcebergKept) TargetError). IfErr r (IsInspectRefusal (IsCrowded source files))) (sym c.told.ensures.told)
    (told_refusal files source (IsFileFault files (version_path version) IsMetadataFault) (version_crowded files source version (c.requires told)) c.in-Err.error (c.in-Err.ensures.refused told))
