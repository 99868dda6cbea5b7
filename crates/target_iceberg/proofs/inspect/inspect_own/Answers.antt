use Rattle.std.proofs.Common.{sym, subst, ap, ◌∙◌}
use Rattle.std.specs.Prelude.{IfErr, IfOk, IsErrOf, Result, Err}
use Rattle.std.specs.Option.{option_copied}
use Rattle.lake_store.proofs.RunLaws.{reading_begins}
use Rattle.iceberg_table.specs.Folder.{version_path}
use Rattle.iceberg_table.specs.Refusals.{IsSnapshotRefusal}
use Rattle.iceberg_table.specs.declared.error.IcebergError.{IcebergError}
use Rattle.iceberg_version.specs.declared.kept.IcebergKept.{IcebergKept}
use Rattle.iceberg_version.specs.KeptEnd.{view_of}
use Rattle.target_core.specs.Refusals.{IsInspectRefusal}
use Rattle.target_core.specs.SeenView.{IsSeen}
use Rattle.target_core.specs.declared.target.Seen.{Seen}
use Rattle.target_core.specs.declared.target.TargetError.{TargetError}
use Rattle.target_core.specs.declared.target.TargetError.TheVariants.{Contested, StoreFault}
use Rattle.target_iceberg.specs.Inspecting.{IsCrowded, IsForeign}
use Rattle.target_iceberg.specs.Kept.{StandsFor}
use Rattle.target_iceberg.specs.Reading.{Reads}
use Rattle.target_iceberg.proofs.SeenLemmas.{all_ours_sound, cause_of, contest_of, foreign_seen, foreign_sound, memory_cause, memory_contest, memory_few, memory_refusal, nothing_contested, nothing_failed, seen_ours, snapshot_crowded, snapshot_foreign, told_refusal, told_seen, without_current}
use Rattle.target_iceberg.proofs.KeptLemmas.{named_image}
use Rattle.target_iceberg.proofs.inspect.inspect_own.Goals as goal

pub returns-in_default-clause-seen : goal.returns-in_default-clause-seen
returns-in_default-clause-seen g c = λ id location told.
    let files = (g.S.Store.disk c.args.store.now).files in
    let source = c.args.mark.source in
    foreign_seen files source c.args.version c.args.metadata (c.requires.newest told) (λ (kept : IcebergKept). StandsFor id location kept files) c.foreign_version.result c.foreign_version.ensures.foreign
    (without_current files source c.args.version c.args.metadata (c.requires.newest told) (sym c.current_snapshot.ensures ∙ ap option_copied c.in_default.is))

pub returns-in_default-clause-sound : goal.returns-in_default-clause-sound
returns-in_default-clause-sound g c = foreign_sound c.args.mark.source (version_path c.args.version) c.foreign_version.result c.foreign_version.ensures.foreign

pub returns-in_default-clause-refusal : goal.returns-in_default-clause-refusal
returns-in_default-clause-refusal g c = λ told. memory_refusal (IsCrowded c.args.mark.source (g.S.Store.disk c.args.store.now).files) c.foreign_version.result c.foreign_version.ensures.memory

pub returns-in_default-clause-few : goal.returns-in_default-clause-few
returns-in_default-clause-few g c = memory_few c.foreign_version.result c.foreign_version.ensures.memory

pub ours-requires-clause-first : goal.ours-requires-clause-first
ours-requires-clause-first g c = c.requires.own.0.first

pub ours-requires-clause-form : goal.ours-requires-clause-form
ours-requires-clause-form g c = c.requires.own.1

pub ours-requires-clause-table : goal.ours-requires-clause-table
ours-requires-clause-table g c = c.in-Ok.ensures.sound c.requires.writable

pub ours-requires-clause-image : goal.ours-requires-clause-image
ours-requires-clause-image g c = named_image c.args.metadata c.in-Some.snapshot.now c.in-Ok.read.table c.requires.writable c.in-Ok.ensures.columns

pub ours-requires-clause-contents : goal.ours-requires-clause-contents
ours-requires-clause-contents g c = c.in-Ok.ensures.contents

pub returns-in-Ok-clause-seen : goal.returns-in-Ok-clause-seen
returns-in-Ok-clause-seen g c = λ id location told.
    let files = (g.S.Store.disk c.args.store.now).files in
    let current = sym c.current_snapshot.ensures ∙ ap option_copied c.in-Some.is in
    seen_ours files c.args.mark.source c.args.version c.args.metadata (c.requires.newest told) c.args.mark c.requires.own c.in-Some.snapshot.now current c.in-Ok.read (c.in-Ok.ensures.read told) (c.in-Ok.ensures.table told) id location c.ours.result c.ours.ensures.ours

pub returns-in-Ok-clause-sound : goal.returns-in-Ok-clause-sound
returns-in-Ok-clause-sound g c = all_ours_sound c.args.mark.source c.args.version c.args.metadata c.args.mark c.in-Ok.read c.requires.own.0 (c.in-Ok.ensures.sound c.requires.writable) c.ours.result c.ours.ensures.ours

pub returns-in-Ok-clause-refusal : goal.returns-in-Ok-clause-refusal
returns-in-Ok-clause-refusal g c = λ told. memory_refusal (IsCrowded c.args.mark.source (g.S.Store.disk c.args.store.now).files) c.ours.result c.ours.ensures.memory

pub returns-in-Ok-clause-few : goal.returns-in-Ok-clause-few
returns-in-Ok-clause-few g c = memory_few c.ours.result c.ours.ensures.memory

pub returns-in-Ok-clause-only_reads : goal.returns-in-Ok-clause-only_reads
returns-in-Ok-clause-only_reads g c = c.in-Ok.ensures.only_reads

pub returns-in-Err-clause-seen : goal.returns-in-Err-clause-seen
returns-in-Err-clause-seen g c = λ id location told.
    let files = (g.S.Store.disk c.args.store.now).files in
    let source = c.args.mark.source in
    let m = c.args.metadata in
    let s = c.in-Some.snapshot.now in
    let current = sym c.current_snapshot.ensures ∙ ap option_copied c.in-Some.is in
    let P = λ (kept : IcebergKept). StandsFor id location kept files in
    subst (λ (r : Result (Seen IcebergKept) TargetError). IfOk r (IsSeen (Reads files) (IsForeign source files) view_of P source)) (sym c.told.ensures.told)
    (told_seen files source (IsSnapshotRefusal files m c.args.version s) (snapshot_foreign files source c.args.version m (c.requires.newest told) c.args.mark c.requires.own s current) P c.in-Err.error (c.in-Err.ensures.refused told))

pub returns-in-Err-clause-sound : goal.returns-in-Err-clause-sound
returns-in-Err-clause-sound g c = c.told.ensures.sound c.args.mark.source

pub returns-in-Err-clause-refusal : goal.returns-in-Err-clause-refusal
returns-in-Err-clause-refusal g c = λ told.
    let files = (g.S.Store.disk c.args.store.now).files in
    let source = c.args.mark.source in
    let m = c.args.metadata in
    let s = c.in-Some.snapshot.now in
    let current = sym c.current_snapshot.ensures ∙ ap option_copied c.in-Some.is in
    subst (λ (r : Result (Seen IcebergKept) TargetError). IfErr r (IsInspectRefusal (IsCrowded source files))) (sym c.told.ensures.told)
    (told_refusal files source (IsSnapshotRefusal files m c.args.version s) (snapshot_crowded files source c.args.version m (c.requires.newest told) c.args.mark c.requires.own s current) c.in-Err.error (c.in-Err.ensures.refused told))

pub returns-in-Err-clause-few : goal.returns-in-Err-clause-few
returns-in-Err-clause-few g c = c.told.ensures.few

pub returns-in-Err-clause-only_reads : goal.returns-in-Err-clause-only_reads
returns-in-Err-clause-only_reads g c = c.in-Err.ensures.only_reads

pub returns-in_default-clause-only_reads : goal.returns-in_default-clause-only_reads
returns-in_default-clause-only_reads g c = reading_begins g.S.Store g.met.S.Store.only_now c.args.store.now

pub returns-in_default-clause-cause : goal.returns-in_default-clause-cause
returns-in_default-clause-cause g c =
    let here = c.args.store.now in
    memory_cause g.S.Store.faults g.S.Store.may_fail here here c.foreign_version.result c.foreign_version.ensures.memory _ (nothing_failed g.S.Store.faults g.S.Store.may_fail here)

pub returns-in_default-clause-contest : goal.returns-in_default-clause-contest
returns-in_default-clause-contest g c =
    let here = c.args.store.now in
    memory_contest g.S.Store.contests g.S.Store.may_contest here here c.foreign_version.result c.foreign_version.ensures.memory _ (nothing_contested g.S.Store.contests g.S.Store.may_contest here)

pub ours-requires-clause-writable : goal.ours-requires-clause-writable
ours-requires-clause-writable g c = c.requires.writable

pub ours-requires-clause-rows : goal.ours-requires-clause-rows
ours-requires-clause-rows g c = c.in-Ok.ensures.rows

pub returns-in-Ok-clause-cause : goal.returns-in-Ok-clause-cause
returns-in-Ok-clause-cause g c = memory_cause g.S.Store.faults g.S.Store.may_fail c.args.store.now c.read_snapshot.new.store c.ours.result c.ours.ensures.memory _ c.in-Ok.ensures.cause

pub returns-in-Ok-clause-contest : goal.returns-in-Ok-clause-contest
returns-in-Ok-clause-contest g c = memory_contest g.S.Store.contests g.S.Store.may_contest c.args.store.now c.read_snapshot.new.store c.ours.result c.ours.ensures.memory _ c.in-Ok.ensures.contest

pub returns-in-Err-clause-cause : goal.returns-in-Err-clause-cause
returns-in-Err-clause-cause g c =
    cause_of g.S.Store.faults g.S.Store.may_fail c.args.store.now c.read_snapshot.new.store _ (IsErrOf c.told.result StoreFault)
    (λ is. ap (λ (e : IcebergError). Err e) (c.told.ensures.fault is)) c.in-Err.ensures.cause

pub returns-in-Err-clause-contest : goal.returns-in-Err-clause-contest
returns-in-Err-clause-contest g c = contest_of g.S.Store.contests g.S.Store.may_contest c.args.store.now c.read_snapshot.new.store _ (IsErrOf c.told.result Contested) c.told.ensures.contest c.in-Err.ensures.contest
