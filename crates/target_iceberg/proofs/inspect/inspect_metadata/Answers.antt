use Rattle.std.proofs.Common.{refl, sym, subst}
use Rattle.std.specs.Prelude.{IfErr, IfOk, Err}
use Rattle.lake_store.proofs.RunLaws.{reading_begins}
use Rattle.iceberg_table.specs.Folder.{version_path}
use Rattle.iceberg_version.specs.declared.kept.IcebergKept.{IcebergKept}
use Rattle.table_history.specs.declared.kind.Kind.{Kind}
use Rattle.iceberg_version.specs.KeptEnd.{view_of}
use Rattle.target_core.specs.Refusals.{IsInspectRefusal}
use Rattle.target_core.specs.SeenView.{IsSeen, IsSeenSound}
use Rattle.target_core.specs.declared.target.TargetError.TheVariants.{Memory}
use Rattle.target_iceberg.specs.Inspecting.{IsCrowded, IsForeign}
use Rattle.target_iceberg.specs.InspectSteps.{IsOwnVersion}
use Rattle.target_iceberg.specs.Kept.{StandsFor}
use Rattle.target_iceberg.specs.Reading.{Reads}
use Rattle.target_iceberg.proofs.SeenLemmas.{foreign_seen, foreign_sound, memory_cause, memory_contest, memory_few, memory_refusal, nothing_contested, nothing_failed, unmarked}
use Rattle.target_iceberg.proofs.inspect.inspect_metadata.Goals as goal

pub inspect_own-requires-clause-newest : goal.inspect_own-requires-clause-newest
inspect_own-requires-clause-newest g c = c.requires.newest

pub inspect_own-requires-clause-writable : goal.inspect_own-requires-clause-writable
inspect_own-requires-clause-writable g c = c.requires.writable

pub inspect_own-requires-clause-own : goal.inspect_own-requires-clause-own
inspect_own-requires-clause-own g c = let own : IsOwnVersion c.args.source c.args.version c.args.metadata c.in-Ok-Some.mark = rw c.in-Ok-Some.field-0-is at c.in-Ok-Some.ensures in subst (λ (k : Kind). IsOwnVersion k c.args.version c.args.metadata c.in-Ok-Some.mark) (sym own.0.source_is) own

pub returns-in-Ok-Some-clause-seen : goal.returns-in-Ok-Some-clause-seen
returns-in-Ok-Some-clause-seen g c = λ id location told.
    let own : IsOwnVersion c.args.source c.args.version c.args.metadata c.in-Ok-Some.mark = rw c.in-Ok-Some.field-0-is at c.in-Ok-Some.ensures in
    let files = (g.S.Store.disk c.args.store.now).files in
    subst (λ (k : Kind). IfOk c.inspect_own.result (IsSeen (Reads files) (IsForeign k files) view_of (λ (kept : IcebergKept). StandsFor id location kept files) k)) own.0.source_is (c.inspect_own.ensures.seen id location told)

pub returns-in-Ok-Some-clause-sound : goal.returns-in-Ok-Some-clause-sound
returns-in-Ok-Some-clause-sound g c =
    let own : IsOwnVersion c.args.source c.args.version c.args.metadata c.in-Ok-Some.mark = rw c.in-Ok-Some.field-0-is at c.in-Ok-Some.ensures in
    subst (λ (k : Kind). IfOk c.inspect_own.result (IsSeenSound view_of k)) own.0.source_is c.inspect_own.ensures.sound

pub returns-in-Ok-Some-clause-refusal : goal.returns-in-Ok-Some-clause-refusal
returns-in-Ok-Some-clause-refusal g c = λ told.
    let own : IsOwnVersion c.args.source c.args.version c.args.metadata c.in-Ok-Some.mark = rw c.in-Ok-Some.field-0-is at c.in-Ok-Some.ensures in
    let files = (g.S.Store.disk c.args.store.now).files in
    subst (λ (k : Kind). IfErr c.inspect_own.result (IsInspectRefusal (IsCrowded k files))) own.0.source_is (c.inspect_own.ensures.refusal told)

pub returns-in-Ok-Some-clause-few : goal.returns-in-Ok-Some-clause-few
returns-in-Ok-Some-clause-few g c = c.inspect_own.ensures.few

pub returns-in-Ok-Some-clause-only_reads : goal.returns-in-Ok-Some-clause-only_reads
returns-in-Ok-Some-clause-only_reads g c = c.inspect_own.ensures.only_reads

pub returns-in-Ok-Some-clause-cause : goal.returns-in-Ok-Some-clause-cause
returns-in-Ok-Some-clause-cause g c = c.inspect_own.ensures.cause

pub returns-in-Ok-Some-clause-contest : goal.returns-in-Ok-Some-clause-contest
returns-in-Ok-Some-clause-contest g c = c.inspect_own.ensures.contest

pub returns-in-Ok-None-clause-seen : goal.returns-in-Ok-None-clause-seen
returns-in-Ok-None-clause-seen g c = λ id location told.
    let files = (g.S.Store.disk c.args.store.now).files in
    foreign_seen files c.args.source c.args.version c.args.metadata (c.requires.newest told) (λ (kept : IcebergKept). StandsFor id location kept files) c.foreign_version.result c.foreign_version.ensures.foreign
    (unmarked files c.args.source c.args.version c.args.metadata (c.requires.newest told) (rw c.in-Ok-None.field-0-is at c.in-Ok-None.ensures))

pub returns-in-Ok-None-clause-sound : goal.returns-in-Ok-None-clause-sound
returns-in-Ok-None-clause-sound g c = foreign_sound c.args.source (version_path c.args.version) c.foreign_version.result c.foreign_version.ensures.foreign

pub returns-in-Ok-None-clause-refusal : goal.returns-in-Ok-None-clause-refusal
returns-in-Ok-None-clause-refusal g c = λ told. memory_refusal (IsCrowded c.args.source (g.S.Store.disk c.args.store.now).files) c.foreign_version.result c.foreign_version.ensures.memory

pub returns-in-Ok-None-clause-few : goal.returns-in-Ok-None-clause-few
returns-in-Ok-None-clause-few g c = memory_few c.foreign_version.result c.foreign_version.ensures.memory

pub returns-in-Ok-None-clause-only_reads : goal.returns-in-Ok-None-clause-only_reads
returns-in-Ok-None-clause-only_reads g c = reading_begins g.S.Store g.met.S.Store.only_now c.args.store.now

pub returns-in-Ok-None-clause-cause : goal.returns-in-Ok-None-clause-cause
returns-in-Ok-None-clause-cause g c =
    let here = c.args.store.now in
    memory_cause g.S.Store.faults g.S.Store.may_fail here here c.foreign_version.result c.foreign_version.ensures.memory _ (nothing_failed g.S.Store.faults g.S.Store.may_fail here)

pub returns-in-Ok-None-clause-contest : goal.returns-in-Ok-None-clause-contest
returns-in-Ok-None-clause-contest g c =
    let here = c.args.store.now in
    memory_contest g.S.Store.contests g.S.Store.may_contest here here c.foreign_version.result c.foreign_version.ensures.memory _ (nothing_contested g.S.Store.contests g.S.Store.may_contest here)

pub returns-in-Err-clause-only_reads : goal.returns-in-Err-clause-only_reads
returns-in-Err-clause-only_reads g c = reading_begins g.S.Store g.met.S.Store.only_now c.args.store.now

pub returns-in-Err-clause-cause : goal.returns-in-Err-clause-cause
returns-in-Err-clause-cause g c =
    let here = c.args.store.now in
    memory_cause g.S.Store.faults g.S.Store.may_fail here here (Err Memory) refl _ (nothing_failed g.S.Store.faults g.S.Store.may_fail here)

pub returns-in-Err-clause-contest : goal.returns-in-Err-clause-contest
returns-in-Err-clause-contest g c =
    let here = c.args.store.now in
    memory_contest g.S.Store.contests g.S.Store.may_contest here here (Err Memory) refl _ (nothing_contested g.S.Store.contests g.S.Store.may_contest here)
