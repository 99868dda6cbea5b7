use Rattle.std.proofs.Common.{ℕ, Option, sym, subst, ◌∙◌}
use Rattle.std.specs.Prelude.{IfErr, IfOk, MatchOption, Result}
use Rattle.lake_store.specs.Disk.{Disk}
use Rattle.lake_store.proofs.RunLaws.{reading_further}
use Rattle.iceberg_table.specs.Folder.{HasVersion, IsNewest}
use Rattle.iceberg_version.specs.KeptEnd.{view_of}
use Rattle.target_core.specs.Refusals.{IsInspectRefusal}
use Rattle.target_core.specs.SeenView.{IsSeen}
use Rattle.target_core.specs.declared.target.Seen.{Seen}
use Rattle.target_core.specs.declared.target.TargetError.{TargetError}
use Rattle.iceberg_version.specs.declared.kept.IcebergKept.{IcebergKept}
use Rattle.target_iceberg.specs.Inspecting.{IsCrowded, IsForeign}
use Rattle.target_iceberg.specs.Kept.{StandsFor}
use Rattle.target_iceberg.specs.Reading.{Reads}
use Rattle.iceberg_table.specs.Refusals.{HasManyNames}
use Rattle.target_iceberg.proofs.SeenLemmas.{memory_refusal, names_crowded, names_foreign, told_refusal, told_seen, unpublished_here, unpublished_sound}
use Rattle.target_iceberg.proofs.inspect.inspect.Goals as goal

pub inspect_version-requires : goal.inspect_version-requires
inspect_version-requires g c = λ told.
    let files = (g.S.Store.disk c.args.store.now).files in
    let newest = subst (λ (o : Option ℕ). MatchOption o ((v : ℕ) → HasVersion files v → ⊥) (IsNewest (HasVersion files))) c.in-Some.is (c.in-Ok.ensures.newest told) in
    subst (λ (d : Disk). IsNewest (HasVersion d.files) c.in-Some.version) (sym (c.in-Ok.ensures.only_reads told).disk) newest

pub returns-in-Some-clause-seen : goal.returns-in-Some-clause-seen
returns-in-Some-clause-seen g c = λ id location told.
    subst (λ (d : Disk). IfOk c.inspect_version.result (IsSeen (Reads d.files) (IsForeign c.args.source d.files) view_of (λ (kept : IcebergKept). StandsFor id location kept d.files) c.args.source)) (c.in-Ok.ensures.only_reads told).disk (c.inspect_version.ensures.seen id location told)

pub returns-in-Some-clause-refusal : goal.returns-in-Some-clause-refusal
returns-in-Some-clause-refusal g c = λ told.
    subst (λ (d : Disk). IfErr c.inspect_version.result (IsInspectRefusal (IsCrowded c.args.source d.files))) (c.in-Ok.ensures.only_reads told).disk (c.inspect_version.ensures.refusal told)

pub returns-in-Some-clause-only_reads : goal.returns-in-Some-clause-only_reads
returns-in-Some-clause-only_reads g c = reading_further g.S.Store c.args.store.now c.list_metadata.new.store c.inspect_version.new.store c.in-Ok.ensures.only_reads c.inspect_version.ensures.only_reads

pub returns-in-Ok-clause-seen : goal.returns-in-Ok-clause-seen
returns-in-Ok-clause-seen g c = λ id location told.
    let files = (g.S.Store.disk c.args.store.now).files in
    let none = subst (λ (o : Option ℕ). MatchOption o ((v : ℕ) → HasVersion files v → ⊥) (IsNewest (HasVersion files))) c.in-None.is (c.in-Ok.ensures.newest told) in
    unpublished_here files none c.args.source (λ (kept : IcebergKept). StandsFor id location kept files) c.as_slice.result.now (c.as_slice.ensures.value ∙ c.in-Ok.ensures.names told) c.unpublished.result c.unpublished.ensures.seen

pub returns-in-Ok-clause-sound : goal.returns-in-Ok-clause-sound
returns-in-Ok-clause-sound g c = unpublished_sound c.args.source c.as_slice.result.now c.unpublished.result c.unpublished.ensures.seen

pub returns-in-Ok-clause-refusal : goal.returns-in-Ok-clause-refusal
returns-in-Ok-clause-refusal g c = λ told. memory_refusal (IsCrowded c.args.source (g.S.Store.disk c.args.store.now).files) c.unpublished.result c.unpublished.ensures.memory

pub returns-clause-seen : goal.returns-clause-seen
returns-clause-seen g c = λ id location told.
    let files = (g.S.Store.disk c.args.store.now).files in
    let source = c.args.source in
    let P = λ (kept : IcebergKept). StandsFor id location kept files in
    subst (λ (r : Result (Seen IcebergKept) TargetError). IfOk r (IsSeen (Reads files) (IsForeign source files) view_of P source)) (sym c.told.ensures.told)
    (told_seen files source (HasManyNames files) (names_foreign files source) P c.in-Err.error (c.in-Err.ensures.refused told))

pub returns-clause-refusal : goal.returns-clause-refusal
returns-clause-refusal g c = λ told.
    let files = (g.S.Store.disk c.args.store.now).files in
    let source = c.args.source in
    subst (λ (r : Result (Seen IcebergKept) TargetError). IfErr r (IsInspectRefusal (IsCrowded source files))) (sym c.told.ensures.told)
    (told_refusal files source (HasManyNames files) (names_crowded files source) c.in-Err.error (c.in-Err.ensures.refused told))
