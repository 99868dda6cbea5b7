use Rattle.std.proofs.Common.{ap, arith, refl, subst, sym, ℕ, ◌≤◌, ◌∙◌}
use Rattle.std.specs.Option.{option_copied}
use Rattle.lake_basics.specs.declared.limits.TheConstants.{MAX_ICEBERG_VERSION}
use Rattle.target_core.specs.Views.{Origin}
use Rattle.iceberg_metadata.specs.declared.metadata.Metadata.{Metadata}
use Rattle.iceberg_version.specs.Sound.{is_sound_metadata}
use Rattle.iceberg_version.specs.Writing.{mark_of}
use Rattle.iceberg_commit.specs.NewVersion.{HasColumns, schema_behind}
use Rattle.iceberg_commit.proofs.NewListLemmas.{few_columns}
use Rattle.iceberg_commit.proofs.NewVersionLemmas.{can_write, few_versions, gone_here, has_columns, holds_current, is_behind, new_ids, new_sound, texts_refused, version_written}
use Rattle.iceberg_commit.proofs.version.new_version.Goals as goal

pub go_on-requires-clause-few : goal.go_on-requires-clause-few
go_on-requires-clause-few c = few_columns c.args.kept.now c.args.commit.now c.requires.can c.requires.kinds

pub go_on-requires-clause-columns : goal.go_on-requires-clause-columns
go_on-requires-clause-columns c =
    let kept = c.args.kept.now in
    let commit = c.args.commit.now in
    subst (λ (m : Metadata). HasColumns m (schema_behind kept.table commit.change) kept.table.partition) (sym c.replace-metadata.ensures.value) (has_columns kept commit c.requires.can c.requires.kinds)

pub texts_of-requires-clause-writable : goal.texts_of-requires-clause-writable
texts_of-requires-clause-writable c =
    let kept = c.args.kept.now in
    let commit = c.args.commit.now in
    let can = c.requires.can in
    let kinds = c.requires.kinds in
    let now = c.args.now_ms in
    let place = c.in_ok-place.place in
    let mark = c.in_ok-mark.mark in
    let new = c.go_on.new.metadata in
    let version = c.in_ok-version.version in
    let numbered = c.in_ok-version.ensures.next in
    let gone = gone_here kept commit now place mark new c.replace-metadata.result version c.replace-metadata.ensures.value numbered c.in_ok-place.ensures.is in
    let small = few_versions kept.version version numbered c.in_ok-version.ensures.within in
    can_write kept commit can kinds now place mark new gone small

pub texts_of-requires-clause-holds : goal.texts_of-requires-clause-holds
texts_of-requires-clause-holds c =
    let kept = c.args.kept.now in
    let commit = c.args.commit.now in
    let can = c.requires.can in
    let kinds = c.requires.kinds in
    let now = c.args.now_ms in
    let place = c.in_ok-place.place in
    let mark = c.in_ok-mark.mark in
    let new = c.go_on.new.metadata in
    let version = c.in_ok-version.version in
    let numbered = c.in_ok-version.ensures.next in
    let gone = gone_here kept commit now place mark new c.replace-metadata.result version c.replace-metadata.ensures.value numbered c.in_ok-place.ensures.is in
    let small = few_versions kept.version version numbered c.in_ok-version.ensures.within in
    holds_current kept commit can kinds now place mark new gone small

pub returns-in_err-written-clause-refusal : goal.returns-in_err-written-clause-refusal
returns-in_err-written-clause-refusal c =
    let kept = c.args.kept.now in
    let commit = c.args.commit.now in
    let can = c.requires.can in
    let kinds = c.requires.kinds in
    let now = c.args.now_ms in
    let place = c.in_ok-place.place in
    let mark = c.in_ok-mark.mark in
    let new = c.go_on.new.metadata in
    let version = c.in_ok-version.version in
    let numbered = c.in_ok-version.ensures.next in
    let gone = gone_here kept commit now place mark new c.replace-metadata.result version c.replace-metadata.ensures.value numbered c.in_ok-place.ensures.is in
    let small = few_versions kept.version version numbered c.in_ok-version.ensures.within in
    let origin : Origin = record { source = c.args.source; table = option_copied c.args.table } in
    let marked = c.in_ok-mark.ensures ∙ ap (λ (n : ℕ). mark_of n origin commit.position) numbered in
    let refused = c.in_err-written.ensures.refusal kept.metadata gone.schemas gone.fields (is_behind kept commit can kinds now place mark new gone small _ version kept.metadata.current_snapshot numbered refl) in
    texts_refused kept commit can kinds now place mark new gone small origin marked c.from_residual-in_err-written.result c.in_err-written.field-0.0 c.from_residual-in_err-written.ensures.1 refused

pub invariant_of-kept-2-clause-schema_ids : goal.invariant_of-kept-2-clause-schema_ids
invariant_of-kept-2-clause-schema_ids c =
    let kept = c.args.kept.now in
    let commit = c.args.commit.now in
    let can = c.requires.can in
    let kinds = c.requires.kinds in
    let now = c.args.now_ms in
    let place = c.in_ok-place.place in
    let mark = c.in_ok-mark.mark in
    let new = c.go_on.new.metadata in
    let version = c.in_ok-version.version in
    let numbered = c.in_ok-version.ensures.next in
    let gone = gone_here kept commit now place mark new c.replace-metadata.result version c.replace-metadata.ensures.value numbered c.in_ok-place.ensures.is in
    let small = few_versions kept.version version numbered c.in_ok-version.ensures.within in
    new_ids kept commit can kinds now place mark new gone small

pub invariant_of-kept-2-clause-metadata_sound : goal.invariant_of-kept-2-clause-metadata_sound
invariant_of-kept-2-clause-metadata_sound c =
    let kept = c.args.kept.now in
    let commit = c.args.commit.now in
    let can = c.requires.can in
    let kinds = c.requires.kinds in
    let now = c.args.now_ms in
    let place = c.in_ok-place.place in
    let mark = c.in_ok-mark.mark in
    let new = c.go_on.new.metadata in
    let version = c.in_ok-version.version in
    let numbered = c.in_ok-version.ensures.next in
    let gone = gone_here kept commit now place mark new c.replace-metadata.result version c.replace-metadata.ensures.value numbered c.in_ok-place.ensures.is in
    let small = few_versions kept.version version numbered c.in_ok-version.ensures.within in
    ap (λ (n : ℕ). is_sound_metadata n new) numbered ∙ new_sound kept commit can kinds now place mark new gone small

pub invariant_of-kept-2-clause-begun : goal.invariant_of-kept-2-clause-begun
invariant_of-kept-2-clause-begun c = λ none. let numbered = c.in_ok-version.ensures.next in absurd (omega (arith, none, numbered))

pub returns-clause-written : goal.returns-clause-written
returns-clause-written c =
    let kept = c.args.kept.now in
    let commit = c.args.commit.now in
    let can = c.requires.can in
    let kinds = c.requires.kinds in
    let now = c.args.now_ms in
    let place = c.in_ok-place.place in
    let mark = c.in_ok-mark.mark in
    let new = c.go_on.new.metadata in
    let version = c.in_ok-version.version in
    let numbered = c.in_ok-version.ensures.next in
    let gone = gone_here kept commit now place mark new c.replace-metadata.result version c.replace-metadata.ensures.value numbered c.in_ok-place.ensures.is in
    let small = few_versions kept.version version numbered c.in_ok-version.ensures.within in
    let origin : Origin = record { source = c.args.source; table = option_copied c.args.table } in
    let marked = c.in_ok-mark.ensures ∙ ap (λ (n : ℕ). mark_of n origin commit.position) numbered in
    let texts = c.in_ok-written.ensures.texts kept.metadata gone.schemas gone.fields (is_behind kept commit can kinds now place mark new gone small _ version kept.metadata.current_snapshot numbered refl) in
    version_written kept commit can kinds now place mark new gone small origin marked c.in_ok-written.written _ texts numbered refl (subst (λ (n : ℕ). n ≤ MAX_ICEBERG_VERSION) numbered c.in_ok-version.ensures.within)
