use Rattle.std.proofs.Common.{◌≡◌, ◌⊎◌, Ok, refl, sym, ap, subst, ◌∙◌}
use Rattle.std.specs.Prelude.{IsErrOf}
use Rattle.std.specs.FinMap as map
use Rattle.lake_store.specs.declared.store.StoreError.{StoreError}
use Rattle.lake_store.specs.declared.store.StoreError.TheVariants.{Taken}
use Rattle.lake_store.proofs.RunLaws.{reading_begins}
use Rattle.delta_compaction.specs.Reconciled.{text_of}
use Rattle.delta_compact.specs.Blocks.{IsBlockPath}
use Rattle.delta_compact.specs.Refusals.{HasCause, HaveManyActions, IsUnjoined}
use Rattle.delta_compact.specs.declared.error.CompactFault.{CompactFault}
use Rattle.delta_compact.proofs.Causes.{contest_as, failed_of, fault_as, store_caused, taken_of, taken_told}
use Rattle.delta_compact.proofs.Joins.{text_joined}
use Rattle.delta_compact.proofs.Moments.{published_compacted, reading_compacts, staged_compacts}
use Rattle.delta_compact.proofs.Paths.{not_staged}
use Rattle.delta_compact.proofs.publishing.publish_block.Goals as goal

pub returns-in_err-lines-clause-compacts : goal.returns-in_err-lines-clause-compacts
returns-in_err-lines-clause-compacts g c told = reading_compacts g.S.Store _ _ c.args.store.now c.args.store.now (reading_begins g.S.Store g.met.S.Store.only_now c.args.store.now told)

pub returns-in_err-text-clause-compacts : goal.returns-in_err-text-clause-compacts
returns-in_err-text-clause-compacts g c told = reading_compacts g.S.Store _ _ c.args.store.now c.args.store.now (reading_begins g.S.Store g.met.S.Store.only_now c.args.store.now told)

pub stage_and_publish-requires-clause-apart : goal.stage_and_publish-requires-clause-apart
stage_and_publish-requires-clause-apart g c same = not_staged c.args.path.now c.args.block c.requires.path (sym (same ∙ c.as_str.ensures.value))

pub stage_and_publish-requires-clause-free : goal.stage_and_publish-requires-clause-free
stage_and_publish-requires-clause-free g c told = ap (map.get (g.S.Store.disk c.args.store.now).files) c.as_str.ensures.value ∙ c.requires.free told

-- ---- what is published

no_error : {T : Type 0} (x : T) (e : StoreError) → IsErrOf {T = T} (Ok x) e → ⊥
no_error x e is = cc

pub returns-in-Ok-clause-compacted : goal.returns-in-Ok-clause-compacted
returns-in-Ok-clause-compacted g c told =
    let block = c.args.block in
    let commits = c.args.commits.now in
    let name = c.as_str.result.now in
    let bytes = c.as_slice.result.now in
    let is = subst (λ p. IsBlockPath p block) (sym c.as_str.ensures.value) c.requires.path in
    let text : bytes ≡ text_of c.in_ok-lines.lines = c.as_slice.ensures.value ∙ c.in_ok-text.ensures in
    published_compacted g.S.Store block name bytes commits c.args.store.now c.stage_and_publish.new.store is (c.requires.held told) c.in_ok-lines.ensures.taken
    (text_joined commits c.in_ok-lines.lines bytes c.in_ok-lines.ensures.taken c.in_ok-lines.ensures.newest c.in_ok-lines.ensures.few text) (c.in-Ok.ensures.published told)

pub returns-in-Ok-clause-compacts : goal.returns-in-Ok-clause-compacts
returns-in-Ok-clause-compacts g c told =
    let block = c.args.block in
    let name = c.as_str.result.now in
    let bytes = c.as_slice.result.now in
    let is = subst (λ p. IsBlockPath p block) (sym c.as_str.ensures.value) c.requires.path in
    let text : bytes ≡ text_of c.in_ok-lines.lines = c.as_slice.ensures.value ∙ c.in_ok-text.ensures in
    let free = ap (map.get (g.S.Store.disk c.args.store.now).files) c.as_str.ensures.value ∙ c.requires.free told in
    staged_compacts g.S.Store block name bytes is c.args.store.now c.stage_and_publish.new.store (c.args.commits.now, c.requires.held told, (c.in_ok-lines.lines, c.in_ok-lines.ensures.newest, text)) free _ _
    (λ taken. absurd (no_error _ Taken taken)) told (c.in-Ok.ensures.left told) c.in-Ok.ensures.any_moment

pub returns-clause-compacts : goal.returns-clause-compacts
returns-clause-compacts g c told =
    let block = c.args.block in
    let name = c.as_str.result.now in
    let bytes = c.as_slice.result.now in
    let is = subst (λ p. IsBlockPath p block) (sym c.as_str.ensures.value) c.requires.path in
    let text : bytes ≡ text_of c.in_ok-lines.lines = c.as_slice.ensures.value ∙ c.in_ok-text.ensures in
    let free = ap (map.get (g.S.Store.disk c.args.store.now).files) c.as_str.ensures.value ∙ c.requires.free told in
    staged_compacts g.S.Store block name bytes is c.args.store.now c.stage_and_publish.new.store (c.args.commits.now, c.requires.held told, (c.in_ok-lines.lines, c.in_ok-lines.ensures.newest, text)) free _ _
    (λ taken. (refl, taken_told c.in-Err.error c.store_fault.result c.store_fault.ensures taken)) told (c.in-Err.ensures.left told) c.in-Err.ensures.any_moment

pub returns-clause-refused : goal.returns-clause-refused
returns-clause-refused g c =
    let P : CompactFault → Type 0 = λ e. IsUnjoined c.args.block c.args.commits.now e ⊎ HaveManyActions c.args.commits.now e in
    subst (HasCause P) (sym c.store_fault.ensures) (store_caused P c.in-Err.error)

pub returns-clause-cause : goal.returns-clause-cause
returns-clause-cause g c = fault_as g.S.Store.faults g.S.Store.may_fail c.args.store.now c.stage_and_publish.new.store _ _ c.in-Err.ensures.cause (failed_of c.in-Err.error c.store_fault.result c.store_fault.ensures)

pub returns-clause-contest : goal.returns-clause-contest
returns-clause-contest g c =
    contest_as g.S.Store.contests g.S.Store.may_contest c.args.store.now c.stage_and_publish.new.store _ _ c.in-Err.ensures.contest
    (taken_of c.in-Err.error c.store_fault.result c.store_fault.ensures) (taken_told c.in-Err.error c.store_fault.result c.store_fault.ensures)
