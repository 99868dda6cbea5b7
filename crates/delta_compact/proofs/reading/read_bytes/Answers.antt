use Rattle.std.proofs.Common.{◌≡◌, ◌<◌, ℕ, List, length, Err, refl, sym, ap, subst, ◌∙◌}
use Rattle.lake_basics.specs.declared.limits.TheConstants.{MAX_FILE_BYTES}
use Rattle.lake_store.specs.declared.store.StoreError.{StoreError}
use Rattle.delta_table.specs.Versions.{HoldsVersion, IsVersionPath}
use Rattle.delta_table.proofs.PathLaws.{missing_here}
use Rattle.table_history.specs.declared.limit.LimitKind.TheVariants.{File}
use Rattle.delta_compact.specs.Refusals.{HasCause}
use Rattle.delta_compact.specs.declared.error.CompactFault.TheVariants.{Limit}
use Rattle.delta_compact.proofs.reading.read_bytes.Goals as goal

pub returns-in-Ok-None-clause-refused : goal.returns-in-Ok-None-clause-refused
returns-in-Ok-None-clause-refused g c told =
    let files = (g.S.Store.disk c.args.store.now).files in
    let path = subst (λ p. IsVersionPath p c.args.version) (sym c.as_str.ensures.value) c.in_ok-path.ensures in
    absurd (missing_here files c.args.version c.as_str.result.now path (sym (sym c.in-Ok-None.field-0-is ∙ c.in-Ok-None.ensures.bytes told)) (c.requires.there told))

pub returns-in-Err-TooLong-clause-refused : goal.returns-in-Err-TooLong-clause-refused
returns-in-Err-TooLong-clause-refused g c told =
    let files = (g.S.Store.disk c.args.store.now).files in
    let n = c.in-Err-TooLong.field-0-0 in
    let path = subst (λ p. IsVersionPath p c.args.version) (sym c.as_str.ensures.value) c.in_ok-path.ensures in
    let long = c.in-Err-TooLong.ensures.too_long n (ap (λ (e : StoreError). Err e) c.in-Err-TooLong.field-0-is) in
    let has = long.1 told in
    subst (HasCause (λ e. (bytes : List ℕ) × HoldsVersion files c.args.version bytes × (MAX_FILE_BYTES < length bytes) × (e ≡ Limit File MAX_FILE_BYTES))) (sym c.too_long.ensures)
    (has.0, record { path = c.as_str.result.now; is = path; there = has.1 }, subst (λ k. MAX_FILE_BYTES < k) has.2 long.0, refl)
