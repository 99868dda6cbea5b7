use Rattle.std.proofs.Common.{ℕ, List, Option, MatchOption, ◌≡◌, ◌<◌, ◌^◌, get_or, length, sym, subst}
use Rattle.std.specs.Fmt.{decimal}
use Rattle.sync_driver.proofs.Numbers.{decimal_some, decimal_no_plus, decimal_no_zero, parsed}
use Rattle.sync_driver.proofs.words.number_of.Goals.{else-digits-eq48-via-then-digits-eq48+else-digits-ne1, else-digits-eq48-via-else-digits-eq48}
use Rattle.sync_driver.proofs.words.number_of.Goals as goal

pub returns-then-is_empty : goal.returns-then-is_empty
returns-then-is_empty c = subst (λ (ds : List ℕ). (n : ℕ) → n < 2 ^ 64 → ds ≡ decimal n → ⊥) c.as_bytes-digits.ensures.value (decimal_some c.as_bytes-digits.result.now (sym c.if-is_empty.ensures))

pub returns-then-digits-eq43 : goal.returns-then-digits-eq43
returns-then-digits-eq43 c = subst (λ (ds : List ℕ). (n : ℕ) → n < 2 ^ 64 → ds ≡ decimal n → ⊥) c.as_bytes-digits.ensures.value (decimal_no_plus c.as_bytes-digits.result.now c.if-digits-eq43.true)

pub returns-then-digits-ne1 : goal.returns-then-digits-ne1
returns-then-digits-ne1 c = subst (λ (ds : List ℕ). (n : ℕ) → n < 2 ^ 64 → ds ≡ decimal n → ⊥) c.as_bytes-digits.ensures.value (decimal_no_zero c.as_bytes-digits.result.now c.if-digits-eq48.true c.if-digits-ne1.true)

pub returns : goal.returns
returns c =
    let ds : List ℕ = c.as_bytes-digits.result.now in
    let alone : get_or ds 0 0 ≡ 48 → length ds ≡ 1 = elim c.else-digits-eq48.branch [ else-digits-eq48-via-then-digits-eq48+else-digits-ne1 w ↦ λ e. w.if-digits-ne1.false | else-digits-eq48-via-else-digits-eq48 w ↦ λ e. absurd (w.if-digits-eq48.false e) ] in
    let P : List ℕ → Option ℕ → Type 0 = λ ds o. MatchOption o ((v : ℕ) → v < 2 ^ 64 → ds ≡ decimal v → ⊥) (λ v. (v < 2 ^ 64) × (ds ≡ decimal v)) in
    subst (λ (l : List ℕ). P l c.ok.result) c.as_bytes-digits.ensures.value
    (subst (P ds) (sym c.ok.ensures.value) (parsed ds c.args.text.now c.parse.result (sym c.as_bytes-digits.ensures.value) c.if-digits-eq43.false alone c.parse.ensures.value.0))
