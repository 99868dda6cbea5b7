use Rattle.std.proofs.Common.{ℕ, List, Option, MatchOption, ◌≡◌, ◌<◌, ◌^◌, get_or, length, sym, subst, arith}
use Rattle.std.proofs.lemmas.Fmt.{IsAscii-decimal}
use Rattle.std.proofs.lemmas.Str.{IsUtf8-from_ascii}
use Rattle.std.specs.Str.{IsUtf8}
use Rattle.std.specs.Fmt.{decimal}
use Rattle.iceberg_metadata.proofs.NameLemmas.{decimal_some, decimal_no_plus, decimal_no_zero, parsed}
use Rattle.iceberg_metadata.proofs.name.decimal_of.Goals.{else-digits-eq48-via-then-digits-eq48+else-digits-ne1, else-digits-eq48-via-else-digits-eq48}
use Rattle.iceberg_metadata.proofs.name.decimal_of.Goals as goal

pub returns-then-is_empty : goal.returns-then-is_empty
returns-then-is_empty c = decimal_some c.args.digits.now (sym c.if-is_empty.ensures)

pub returns-then-digits-eq43 : goal.returns-then-digits-eq43
returns-then-digits-eq43 c = decimal_no_plus c.args.digits.now c.if-digits-eq43.true

pub returns-then-digits-ne1 : goal.returns-then-digits-ne1
returns-then-digits-ne1 c = decimal_no_zero c.args.digits.now c.if-digits-eq48.true c.if-digits-ne1.true

pub returns-in-Ok : goal.returns-in-Ok
returns-in-Ok c =
    let ds : List ℕ = c.args.digits.now in
    let alone : get_or ds 0 0 ≡ 48 → length ds ≡ 1 = elim c.else-digits-eq48.branch [ else-digits-eq48-via-then-digits-eq48+else-digits-ne1 w ↦ λ e. w.if-digits-ne1.false | else-digits-eq48-via-else-digits-eq48 w ↦ λ e. absurd (w.if-digits-eq48.false e) ] in
    let P : Option ℕ → Type 0 = λ o. MatchOption o ((v : ℕ) → v < 2 ^ 32 → ds ≡ decimal v → ⊥) (λ v. (v < 2 ^ 32) × (ds ≡ decimal v)) in
    subst P (sym c.ok.ensures.value) (parsed ds c.in-Ok.text.now c.parse.result c.in-Ok.ensures.cases.0 c.if-digits-eq43.false alone c.parse.ensures.value.0)

pub returns-in-Err : goal.returns-in-Err
returns-in-Err c = λ v small is. c.in-Err.ensures.cases.0 (subst IsUtf8 (sym is) (IsUtf8-from_ascii (decimal v) (IsAscii-decimal v (omega (arith, small)))))
