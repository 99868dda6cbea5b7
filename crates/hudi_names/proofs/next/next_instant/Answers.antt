use Rattle.std.proofs.Common.{◌≡◌, ◌≤ℤ◌, ℕ, ℤ, List, Option, Some, MatchOption, IfNone, OnErr, Result, Ok, Err, IsErrOf, IsErrAnd, subst, refl, to_z, of_z, w64}
use Rattle.std.proofs.lemmas.Int.{to_z-of_z}
use Rattle.hudi_names.specs.declared.error.HudiError.{HudiError}
use Rattle.hudi_names.specs.declared.error.HudiError.TheVariants.{Memory, Limit}
use Rattle.table_history.specs.declared.limit.LimitKind.TheVariants.{Versions}
use Rattle.hudi_names.specs.Time.{IsTime, IsPast9999}
use Rattle.hudi_names.proofs.NextLemmas.{next_later, next_past, not_past}
use Rattle.hudi_names.proofs.next.next_instant.Goals as goal

no_limit : {T : Type 0} (r : Result T HudiError) → IsErrAnd r (λ e. e ≡ Memory) → IsErrOf r (Limit Versions) → ⊥
no_limit (Ok x) h e = h
no_limit (Err x) h e = absurd (cc)

-- the text of the time that was asked for
written : (o : Option (List ℕ)) (text : List ℕ) (asked ms : ℤ) → o ≡ Some text → asked ≡ ms → MatchOption o ((t : List ℕ) → IsTime t asked → ⊥) (λ t. IsTime t asked) → IsTime text ms
written o text asked ms is fit h =
    let P : Option (List ℕ) → Type 0 = λ o. MatchOption o ((t : List ℕ) → IsTime t asked → ⊥) (λ t. IsTime t asked) in
    let time : IsTime text asked = subst P is h in subst (IsTime text) fit time

-- what holds where memory was asked for
asked : {T E : Type 0} {e : E} (r : Result T E) (P : Type 0) → OnErr r P → r ≡ Err e → P
asked (Ok x) P h is = absurd (cc is)
asked (Err e) P h is = h

pub returns-in_err-text-clause-limit : goal.returns-in_err-text-clause-limit
returns-in_err-text-clause-limit c =
    let fit = to_z-of_z w64 c.next_ms-ms.result (record { sfits = c.next_ms-ms.type_inv }) in
    let some = asked c.time_text.result _ c.time_text.ensures.memory c.in_err-text.was in (
      λ e. absurd (no_limit _ c.from_residual.ensures.1 e),
      λ all. absurd (not_past _ _ _ some.0 c.next_ms-ms.ensures (subst (IsTime some.0) fit some.1) all),
    )

pub returns-in-Some-clause-later : goal.returns-in-Some-clause-later
returns-in-Some-clause-later c =
    let fit = to_z-of_z w64 c.next_ms-ms.result (record { sfits = c.next_ms-ms.type_inv }) in
    next_later _ _ _ _ c.next_ms-ms.ensures (written _ c.in-Some.text _ _ c.in-Some.is fit c.in_ok-text.ensures.text)

pub returns-in-Some-clause-limit : goal.returns-in-Some-clause-limit
returns-in-Some-clause-limit c =
    let fit = to_z-of_z w64 c.next_ms-ms.result (record { sfits = c.next_ms-ms.type_inv }) in (
      λ e. absurd (cc),
      λ all. absurd (not_past _ _ _ _ c.next_ms-ms.ensures (written _ c.in-Some.text _ _ c.in-Some.is fit c.in_ok-text.ensures.text) all),
    )

pub returns-in-None-clause-limit : goal.returns-in-None-clause-limit
returns-in-None-clause-limit c =
    let fit = to_z-of_z w64 c.next_ms-ms.result (record { sfits = c.next_ms-ms.type_inv }) in
    let P : ℤ → Type 0 = λ z. (t : List ℕ) (earlier : ℤ) → IsTime t earlier → earlier ≤ℤ z → IsPast9999 z in
    let Q : Option (List ℕ) → Type 0 = λ o. IfNone o (P (to_z w64 (of_z w64 c.next_ms-ms.result))) in
    let past : P c.next_ms-ms.result = subst P fit (subst Q c.in-None.is c.in_ok-text.ensures.past) in
    (λ e. next_past _ _ _ c.next_ms-ms.ensures past, λ all. refl)
