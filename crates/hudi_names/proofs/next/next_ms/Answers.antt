use Rattle.std.proofs.Common.{◌≡◌, ◌<◌, ◌^◌, ◌+ℤ◌, ℤ, List, ℕ, pos, Option, sym, ap, subst, ◌∙◌, arith, to_z, of_z, w64, FitsSigned}
use Rattle.std.proofs.lemmas.Int.{ints, to_z-of_z}
use Rattle.std.specs.Int.{int_max}
use Rattle.std.specs.Option.{option_copied, IfSome}
use Rattle.hudi_names.specs.Time.{IsTime, IsSomeTime}
use Rattle.hudi_names.specs.Next.{IsNext}
use Rattle.hudi_names.proofs.TimeLemmas.{time_bounds}
use Rattle.hudi_names.proofs.next.next_ms.Goals as goal

bounded : (before : ℤ) (text : List ℕ) → IsTime text before → FitsSigned w64 before × FitsSigned w64 (before +ℤ pos 1)
bounded before text is = let b = time_bounds _ _ is.number in (omega (arith, ints, b.0, b.1), omega (arith, ints, b.0, b.1))

next_value : (before r : ℤ) (now : ℕ) (text : List ℕ) → IsTime text before → now < 2 ^ 63 → r ≡ int_max (to_z w64 now) (to_z w64 (of_z w64 (to_z w64 (of_z w64 before) +ℤ pos 1))) → to_z w64 (of_z w64 r) ≡ int_max (pos now) (before +ℤ pos 1)
next_value before r now text is clock e =
    let fits = bounded before text is in
    let back : to_z w64 (of_z w64 before) ≡ before = to_z-of_z w64 before fits.0 in
    let whole : to_z w64 (of_z w64 (to_z w64 (of_z w64 before) +ℤ pos 1)) ≡ before +ℤ pos 1 = ap (λ z. to_z w64 (of_z w64 (z +ℤ pos 1))) back ∙ to_z-of_z w64 (before +ℤ pos 1) fits.1 in
    let clock_is : to_z w64 now ≡ pos now = omega (arith, ints) in
    let value : r ≡ int_max (pos now) (before +ℤ pos 1) = e ∙ ap (λ z. int_max z (to_z w64 (of_z w64 (to_z w64 (of_z w64 before) +ℤ pos 1)))) clock_is ∙ ap (λ z. int_max (pos now) z) whole in
    let b = time_bounds _ _ is.number in
    let small : FitsSigned w64 (int_max (pos now) (before +ℤ pos 1)) = grind (arith, ints, b.0, b.1) in
    let fit : FitsSigned w64 r = subst (FitsSigned w64) (sym value) small in to_z-of_z w64 r fit ∙ value

pub overflow_add-before : goal.overflow_add-before
overflow_add-before c =
    let fits = bounded _ _ c.in-Some-read_time.ensures in
    subst (λ z. FitsSigned w64 (z +ℤ pos 1)) (sym (to_z-of_z w64 c.in-Some-read_time.before fits.0)) fits.1

pub returns-in-Some-read_time : goal.returns-in-Some-read_time
returns-in-Some-read_time c =
    let text : IsTime c.in-Some.last.now c.in-Some-read_time.before = subst (λ t. IsTime t c.in-Some-read_time.before) c.as_bytes.ensures.value c.in-Some-read_time.ensures in
    let P : Option (List ℕ) → Type 0 = λ o. IsNext o c.args.now_ms (to_z w64 (of_z w64 c.max.result)) in
    subst P (sym (ap (λ o. option_copied o) c.in-Some.is))
    (c.in-Some-read_time.before, text, next_value c.in-Some-read_time.before c.max.result c.args.now_ms _ text c.requires.clock c.max.ensures.value)

pub returns-in-None : goal.returns-in-None
returns-in-None c =
    let P : Option (List ℕ) → Type 0 = λ o. IfSome o IsSomeTime in
    let real : IsSomeTime c.in-Some.last.now = subst P (ap (λ o. option_copied o) c.in-Some.is) c.requires.real in
    absurd (c.in-None.ensures real.0 (subst (λ t. IsTime t real.0) (sym c.as_bytes.ensures.value) real.1))
