-- The next instant.
use Rattle.std.proofs.Common.{◌≡◌, ℕ, ℤ, pos, ◌^◌, ◌≤◌, ◌≤ℤ◌, ◌+ℤ◌, List, Option, Some, None, IfSome, codes, sym, ap, subst, ◌∙◌, arith}
use Rattle.std.specs.Int.{int_max}
use Rattle.std.specs.Ordering.{nat_cmp}
use Rattle.std.specs.declared.cmp.Ordering.TheVariants.{Less}
use Rattle.std.specs.Cmp.Lexicographic.{slice_cmp}
use Rattle.std.proofs.lemmas.Int.{ints}
use Rattle.hudi_names.specs.Time.{IsTime, IsPast9999}
use Rattle.hudi_names.proofs.TimeLemmas.{epoch, later_text, time_bounds, time_same}
use Rattle.hudi_names.specs.Next.{IsNext}

pub next_same : (last : Option (List ℕ)) (now : ℕ) (a b : ℤ) → IsNext last now a → IsNext last now b → a ≡ b
next_same None now a b first second = first ∙ sym second
next_same (Some l) now a b first second = first.2 ∙ ap (λ z. int_max (pos now) (z +ℤ pos 1)) (time_same l first.0 second.0 first.1 second.1) ∙ sym second.2

max_right : (a b : ℤ) → b ≤ℤ int_max a b
max_right a b = grind (arith, ints)

pub next_later : (last : Option (List ℕ)) (now : ℕ) (ms : ℤ) (text : List ℕ) → IsNext last now ms → IsTime text ms → IfSome last (λ l. slice_cmp nat_cmp l text ≡ Less)
next_later None now ms text next is = tt
next_later (Some l) now ms text next is =
    let right = max_right (pos now) (next.0 +ℤ pos 1) in
    later_text l text next.0 ms next.1 is (omega (arith, ints, right, next.2))

-- the next time, where it is past all digits, whatever it is
pub next_past : (last : Option (List ℕ)) (now : ℕ) (ms : ℤ) → IsNext last now ms → ((text : List ℕ) (earlier : ℤ) → IsTime text earlier → earlier ≤ℤ ms → IsPast9999 ms) → (other : ℤ) → IsNext last now other → IsPast9999 other
next_past None now ms next past other also =
    let after = past (codes "19700101000000000") (pos 0) epoch (omega (arith, ints, next)) in
    subst IsPast9999 (next_same None now ms other next also) after
next_past (Some l) now ms next past other also =
    let right = max_right (pos now) (next.0 +ℤ pos 1) in
    let after = past l next.0 next.1 (omega (arith, ints, right, next.2)) in
    subst IsPast9999 (next_same (Some l) now ms other next also) after

pub not_past : (last : Option (List ℕ)) (now : ℕ) (ms : ℤ) (text : List ℕ) → IsNext last now ms → IsTime text ms → ((other : ℤ) → IsNext last now other → IsPast9999 other) → ⊥
not_past last now ms text next t all = let bounds = time_bounds _ ms t.number in let past = all ms next in omega (arith, ints, bounds.1, past)

-- a clock that is past what 63 bits hold is past the year 9999
pub next_huge : (last : Option (List ℕ)) (now : ℕ) (ms : ℤ) → 2 ^ 63 ≤ now → IsNext last now ms → IsPast9999 ms
next_huge None now ms huge next = omega (arith, ints, huge, next)
next_huge (Some text) now ms huge next = grind (arith, ints, huge, next.2)
