-- The number of commits ends with the times.
use Rattle.std.proofs.Common.{◌≡◌, ℕ, ◌+◌, ◌^◌, ◌<◌, ◌≤◌, ℤ, ◌<ℤ◌, List, Option, None, Some, refl, sym, subst, arith}
use Rattle.std.specs.Coded.{le_prop}
use Rattle.std.specs.Option.{ForSome}
use Rattle.std.specs.Str.Parse.{digits_value}
use Rattle.std.proofs.Math.Logic.{∥∥₁_elim}
use Rattle.std.proofs.lemmas.Int.{ints}
use Rattle.lake_basics.specs.declared.limits.TheConstants.{MAX_COMMITS}
use Rattle.hudi_names.specs.Time.{IsSomeTime, IsTime}
use Rattle.hudi_names.proofs.TimeLemmas.{digits_small, number-lt}
use Rattle.hudi_names.specs.Next.{IsNext}
use Rattle.target_hudi.specs.Rank.{time_rank}

-- the next time is later than the newest
pub rank_later : (newest : Option (List ℕ)) (now : ℕ) (time : List ℕ) (ms : ℤ) → IsNext newest now ms → IsTime time ms → time_rank newest < time_rank (Some time)
rank_later None now time ms next is = omega arith
rank_later (Some last) now time ms next is =
    let before : next.0 <ℤ ms = grind (arith, ints, next.2) in
    let less = number-lt (digits_value 10 last) (digits_value 10 time) next.0 ms next.1.number is.number before in omega (arith, less)

pub rank_small : (newest : Option (List ℕ)) → ForSome newest (λ time. ∥ IsSomeTime time ∥₁) → time_rank newest ≤ 10 ^ 17
rank_small None real = omega arith
rank_small (Some time) real = ∥∥₁_elim (real time refl) le_prop (λ (some : IsSomeTime time). let small = digits_small time some.1.digits in omega (arith, small))

-- so one commit more is within it
pub one_more : (commits : ℕ) (newest : Option (List ℕ)) (time : List ℕ) → commits ≤ MAX_COMMITS + time_rank newest → time_rank newest < time_rank (Some time) → commits + 1 ≤ MAX_COMMITS + time_rank (Some time)
one_more commits newest time bounded later = omega (arith, bounded, later)

-- ---- a time that is real

pub real_still : (time last : List ℕ) → Some time ≡ Some last → IsSomeTime time → ∥ IsSomeTime last ∥₁
real_still time last same real = ∣ subst IsSomeTime (cc same) real ∣₁

no_prop : IsProp ⊥
no_prop x y = absurd x

pub not_unreal : (newest : Option (List ℕ)) (last bytes : List ℕ) → ForSome newest (λ time. ∥ IsSomeTime time ∥₁) → newest ≡ Some last → bytes ≡ last → ((ms : ℤ) → IsTime bytes ms → ⊥) → ⊥
not_unreal newest last bytes real is same none = ∥∥₁_elim (real last is) no_prop (λ (some : IsSomeTime last). none some.0 (subst (λ t. IsTime t some.0) (sym same) some.1))
