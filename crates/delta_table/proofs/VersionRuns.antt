-- The last run of rising versions.
use Rattle.std.proofs.Common.{◌≡◌, ◌≢◌, ℕ, ◌+◌, ◌<◌, ◌≤◌, List, length, get_or, Contains, MatchOption, Option, Some, None, Bool, true, false, refl, ap, subst, ◌∙◌, arith}
use Rattle.std.specs.Prelude.{nat_lt}
use Rattle.std.specs.List.Sorted.{IsNonDecreasing, IsSorted}
use Rattle.std.specs.Ordering.{nat_cmp}
use Rattle.std.proofs.lemmas.Bool.Decides.{nat_tests}
use Rattle.std.proofs.lemmas.List.{get_or_default}
use Rattle.std.proofs.lemmas.List.Elements.{Contains-get_or}
use Rattle.std.proofs.lemmas.List.Sorted.{IsNonDecreasingBy-from_sort}
use Rattle.delta_table.specs.Versions.{AreVersions}
use Rattle.delta_table.specs.declared.versions.Versions.{Versions}

-- of the first i versions, the last, and the first one of its run
pub record IsRunBefore (xs : List ℕ) (i newest first : ℕ) : Type 0 where
  pub some : 0 < length xs
  pub there : Contains xs newest
  pub below : (j : ℕ) → j < i → get_or xs j 0 ≤ newest
  pub above : (j : ℕ) → i ≤ j → j < length xs → newest ≤ get_or xs j 0
  pub within : first ≤ newest
  pub run : (v : ℕ) → first ≤ v → v ≤ newest → Contains xs v
  pub gap : (j : ℕ) → j < length xs → get_or xs j 0 + 1 ≢ first

-- an element stands somewhere
placed : (xs : List ℕ) (v : ℕ) → Contains xs v → (j : ℕ) × (j < length xs) × (get_or xs j 0 ≡ v)
placed xs v there = (there.0, there.1, get_or_default xs there.0 0 v there.1 ∙ there.2)

module _ (xs : List ℕ) (up : IsNonDecreasing xs) where
  pub run_begins : 0 < length xs → IsRunBefore xs 0 (get_or xs 0 0) (get_or xs 0 0)
  run_begins some = record {
    some = some;
    there = Contains-get_or xs 0 0 some;
    below = λ j before. absurd (omega (arith, before));
    above = λ j from within. up 0 j 0 (omega arith) within;
    within = omega arith;
    run = λ v low high. let is : get_or xs 0 0 ≡ v = omega (arith, low, high) in subst (Contains xs) is (Contains-get_or xs 0 0 some);
    gap = λ j within e. let from = up 0 j 0 (omega arith) within in omega (arith, from, e);
  }

  module _ (i newest first : ℕ) (was : IsRunBefore xs i newest first) (here : i < length xs) where
    abbrev version : ℕ
    version = get_or xs i 0

    rises : newest ≤ version
    rises = was.above i (omega arith) here

    pub run_on : version ≤ newest + 1 → IsRunBefore xs (i + 1) version first
    run_on next =
        let low = was.within in
        record {
          some = was.some;
          there = Contains-get_or xs i 0 here;
          below = λ j before. up j i 0 (omega (arith, before)) here;
          above = λ j from within. up i j 0 (omega (arith, from)) within;
          within = let le = rises in omega (arith, le, low);
          run = λ v from to. by v (nat_lt newest v) refl from to;
          gap = was.gap;
        }
      where
        by : (v : ℕ) (b : Bool) → nat_lt newest v ≡ b → first ≤ v → v ≤ version → Contains xs v
        by v true is from to = let past : newest < v = grind (arith, nat_tests) in let e : version ≡ v = omega (arith, past, to, next) in subst (Contains xs) e (Contains-get_or xs i 0 here)
        by v false is from to = let up_to : v ≤ newest = grind (arith, nat_tests) in was.run v from up_to

    pub run_anew : newest + 1 < version → IsRunBefore xs (i + 1) version version
    run_anew past = record {
      some = was.some;
      there = Contains-get_or xs i 0 here;
      below = λ j before. up j i 0 (omega (arith, before)) here;
      above = λ j from within. up i j 0 (omega (arith, from)) within;
      within = omega arith;
      run = λ v low high. let is : version ≡ v = omega (arith, low, high) in subst (Contains xs) is (Contains-get_or xs i 0 here);
      gap = λ j within e. by j within e (nat_lt j i) refl;
    }
      where
        by : (j : ℕ) → j < length xs → get_or xs j 0 + 1 ≡ version → (b : Bool) → nat_lt j i ≡ b → ⊥
        by j within e true is = let before : j < i = grind (arith, nat_tests) in let low = was.below j before in omega (arith, past, low, e)
        by j within e false is = let from : i ≤ j = grind (arith, nat_tests) in let high = up i j 0 from within in omega (arith, high, e)

pub run_ends : (xs : List ℕ) (i newest first : ℕ) → length xs ≤ i → IsRunBefore xs i newest first → AreVersions (Contains xs) (record { newest = newest; first = first })
run_ends xs i newest first all was = record {
  there = was.there;
  last = λ v there. let at = placed xs v there in let within = at.1 in subst (λ w. w ≤ newest) at.2 (was.below at.0 (omega (arith, within, all)));
  within = was.within;
  run = was.run;
  gap = λ v e there. let at = placed xs v there in was.gap at.0 at.1 (ap (λ w. w + 1) at.2 ∙ e);
}

pub rising : (xs : List ℕ) → IsSorted nat_cmp xs → IsNonDecreasing xs
rising xs sorted = IsNonDecreasingBy-from_sort (λ (x : ℕ). x) xs sorted

pub none_contained : (xs : List ℕ) → length xs ≡ 0 → (v : ℕ) → Contains xs v → ⊥
none_contained xs none v there = let within = there.1 in omega (arith, none, within)

-- the same of versions that are held alike
pub held_alike : (P Q : ℕ → Type 0) → ((v : ℕ) → P v → Q v) → ((v : ℕ) → Q v → P v) → (o : Option Versions) → MatchOption o ((w : ℕ) → P w → ⊥) (AreVersions P) → MatchOption o ((w : ℕ) → Q w → ⊥) (AreVersions Q)
held_alike P Q to from None none = λ w held. none w (from w held)
held_alike P Q to from (Some versions) are = record {
  there = to versions.newest are.there;
  last = λ v held. are.last v (from v held);
  within = are.within;
  run = λ v low high. to v (are.run v low high);
  gap = λ v e held. are.gap v e (from v held);
}
