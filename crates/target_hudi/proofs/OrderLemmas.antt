-- What is sorted and has distinct keys rises.
use Rattle.std.proofs.Common.{◌≡◌, ℕ, ◌+◌, Bool, true, false, List, [], ◌∷◌, get_or, map, Ordering, Less, Equal, Greater, is_lt, is_eq, nat_cmp, Contains, refl, sym, ap, ◌∙◌, arith}
use Rattle.std.specs.Prelude.{◌↔◌}
use Rattle.std.specs.Cmp.{IsStrictWeakOrder, IsTotalOrder}
use Rattle.std.specs.Cmp.Lexicographic.{slice_cmp, texts_ties}
use Rattle.std.specs.List.{IsDistinct}
use Rattle.std.specs.List.Sorted.{IsPermutation, IsSorted, IsStrictlySortedBy}
use Rattle.std.specs.Ordering.{ordering_reverse, ordering_then}
use Rattle.std.specs.Str.{bytes_eq}
use Rattle.std.proofs.lemmas.Bool.{false≢true}
use Rattle.std.proofs.lemmas.Cmp.{nat_list_cmp_total, nat_list_eq_equiv, on_total, then_total}
use Rattle.std.proofs.lemmas.List.{get_or-map, length-map}
use Rattle.std.proofs.lemmas.List.Sorted.{Contains-permutation, IsPermutation-map, IsPermutation-sym, ranks_by}
use Rattle.std.proofs.lemmas.Map.Keys.{IsDistinct-IsPermutation, apart_from_distinct, sorted_from_all_adjacent}
use Rattle.std.proofs.lemmas.Slice.Eq.{bytes_eq-Decides}
use Rattle.hudi_groups.specs.Group.{joined}
use Rattle.hudi_instant.specs.InstantText.{replaced_cmp, stat_cmp}
use Rattle.hudi_instant.specs.declared.instant.Stat.{Stat}
use Rattle.lake_basics.proofs.Truth.{rising}

pub stat_total : IsTotalOrder stat_cmp
stat_total = then_total (on_total (λ (s : Stat). s.partition_path) nat_list_cmp_total) (on_total (λ (s : Stat). s.path) nat_list_cmp_total)

pub replaced_total : IsTotalOrder replaced_cmp
replaced_total = then_total (on_total (λ (p : List ℕ × List ℕ). p.0) nat_list_cmp_total) (on_total (λ (p : List ℕ × List ℕ). p.1) nat_list_cmp_total)

abbrev pub stat_below : Stat → Stat → Bool
stat_below x y = is_lt (stat_cmp x y)

pub stat_below-order : IsStrictWeakOrder stat_below
stat_below-order = ranks_by stat_total (λ (s : Stat). s)

abbrev pub replaced_below : List ℕ × List ℕ → List ℕ × List ℕ → Bool
replaced_below x y = is_lt (replaced_cmp x y)

pub replaced_below-order : IsStrictWeakOrder replaced_below
replaced_below-order = ranks_by replaced_total (λ (p : List ℕ × List ℕ). p)

then_tied : (o p : Ordering) → is_eq (ordering_then o p) ≡ true → (is_eq o ≡ true) × (is_eq p ≡ true)
then_tied Less p h = absurd (false≢true h)
then_tied Equal p h = (refl, h)
then_tied Greater p h = absurd (false≢true h)

same_text : (x y : List ℕ) → is_eq (slice_cmp nat_cmp x y) ≡ true → bytes_eq x y ≡ true
same_text x y h = texts_ties x y ∙ h

pub stats_tied : (x y : Stat) → is_eq (stat_cmp x y) ≡ true → bytes_eq x.path y.path ≡ true
stats_tied x y h = same_text x.path y.path (then_tied (slice_cmp nat_cmp x.partition_path y.partition_path) (slice_cmp nat_cmp x.path y.path) h).1

joined_same : (x y : List ℕ × List ℕ) → (bytes_eq x.0 y.0 ≡ true) × (bytes_eq x.1 y.1 ≡ true) → bytes_eq (joined x.0 x.1) (joined y.0 y.1) ≡ true
joined_same x y same =
    let first : x.0 ≡ y.0 = (bytes_eq-Decides x.0 y.0).0 same.0 in
    let second : x.1 ≡ y.1 = (bytes_eq-Decides x.1 y.1).0 same.1 in
    (bytes_eq-Decides (joined x.0 x.1) (joined y.0 y.1)).1 (λ i. joined (first i) (second i))

pub ids_tied : (x y : List ℕ × List ℕ) → is_eq (replaced_cmp x y) ≡ true → bytes_eq (joined x.0 x.1) (joined y.0 y.1) ≡ true
ids_tied x y h = let both = then_tied (slice_cmp nat_cmp x.0 y.0) (slice_cmp nat_cmp x.1 y.1) h in joined_same x y (same_text x.0 y.0 both.0, same_text x.1 y.1 both.1)

pub untied : (b c : Bool) → (b ≡ true → c ≡ true) → c ≡ false → b ≡ false
untied true c h apart = absurd (false≢true (sym apart ∙ h refl))
untied false c h apart = refl

module _ {X : Type 0} (R : X → X → Ordering) (total : IsTotalOrder R) (key : X → List ℕ) (tied : (x y : X) → is_eq (R x y) ≡ true → bytes_eq (key x) (key y) ≡ true) where
  rises_from : (new : List X) (d : X) → IsDistinct bytes_eq (map key new) → IsSorted R new → IsStrictlySortedBy R new
  rises_from new d distinct up =
      sorted_from_all_adjacent total new d (λ k within.
      let x = get_or new k d in
      let y = get_or new (k + 1) d in
      let long = length-map new key in
      let keys : bytes_eq (get_or (map key new) k []) (get_or (map key new) (k + 1) []) ≡ false = apart_from_distinct bytes_eq (map key new) k (k + 1) [] distinct (omega arith) (omega (arith, long, within)) in
      let first : get_or (map key new) k [] ≡ key x = get_or-map key new k d [] (omega (arith, within)) in
      let second : get_or (map key new) (k + 1) [] ≡ key y = get_or-map key new (k + 1) d [] within in
      let apart : bytes_eq (key x) (key y) ≡ false = (λ i. bytes_eq (sym first i) (sym second i)) ∙ keys in
      let not_tied : is_eq (R x y) ≡ false = untied (is_eq (R x y)) (bytes_eq (key x) (key y)) (tied x y) apart in
      let not_back : is_lt (ordering_reverse (R x y)) ≡ false = ap is_lt (sym (total.antisymm y x)) ∙ up k d (omega arith) within in
      rising (R x y) not_back not_tied)

  pub rises : (old new : List X) → IsPermutation old new → IsDistinct bytes_eq (map key old) → IsSorted R new → IsStrictlySortedBy R new
  unfolding IsStrictlySortedBy
  rises old [] moved distinct up = tt
  rises old (x ∷ new) moved distinct up = rises_from (x ∷ new) x (IsDistinct-IsPermutation bytes_eq nat_list_eq_equiv.symm _ _ (IsPermutation-map key old (x ∷ new) moved) distinct) up

pub same_members : {X : Type 0} (old new : List X) → IsPermutation old new → (x : X) → Contains new x ↔ Contains old x
same_members old new moved x = (Contains-permutation _ _ x (IsPermutation-sym _ _ moved), Contains-permutation _ _ x moved)
