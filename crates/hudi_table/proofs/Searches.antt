-- What a binary search says of texts in byte order.
use Rattle.std.proofs.Common.{◌≡◌, ℕ, ◌<◌, ◌≤◌, List, [], ◌∷◌, length, get_or, Contains, Bool, true, false, Result, Ok, Err, refl, sym, ap, subst, ◌∙◌, arith}
use Rattle.std.specs.Prelude.{is_ok, nat_lt, zero, suc}
use Rattle.std.proofs.lemmas.Bool.Decides.{nat_tests}
use Rattle.std.specs.List.Sorted.{IsBinarySearchResult, IsNonDecreasingBy, IsPartitionPoint, IsSearchInRange, IsStrictlySortedBy}
use Rattle.std.specs.Ordering.{is_eq, nat_cmp, ordering_index, ordering_reverse}
use Rattle.std.specs.Cmp.Lexicographic.{slice_cmp, texts_ties}
use Rattle.std.specs.Str.{bytes_eq}
use Rattle.std.specs.declared.cmp.Ordering.{Ordering}
use Rattle.std.specs.declared.cmp.Ordering.TheVariants.{Less, Equal, Greater}
use Rattle.std.proofs.lemmas.Cmp.{nat_list_cmp_total, tied_itself}
use Rattle.std.proofs.lemmas.List.{get_or_default}
use Rattle.std.proofs.lemmas.List.Elements.{All-from_recursion, Contains-get_or}
use Rattle.std.proofs.lemmas.List.Sorted.{IsNonDecreasingBy-from_default}
use Rattle.std.proofs.lemmas.Slice.Eq.{bytes_eq-Decides}
use Rattle.hudi_groups.proofs.AnyLemmas.{any_from, any_none}
use Rattle.hudi_table.specs.Instants.{has_name}

abbrev cmp : List ℕ → List ℕ → Ordering
cmp = slice_cmp nat_cmp

below_greater : (o p : Ordering) → p ≡ Greater → ordering_index o ≤ ordering_index p
below_greater Less p e = subst (λ q. ordering_index Less ≤ ordering_index q) (sym e) (omega arith)
below_greater Equal p e = subst (λ q. ordering_index Equal ≤ ordering_index q) (sym e) (omega arith)
below_greater Greater p e = subst (λ q. ordering_index Greater ≤ ordering_index q) (sym e) (omega arith)

-- what comes before compares no higher
ranks : (x y z : List ℕ) → cmp y z ≡ Less → ordering_index (cmp y x) ≤ ordering_index (cmp z x)
ranks x y z less = by (cmp z x) refl
  where
    by : (o : Ordering) → cmp z x ≡ o → ordering_index (cmp y x) ≤ ordering_index (cmp z x)
    by Less e = let first : cmp y x ≡ Less = nat_list_cmp_total.trans y z x less e in subst (λ o. ordering_index o ≤ ordering_index (cmp z x)) (sym first) (omega arith)
    by Equal e =
        let back : cmp x y ≡ ordering_reverse (cmp y x) = nat_list_cmp_total.antisymm x y in
        let same : cmp z y ≡ cmp x y = nat_list_cmp_total.congr z x y e in
        let turned : cmp y z ≡ ordering_reverse (cmp z y) = nat_list_cmp_total.antisymm y z in
        let first : cmp y x ≡ Less = nat_list_cmp_total.antisymm y x ∙ ap ordering_reverse (sym same) ∙ sym turned ∙ less in
        subst (λ o. ordering_index o ≤ ordering_index (cmp z x)) (sym first) (omega arith)
    by Greater e = below_greater (cmp y x) (cmp z x) e

less_equal : Less ≡ Equal → ⊥
less_equal e = cc

greater_equal : Greater ≡ Equal → ⊥
greater_equal e = cc

is_equal : (o : Ordering) → o ≡ Equal → is_eq o ≡ true
is_equal o e = ap is_eq e

-- texts that compare equal are one text
equal_texts : (y x : List ℕ) → cmp y x ≡ Equal → y ≡ x
equal_texts y x e = (bytes_eq-Decides y x).0 (texts_ties y x ∙ is_equal (cmp y x) e)

-- each text is below all later ones
pairs : (xs : List (List ℕ)) → IsStrictlySortedBy cmp xs → (i j : ℕ) → i < j → j < length xs → cmp (get_or xs i []) (get_or xs j []) ≡ Less
unfolding IsStrictlySortedBy
pairs [] sorted i j before within = absurd (omega (arith, within))
pairs (x ∷ xs) sorted zero zero before within = absurd (omega (arith, before))
pairs (x ∷ xs) sorted zero (suc j) before within = All-from_recursion (λ y. cmp x y ≡ Less) xs sorted.0 j [] (omega (arith, within))
pairs (x ∷ xs) sorted (suc i) zero before within = absurd (omega (arith, before))
pairs (x ∷ xs) sorted (suc i) (suc j) before within = pairs xs sorted.1 i j (omega (arith, before)) (omega (arith, within))

module _ (xs : List (List ℕ)) (sorted : IsStrictlySortedBy cmp xs) (x : List ℕ) where
  rises : (i j : ℕ) → i ≤ j → j < length xs → ordering_index (cmp (get_or xs i []) x) ≤ ordering_index (cmp (get_or xs j []) x)
  rises i j le within = by (nat_lt i j) refl
    where
      by : (b : Bool) → nat_lt i j ≡ b → ordering_index (cmp (get_or xs i []) x) ≤ ordering_index (cmp (get_or xs j []) x)
      by true is = let before : i < j = grind (arith, nat_tests) in ranks x (get_or xs i []) (get_or xs j []) (pairs xs sorted i j before within)
      by false is =
          let from : j ≤ i = grind (arith, nat_tests) in
          let same : i ≡ j = omega (arith, from, le) in
          subst (λ k. ordering_index (cmp (get_or xs i []) x) ≤ ordering_index (cmp (get_or xs k []) x)) same (omega arith)

  rising : IsNonDecreasingBy (λ y. ordering_index (cmp y x)) xs
  rising = IsNonDecreasingBy-from_default (λ y. ordering_index (cmp y x)) xs [] rises

  -- what is found is there, and what isn't found isn't
  pub searched : (r : Result ℕ ℕ) → IsSearchInRange r (length xs) → IsBinarySearchResult (λ y. cmp y x) xs r → is_ok r ≡ has_name xs x
  searched (Ok i) within here =
      let at : Contains xs (get_or xs i []) = Contains-get_or xs i [] within in
      let same : get_or xs i [] ≡ x = equal_texts (get_or xs i []) x (here []) in
      sym (any_from (bytes_eq x) xs (get_or xs i []) at ((bytes_eq-Decides x (get_or xs i [])).1 (sym same)))
  searched (Err i) within parted =
      let cut = parted rising in
      sym (any_none (bytes_eq x) xs (λ y there is. absent y there ((bytes_eq-Decides x y).0 is) cut))
    where
      absent : (y : List ℕ) → Contains xs y → x ≡ y → IsPartitionPoint (λ z. cmp z x ≡ Less) (λ z. cmp z x ≡ Greater) xs i → ⊥
      absent y there same cut = by (nat_lt there.0 i) refl
        where
          at : cmp (get_or xs there.0 []) x ≡ Equal
          at = ap (λ z. cmp z x) (get_or_default xs there.0 [] y there.1 ∙ there.2 ∙ sym same) ∙ tied_itself nat_list_cmp_total x

          by : (b : Bool) → nat_lt there.0 i ≡ b → ⊥
          by true is = let before : there.0 < i = grind (arith, nat_tests) in less_equal (sym (cut.0 there.0 [] (omega arith) before) ∙ at)
          by false is = let from : i ≤ there.0 = grind (arith, nat_tests) in greater_equal (sym (cut.1 there.0 [] from there.1) ∙ at)
