-- Two lists that rise by a key and have the same members are the same list.
use Rattle.std.proofs.Common.{◌≡◌, ◌↔◌, ◌⊎◌, ⊎_elim, List, [], ◌∷◌, map, Ordering, Less, Greater, Contains, refl, sym, ap, subst, ◌∙◌}
use Rattle.std.specs.Cmp.{IsTotalOrder}
use Rattle.std.specs.List.{AllByRecursion}
use Rattle.std.specs.List.Sorted.{IsStrictlySortedBy}
use Rattle.std.specs.Ordering.{ordering_reverse}
use Rattle.std.proofs.lemmas.Cmp.{tied_itself}
use Rattle.std.proofs.lemmas.Map.Keys.{sorted_head, sorted_tail}
use Rattle.table_history.proofs.RowListLemmas.{Contains-none, Contains-head, Contains-tail, Contains-cases}

module _ {X K : Type 0} (f : X → K) {R : K → K → Ordering} (o : IsTotalOrder R) where
  abbrev Rises : List X → Type 0
  Rises xs = IsStrictlySortedBy R (map f xs)

  abbrev Over : K → List X → Type 0
  Over k xs = AllByRecursion (λ y. R k y ≡ Less) (map f xs)

  over_member : (k : K) (xs : List X) (x : X) → Over k xs → Contains xs x → R k (f x) ≡ Less
  over_member k [] x over there = absurd (Contains-none x there)
  over_member k (y ∷ xs) x over there = ⊎_elim (λ here. subst (λ z. R k (f z) ≡ Less) here over.0) (over_member k xs x over.1) (Contains-cases y xs x there)

  not_both : (j k : K) → R j k ≡ Less → R k j ≡ Less → ⊥
  not_both j k one other = let turned = o.antisymm j k in let greater : R j k ≡ Greater = turned ∙ ap ordering_reverse other in absurd (cc)

  not_self : (k : K) → R k k ≡ Less → ⊥
  not_self k less = let same = tied_itself o k in absurd (cc)

  -- the first of a list is over no other of its members
  first_over : (x : X) (xs : List X) → Rises (x ∷ xs) → Over (f x) xs
  first_over x xs rises = sorted_head R (f x) (map f xs) rises

  rest_rises : (x : X) (xs : List X) → Rises (x ∷ xs) → Rises xs
  rest_rises x xs rises = sorted_tail R (f x) (map f xs) rises

  same_first : (x y : X) (xs ys : List X) → Rises (x ∷ xs) → Rises (y ∷ ys) → Contains (y ∷ ys) x → Contains (x ∷ xs) y → x ≡ y
  same_first x y xs ys one other there back = ⊎_elim sym
      (λ later. ⊎_elim (λ here. here)
      (λ after. absurd (not_both (f x) (f y) (over_member (f x) xs y (first_over x xs one) after) (over_member (f y) ys x (first_over y ys other) later)))
      (Contains-cases x xs y back))
      (Contains-cases y ys x there)

  rest_has : (x : X) (xs ys : List X) → Rises (x ∷ xs) → (z : X) → Contains xs z → Contains (x ∷ ys) z → Contains ys z
  rest_has x xs ys rises z there both = ⊎_elim
      (λ here. absurd (not_self (f x) (over_member (f x) xs x (first_over x xs rises) (subst (Contains xs) (sym here) there))))
      (λ later. later)
      (Contains-cases x ys z both)

  pub same_rising : (xs ys : List X) → IsStrictlySortedBy R (map f xs) → IsStrictlySortedBy R (map f ys) → ((x : X) → Contains xs x ↔ Contains ys x) → xs ≡ ys
  same_rising [] [] one other same = refl
  same_rising [] (y ∷ ys) one other same = absurd (Contains-none y ((same y).1 (Contains-head y ys)))
  same_rising (x ∷ xs) [] one other same = absurd (Contains-none x ((same x).0 (Contains-head x xs)))
  same_rising (x ∷ xs) (y ∷ ys) one other same =
      let first : x ≡ y = same_first x y xs ys one other ((same x).0 (Contains-head x xs)) ((same y).1 (Contains-head y ys)) in
      let mine : Rises (x ∷ ys) = subst (λ z. Rises (z ∷ ys)) (sym first) other in
      let rest : xs ≡ ys = same_rising xs ys (rest_rises x xs one) (rest_rises y ys other) (λ z. (
        (λ there. rest_has x xs ys one z there (subst (λ w. Contains (w ∷ ys) z) (sym first) ((same z).0 (Contains-tail x xs z there)))),
        (λ there. rest_has x ys xs mine z there ((same z).1 (Contains-tail y ys z there))),
      )) in
      ap (λ l. x ∷ l) rest ∙ ap (λ z. z ∷ ys) first
