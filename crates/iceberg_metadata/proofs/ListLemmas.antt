-- Tests of the members of a list.
use Rattle.std.proofs.Common.{◌≡◌, ℤ, Bool, true, false, not, ◌&&◌, ◌||◌, List, [], ◌∷◌, Contains, refl, sym, ap, subst, ◌∙◌, ◌⊎◌, ⊎_elim}
use Rattle.std.specs.List.{list_any, list_all, IsDistinct, AllByRecursion}
use Rattle.std.specs.Ordering.{int_eq}
use Rattle.std.specs.Bool.{Decides}
use Rattle.std.proofs.lemmas.Bool.{and_parts, cases_Bool, false≢true, not-true, or_parts}
use Rattle.std.proofs.lemmas.Bool.Decides.{Decides-int_eq}
use Rattle.std.proofs.lemmas.Map.Keys.{IsDistinct-cons, IsDistinct-head, IsDistinct-tail}
use Rattle.table_history.proofs.RowListLemmas.{Contains-none, Contains-head, Contains-tail, Contains-cases}
use Rattle.iceberg_metadata.specs.Judging.{is_among, are_distinct}
use Rattle.lake_basics.proofs.Truth.{or_true}

module _ {X : Type 0} (p : X → Bool) where
  pub any_from : (xs : List X) (x : X) → Contains xs x → p x ≡ true → list_any p xs ≡ true
  any_from [] x there passes = absurd (Contains-none x there)
  any_from (y ∷ ys) x there passes =
      ⊎_elim
      (λ e. ap (λ b. b || list_any p ys) (ap p e ∙ passes))
      (λ later. ap (λ b. p y || b) (any_from ys x later passes) ∙ or_true (p y))
      (Contains-cases y ys x there)

  pub any_to : (xs : List X) → list_any p xs ≡ true → (x : X) × Contains xs x × (p x ≡ true)
  any_to [] h = absurd (false≢true h)
  any_to (y ∷ ys) h =
      ⊎_elim
      (λ t. (y, Contains-head y ys, t))
      (λ n. let rest = any_to ys (subst (λ b. (b || list_any p ys) ≡ true) n h) in (rest.0, Contains-tail y ys rest.0 rest.1, rest.2))
      (cases_Bool (p y))

  pub all_from : (xs : List X) (x : X) → list_all p xs ≡ true → Contains xs x → p x ≡ true
  all_from [] x all there = absurd (Contains-none x there)
  all_from (y ∷ ys) x all there =
      let both = and_parts (p y) (list_all p ys) all in
      ⊎_elim (λ e. sym (ap p e) ∙ both.0) (λ later. all_from ys x both.1 later) (Contains-cases y ys x there)

  pub all_false : (xs : List X) → list_all p xs ≡ false → (x : X) × Contains xs x × (p x ≡ false)
  all_false [] h = absurd (false≢true (sym h))
  all_false (y ∷ ys) h =
      ⊎_elim
      (λ t. let rest = all_false ys (subst (λ b. (b && list_all p ys) ≡ false) t h) in (rest.0, Contains-tail y ys rest.0 rest.1, rest.2))
      (λ n. (y, Contains-head y ys, n))
      (cases_Bool (p y))

-- ---- ids

pub among_Decides : (ids : List ℤ) (id : ℤ) → Decides (is_among ids id) (Contains ids id)
among_Decides ids id =
    (λ h. let found = any_to (int_eq id) ids h in subst (Contains ids) (sym ((Decides-int_eq id found.0).0 found.2)) found.1, λ there. any_from (int_eq id) ids id there ((Decides-int_eq id id).1 refl))

not_again : (x : ℤ) (xs : List ℤ) → is_among xs x ≡ false → AllByRecursion (λ y. int_eq x y ≡ false) xs
not_again x [] h = tt
not_again x (y ∷ ys) h = let both = or_parts (int_eq x y) (is_among ys x) h in (both.0, not_again x ys both.1)

none_again : (x : ℤ) (xs : List ℤ) → AllByRecursion (λ y. int_eq x y ≡ false) xs → is_among xs x ≡ false
none_again x [] h = refl
none_again x (y ∷ ys) h = (λ i. h.0 i || none_again x ys h.1 i)

distinct_nothing : IsDistinct int_eq []
unfolding IsDistinct
distinct_nothing = tt

distinct_to : (xs : List ℤ) → are_distinct xs ≡ true → IsDistinct int_eq xs
distinct_to [] h = distinct_nothing
distinct_to (x ∷ xs) h = let both = and_parts (not (is_among xs x)) (are_distinct xs) h in IsDistinct-cons int_eq x xs (not_again x xs (not-true (is_among xs x) both.0)) (distinct_to xs both.1)

distinct_from : (xs : List ℤ) → IsDistinct int_eq xs → are_distinct xs ≡ true
distinct_from [] d = refl
distinct_from (x ∷ xs) d = (λ i. not (none_again x xs (IsDistinct-head int_eq x xs d) i) && distinct_from xs (IsDistinct-tail int_eq x xs d) i)

pub distinct_Decides : (xs : List ℤ) → Decides (are_distinct xs) (IsDistinct int_eq xs)
distinct_Decides xs = (distinct_to xs, distinct_from xs)
