-- What holds of the first items of a list, and what is picked from one.
use Rattle.std.proofs.Common.{◌≡◌, ⊎_elim, ℕ, ◌+◌, ◌<◌, List, [], ◌∷◌, length, get_or, take, filter_map, Contains, Option, Some, None, refl, sym, ap, subst, ◌∙◌, arith}
use Rattle.std.specs.List.{cons_option}
use Rattle.std.proofs.lemmas.List.Elements.{Contains-append_cases}
use Rattle.lake_basics.proofs.Lists.{last_of}
use Rattle.table_history.proofs.RowListLemmas.{Contains-none, Contains-head, Contains-tail, Contains-cases}

-- what holds of the first ones and of the next holds of one more
pub one_more : {X : Type 0} (P : X → Type 0) (xs : List X) (i : ℕ) (x : X) → i < length xs → x ≡ get_or xs i x → ((y : X) → Contains (take i xs) y → P y) → P x → (y : X) → Contains (take (i + 1) xs) y → P y
one_more P xs i x within at before here y there =
    ⊎_elim
    (λ earlier. before y earlier)
    (λ last. ⊎_elim (λ (same : x ≡ y). subst P same here) (λ none. absurd (Contains-none y none)) (Contains-cases x [] y last))
    (Contains-append_cases (take i xs) (x ∷ []) y (subst (λ (l : List _). Contains l y) (last_of xs i x within at) there))

pub some_length : {A : Type 0} (xs : List A) → (xs ≡ [] → ⊥) → 0 < length xs
some_length [] some = absurd (some refl)
some_length (x ∷ xs) some = omega arith

-- ---- what is picked

module _ {X Y : Type 0} (f : X → Option Y) where
  behind_option : (o : Option Y) (ys : List Y) (y : Y) → f ≡ f → Contains ys y → Contains (cons_option o ys) y
  behind_option None ys y same h = h
  behind_option (Some w) ys y same h = Contains-tail w ys y h

  pub picked : (xs : List X) (x : X) (y : Y) → Contains xs x → f x ≡ Some y → Contains (filter_map f xs) y
  picked [] x y there is = absurd (Contains-none x there)
  picked (z ∷ xs) x y there is =
      ⊎_elim
      (λ (same : z ≡ x). subst (λ (o : Option Y). Contains (cons_option o (filter_map f xs)) y) (sym (ap f same ∙ is)) (Contains-head y (filter_map f xs)))
      (λ later. behind_option (f z) (filter_map f xs) y refl (picked xs x y later is))
      (Contains-cases z xs x there)

  pub picked_from : (xs : List X) (y : Y) → Contains (filter_map f xs) y → (x : X) × Contains xs x × (f x ≡ Some y)
  picked_from [] y there = absurd (Contains-none y there)
  picked_from (z ∷ xs) y there =
      elim (f z) as (λ (o : Option Y). f z ≡ o → Contains (cons_option o (filter_map f xs)) y → (x : X) × Contains (z ∷ xs) x × (f x ≡ Some y)) [
        | None ↦ λ is h. let found = picked_from xs y h in (found.0, Contains-tail z xs found.0 found.1, found.2)
        | Some w ↦ λ is h. ⊎_elim
            (λ (same : w ≡ y). (z, Contains-head z xs, is ∙ ap (λ (v : Y). Some v) same))
            (λ later. let found = picked_from xs y later in (found.0, Contains-tail z xs found.0 found.1, found.2))
            (Contains-cases w (filter_map f xs) y h)
      ] refl there
