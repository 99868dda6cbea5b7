-- Lists: their maps, their last items, and texts that are distinct.
use Rattle.std.proofs.Common.{◌≡◌, ⊎_elim, ℕ, List, [], ◌∷◌, ◌++◌, map, Contains, refl, sym, ap, subst}
use Rattle.std.specs.List.{IsDistinct}
use Rattle.std.specs.Str.{bytes_eq}
use Rattle.std.proofs.lemmas.List.Elements.{Contains-append_right}
use Rattle.table_history.proofs.RowListLemmas.{Contains-cases, Contains-head, Contains-none, Contains-tail}
use Rattle.lake_basics.proofs.Texts.{behind_distinct}
use Rattle.source_core.proofs.Lists.{end_of, first_apart}

pub in_map : {X Y : Type 0} (f : X → Y) (xs : List X) (y : Y) → Contains (map f xs) y → (x : X) × Contains xs x × (f x ≡ y)
in_map f [] y there = absurd (Contains-none y there)
in_map f (x ∷ xs) y there =
    ⊎_elim
    (λ e. (x, Contains-head x xs, e))
    (λ later. let h = in_map f xs y later in (h.0, Contains-tail x xs h.0 h.1, h.2))
    (Contains-cases (f x) (map f xs) y there)

pub map_in : {X Y : Type 0} (f : X → Y) (xs : List X) (x : X) → Contains xs x → Contains (map f xs) (f x)
map_in f [] x there = absurd (Contains-none x there)
map_in f (z ∷ zs) x there =
    ⊎_elim
    (λ e. subst (λ w. Contains (map f (z ∷ zs)) (f w)) e (Contains-head (f z) (map f zs)))
    (λ later. Contains-tail (f z) (map f zs) (f x) (map_in f zs x later))
    (Contains-cases z zs x there)

pub last_distinct : (xs ys : List (List ℕ)) → IsDistinct bytes_eq (xs ++ ys) → IsDistinct bytes_eq ys
last_distinct [] ys distinct = distinct
last_distinct (x ∷ xs) ys distinct = last_distinct xs ys (behind_distinct x (xs ++ ys) distinct)

-- a text of distinct ones that is among the last of them has the same ones behind it there
pub split_last : (xs : List (List ℕ)) (p : List ℕ) (ys zs ts : List (List ℕ)) → IsDistinct bytes_eq (xs ++ p ∷ ys) → xs ++ p ∷ ys ≡ zs ++ ts → Contains ts p → (ws : List (List ℕ)) × (ts ≡ ws ++ p ∷ ys)
split_last xs p ys [] ts distinct e there = (xs, sym e)
split_last [] p ys (z ∷ zs) ts distinct e there =
    let tails : ys ≡ zs ++ ts = cc in
    absurd (first_apart p p ys distinct (subst (λ (l : List (List ℕ)). Contains l p) (sym tails) (Contains-append_right zs ts p there)) refl)
split_last (x ∷ xs) p ys (z ∷ zs) ts distinct e there =
    let tails : xs ++ p ∷ ys ≡ zs ++ ts = cc in
    split_last xs p ys zs ts (behind_distinct x (xs ++ p ∷ ys) distinct) tails there

-- ---- the last item

pub end_front : {X : Type 0} (x : X) (xs : List X) → (front : List X) × (x ∷ xs ≡ front ++ end_of x xs ∷ [])
end_front x [] = ([], refl)
end_front x (y ∷ ys) = let h = end_front y ys in (x ∷ h.0, ap (λ l. x ∷ l) h.1)

pub end_map : {X Y : Type 0} (f : X → Y) (x : X) (xs : List X) → f (end_of x xs) ≡ end_of (f x) (map f xs)
end_map f x [] = refl
end_map f x (y ∷ ys) = end_map f y ys
