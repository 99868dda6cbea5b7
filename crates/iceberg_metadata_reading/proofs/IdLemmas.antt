-- The ids of what a loop has met so far, and one more.
use Rattle.std.proofs.Common.{◌≡◌, ℕ, ◌+◌, ◌<◌, List, [], ◌∷◌, ◌++◌, length, get_or, take, map, ap, sym, ◌∙◌}
use Rattle.std.proofs.lemmas.List.{map-append, take_more}

pub one_more : {A B : Type 0} (f : A → B) (ids new : List B) (items : List A) (i : ℕ) (id : B) (item : A) → i < length items → item ≡ get_or items i item → new ≡ ids ++ id ∷ [] → id ≡ f item → ids ≡ map f (take i items) → new ≡ map f (take (i + 1) items)
one_more {A} {B} f ids new items i id item within at put same so_far =
    put ∙ (λ j. so_far j ++ same j ∷ []) ∙ sym (map-append f (take i items) (item ∷ [])) ∙ ap (λ (x : A). map f (take i items ++ x ∷ [])) at ∙ ap (map f) (sym (take_more items i item within))
