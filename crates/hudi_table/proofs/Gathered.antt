-- What is gathered item by item.
use Rattle.std.proofs.Common.{◌≡◌, ℕ, ◌+◌, ◌<◌, List, ◌∷◌, ◌++◌, length, get_or, drop, Option, Some, None, refl, sym, ap, ◌∙◌}
use Rattle.std.specs.Prelude.{option_to_list}
use Rattle.std.specs.List.{cons_option, filter_map}
use Rattle.std.proofs.lemmas.List.{append_assoc, drop_more}

onto : {X : Type 0} (o : Option X) (xs : List X) → cons_option o xs ≡ option_to_list o ++ xs
onto None xs = refl
onto (Some x) xs = refl

-- one item more
pub gathers : {X Y : Type 0} (h : X → Option Y) (xs : List X) (found : List Y) (i : ℕ) (x : X) → i < length xs → get_or xs i x ≡ x
    → found ++ filter_map h (drop i xs) ≡ filter_map h xs → (found ++ option_to_list (h x)) ++ filter_map h (drop (i + 1) xs) ≡ filter_map h xs
gathers h xs found i x here is was =
    append_assoc found (option_to_list (h x)) (filter_map h (drop (i + 1) xs))
    ∙ ap (λ l. found ++ l) (sym (onto (h x) (filter_map h (drop (i + 1) xs))))
    ∙ ap (λ l. found ++ l) (sym (ap (filter_map h) (drop_more xs i x here ∙ ap (λ y. y ∷ drop (i + 1) xs) is)))
    ∙ was
