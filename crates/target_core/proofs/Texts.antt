-- Which of two texts comes first, and whether two lists of texts are one.
use Rattle.std.proofs.Common.{◌≡◌, ◌≢◌, ◌⊎◌, inl, inr, ⊎_elim, ℕ, List, [], ◌∷◌, refl, sym, ap, ◌∙◌}
use Rattle.std.specs.Cmp.Lexicographic.{slice_cmp}
use Rattle.std.specs.Ordering.{is_eq, nat_cmp, ordering_reverse}
use Rattle.std.specs.declared.cmp.Ordering.{Ordering}
use Rattle.std.specs.declared.cmp.Ordering.TheVariants.{Equal, Greater, Less}
use Rattle.std.proofs.lemmas.Cmp.{nat_list_cmp_total}
use Rattle.lake_basics.proofs.Texts.{greater_turned}
use Rattle.lake_store.proofs.DiskLaws.{path_cases, same_path}

pub turned : (a b : List ℕ) → slice_cmp nat_cmp a b ≡ Less → slice_cmp nat_cmp b a ≡ Less → ⊥
turned a b less back =
    let greater : slice_cmp nat_cmp b a ≡ Greater = nat_list_cmp_total.antisymm b a ∙ ap ordering_reverse less in
    let both : Less ≡ Greater = sym back ∙ greater in
    cc

-- none of the two comes before the other
pub less_or_more : (a b : List ℕ) (o p : Ordering) → slice_cmp nat_cmp a b ≡ o → slice_cmp nat_cmp b a ≡ p → (o ≡ Less → ⊥) → (p ≡ Less → ⊥) → a ≡ b
less_or_more a b Less p is also not_less not_more = absurd (not_less refl)
less_or_more a b Equal p is also not_less not_more = same_path a b (ap is_eq is)
less_or_more a b Greater p is also not_less not_more = absurd (not_more (sym also ∙ greater_turned a b is))

pub texts_cases : (a b : List (List ℕ)) → (a ≡ b) ⊎ (a ≢ b)
texts_cases [] [] = inl refl
texts_cases [] (y ∷ b) = inr (λ same. cc)
texts_cases (x ∷ a) [] = inr (λ same. cc)
texts_cases (x ∷ a) (y ∷ b) =
    ⊎_elim
    (λ (first : x ≡ y). ⊎_elim (λ (rest : a ≡ b). inl (λ i. first i ∷ rest i)) (λ (apart : a ≢ b). inr (λ same. apart (cc))) (texts_cases a b))
    (λ (apart : x ≢ y). inr (λ same. apart (cc)))
    (path_cases x y)
