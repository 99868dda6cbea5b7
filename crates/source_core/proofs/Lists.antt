-- The last item of a list, and where texts that are distinct stand.
use Rattle.std.proofs.Common.{◌≡◌, ℕ, true, false, List, [], ◌∷◌, ◌++◌, Contains, refl, sym, subst, ◌∙◌}
use Rattle.std.specs.List.{IsDistinct}
use Rattle.std.specs.Str.{bytes_eq}
use Rattle.std.proofs.lemmas.Bool.{false≢true}
use Rattle.lake_basics.proofs.Texts.{bytes_itself}
use Rattle.table_history.proofs.RowListLemmas.{Contains-head, Contains-tail, all_at}

-- ---- the last item

abbrev pub end_of : {X : Type 0} → X → List X → X
end_of x [] = x
end_of x (y ∷ ys) = end_of y ys

pub end_in : {X : Type 0} (x : X) (xs : List X) → Contains (x ∷ xs) (end_of x xs)
end_in x [] = Contains-head x []
end_in x (y ∷ ys) = Contains-tail x (y ∷ ys) (end_of y ys) (end_in y ys)

pub end_append : {X : Type 0} (x : X) (xs : List X) (y : X) (ys : List X) → end_of x (xs ++ y ∷ ys) ≡ end_of y ys
end_append x [] y ys = refl
end_append x (z ∷ zs) y ys = end_append z zs y ys

-- ---- texts that are distinct

-- a text that is the first of distinct ones isn't among the others
pub first_apart : (p q : List ℕ) (ys : List (List ℕ)) → IsDistinct bytes_eq (p ∷ ys) → Contains ys q → p ≡ q → ⊥
unfolding IsDistinct
first_apart p q ys distinct there e = false≢true (sym (all_at (λ y. bytes_eq p y ≡ false) ys q distinct.0 there) ∙ subst (λ r. bytes_eq p r ≡ true) e (bytes_itself p))
