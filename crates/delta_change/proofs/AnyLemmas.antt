-- Tests of the members of a list.
use Rattle.std.proofs.Common.{◌≡◌, Bool, true, false, ◌||◌, List, [], ◌∷◌, Contains, ap, subst, ◌∙◌, ⊎_elim}
use Rattle.std.specs.List.{list_any}
use Rattle.std.proofs.lemmas.Bool.{cases_Bool, false≢true}
use Rattle.table_history.proofs.RowListLemmas.{Contains-none, Contains-head, Contains-tail, Contains-cases}
use Rattle.lake_basics.proofs.Truth.{or_true}

module _ {X : Type 0} (p : X → Bool) where
  pub any_from : (xs : List X) (x : X) → Contains xs x → p x ≡ true → list_any p xs ≡ true
  any_from [] x there passes = absurd (Contains-none x there)
  any_from (y ∷ ys) x there passes =
      ⊎_elim
      (λ e. ap (λ b. b || list_any p ys) (ap p e ∙ passes))
      (λ later. ap (λ b. p y || b) (any_from ys x later passes) ∙ or_true (p y))
      (Contains-cases y ys x there)

  pub any_to : (xs : List X) → list_any p xs ≡ true → (x : X) × Contains xs x × (p x ≡ true)
  any_to [] h = absurd (false≢true h)
  any_to (y ∷ ys) h =
      ⊎_elim
      (λ t. (y, Contains-head y ys, t))
      (λ n. let rest = any_to ys (subst (λ b. (b || list_any p ys) ≡ true) n h) in (rest.0, Contains-tail y ys rest.0 rest.1, rest.2))
      (cases_Bool (p y))
