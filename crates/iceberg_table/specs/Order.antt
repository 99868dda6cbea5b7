-- Causes in the order of reading: the first of them decides.
use Rattle.std.specs.Prelude.{◌≡◌, ◌⊎◌, List, ◌∷◌, ◌++◌}
use Rattle.iceberg_manifest.specs.Lists.{AreEach}

-- The first part is refused so, or it is found and what follows it is refused so.
abbrev pub Stops : {A E : Type 0} → (A → Type 0) → (E → Type 0) → (A → E → Type 0) → E → Type 0
Stops {A} Found Refused Further e = Refused e ⊎ ((a : A) × Found a × Further a e)

-- Something is found of each item before one, and that one is refused so behind what was found.
pub record StopsAt {A B E : Type 0} (Found : A → B → Type 0) (Refused : List B → A → E → Type 0) (items : List A) (e : E) : Type 0 where
  pub front : List A
  pub item : A
  pub behind : List A
  pub split : items ≡ front ++ item ∷ behind
  pub found : List B
  pub are : AreEach Found front found
  pub refused : Refused found item e
