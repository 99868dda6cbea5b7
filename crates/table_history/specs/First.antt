-- The first of several causes that holds.
use Rattle.std.specs.Prelude.{◌≡◌, ◌⊎◌, List, [], ◌∷◌}

-- The first of these that the fact is true of is this one.
abbrev pub IsFirst : {A : Type 0} → (A → Type 0) → List A → A → Type 0
IsFirst P [] x = ⊥
IsFirst P (y ∷ ys) x = ((x ≡ y) × P y) ⊎ ((P y → ⊥) × IsFirst P ys x)

-- The fact is true of none of these.
abbrev pub NoneOf : {A : Type 0} → (A → Type 0) → List A → Type 0
NoneOf P [] = Unit {0}
NoneOf P (y ∷ ys) = (P y → ⊥) × NoneOf P ys
