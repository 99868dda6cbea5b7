-- What stands among others.
use Rattle.std.specs.Prelude.{◌≡◌, ◌⊎◌, ℕ, List, [], ◌∷◌, Option, Some}

abbrev pub IsAmong : {X : Type 0} → X → List X → Type 0
IsAmong x [] = ⊥
IsAmong x (y ∷ ys) = (y ≡ x) ⊎ IsAmong x ys

-- It is none of these words.
abbrev pub IsNoneOf : List (List ℕ) → Option (List ℕ) → Type 0
IsNoneOf [] word = Unit {0}
IsNoneOf (w ∷ words) word = (word ≡ Some w → ⊥) × IsNoneOf words word
