-- Two lists whose items belong together, one by one.
use Rattle.std.specs.Prelude.{List, [], ◌∷◌}

abbrev pub AreEach : {A B : Type 0} → (A → B → Type 0) → List A → List B → Type 0
AreEach P [] [] = Unit {0}
AreEach P [] (y ∷ ys) = ⊥
AreEach P (x ∷ xs) [] = ⊥
AreEach P (x ∷ xs) (y ∷ ys) = P x y × AreEach P xs ys
