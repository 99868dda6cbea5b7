-- Ids that no two paths share.
use Rattle.std.specs.Prelude.{◌≡◌, ◌≤ℤ◌, ℤ, List, [], ◌∷◌, map, Some}
use Rattle.std.specs.List.{AllByRecursion}
use Rattle.schema_map.specs.Paths.{Path, known_id}
use Rattle.schema_map.specs.Among.{IsAmong}

abbrev pub AreDistinct : {X : Type 0} → List X → Type 0
AreDistinct [] = Unit {0}
AreDistinct (x ∷ xs) = (IsAmong x xs → ⊥) × AreDistinct xs

-- No two paths are known by one id, and no id is over the last.
pub record AreKnown (known : List (Path × ℤ)) (last : ℤ) : Type 0 where
  pub ids : AreDistinct (map (λ k. k.1) known)
  pub within : AllByRecursion (λ k. k.1 ≤ℤ last) known

-- Each known path has its id among these, one for each path.
abbrev pub KeepsKnown : List (Path × ℤ) → List Path → List ℤ → Type 0
KeepsKnown known [] [] = Unit {0}
KeepsKnown known [] (id ∷ ids) = ⊥
KeepsKnown known (path ∷ paths) [] = ⊥
KeepsKnown known (path ∷ paths) (id ∷ ids) = ((known_as : ℤ) → known_id known path ≡ Some known_as → id ≡ known_as) × KeepsKnown known paths ids
