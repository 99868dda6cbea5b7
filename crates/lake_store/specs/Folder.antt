-- Between which paths the paths in a folder lie.
use Rattle.std.specs.Prelude.{◌≡◌, ℕ, List, [], ◌∷◌, ◌++◌, String, string_bytes}
use Rattle.std.specs.declared.alloc.Global.{Global}
use Rattle.std.specs.declared.ops.Bound.{Bound}
use Rattle.std.specs.declared.ops.Bound.TheVariants.{Excluded, Included, Unbounded}

-- They begin with the folder and a slash, which is byte 47, and so come before the folder and byte 48.
pub record IsBetween (folder : List ℕ) (range : Bound (String Global) × Bound (String Global)) : Type 0 where
  pub from : String Global
  pub end : String Global
  pub is : range ≡ (Included from, Excluded end)
  pub from_is : string_bytes from ≡ folder ++ 47 ∷ []
  pub end_is : string_bytes end ≡ folder ++ 48 ∷ []

-- All paths lie in the empty folder.
abbrev pub IsRangeOf : List ℕ → Bound (String Global) × Bound (String Global) → Type 0
IsRangeOf [] range = range ≡ (Unbounded, Unbounded)
IsRangeOf (c ∷ folder) range = IsBetween (c ∷ folder) range
