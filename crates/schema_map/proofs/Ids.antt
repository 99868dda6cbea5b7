-- Field ids of 32 bits, one list behind another.
use Rattle.std.proofs.Common.{List, [], ◌∷◌, ◌++◌}
use Rattle.std.specs.Prelude.{ℤ}
use Rattle.schema_map.specs.IcebergFits.{AreIds}

pub both_are : (xs ys : List ℤ) → AreIds xs → AreIds ys → AreIds (xs ++ ys)
both_are [] ys first second = second
both_are (x ∷ xs) ys first second = (first.0, both_are xs ys first.1 second)
