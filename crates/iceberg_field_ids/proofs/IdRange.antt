-- Numbers of 32 bits with a sign are read again as JSON's numbers.
use Rattle.std.proofs.Common.{◌≡◌, ◌^◌, ℕ, ◌≤◌, List, [], ◌∷◌, ◌++◌, true, arith, subst, sym}
use Rattle.std.specs.Prelude.{ℤ, pos, negsuc, neg_ℤ, ◌≤ℤ◌, nat_le, nat_lt}
use Rattle.std.proofs.lemmas.Int.{ints}
use Rattle.std.proofs.lemmas.Bool.{le-leb, lt-ltb}
use Rattle.schema_map.specs.IcebergFits.{IsId, AreIds}
use Rattle.schema_map.proofs.Ids.{both_are}

from_zero : (n : ℕ) → n ≤ 2147483647 → IsId (pos n)
from_zero n small =
    let short : nat_lt n (2 ^ 63) ≡ true = lt-ltb n (2 ^ 63) (omega (arith, small)) in
    let is : nat_le n 2147483647 ≡ true = le-leb n 2147483647 small in
    rw (short, is)

below_zero : (n : ℕ) → n ≤ 2147483647 → IsId (negsuc n)
below_zero n small = let is : nat_le n 2147483647 ≡ true = le-leb n 2147483647 small in rw is

pub id_in_range : (id : ℤ) → neg_ℤ (pos 2147483648) ≤ℤ id → id ≤ℤ pos 2147483647 → IsId id
id_in_range (pos n) least most = from_zero n (omega (arith, ints, most))
id_in_range (negsuc n) least most = below_zero n (omega (arith, ints, least))

pub pushed_are : (xs ys : List ℤ) (id : ℤ) → neg_ℤ (pos 2147483648) ≤ℤ id → id ≤ℤ pos 2147483647 → ys ≡ xs ++ id ∷ [] → AreIds xs → AreIds ys
pushed_are xs ys id least most is are = subst (λ (zs : List ℤ). AreIds zs) (sym is) (both_are xs (id ∷ []) are (id_in_range id least most, tt))
