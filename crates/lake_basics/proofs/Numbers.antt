-- Tests of natural numbers.
use Rattle.std.proofs.Common.{arith, nat_eq, nat_le, nat_lt, suc, true, ℕ, ◌+◌, ◌-◌, ◌<◌, ◌^◌, ◌≡◌, ◌≤◌, ◌⊎◌}
use Rattle.std.proofs.lemmas.Bool.Decides.{Decides-eqb, nat_tests}
use Rattle.std.proofs.lemmas.Grind.{common_steps}

pub suc_before : (n : ℕ) → 0 < n → suc (n - 1) ≡ n
suc_before n some = omega (arith, some)

pub before_less : (n m : ℕ) → 0 < n → n ≤ m → n - 1 < m
before_less n m some within = omega (arith, some, within)

pub natural_test : (n : ℕ) → n < 2 ^ 63 → nat_lt n (2 ^ 63) ≡ true
natural_test n small = grind (arith, common_steps)

pub less_or_at : (k i : ℕ) → k < i + 1 → (k < i) ⊎ (k ≡ i)
less_or_at k i within = grind (arith, within)

pub le_test : (n m : ℕ) → n ≤ m → nat_le n m ≡ true
le_test n m is = grind (arith, nat_tests)

pub le_by : (n m : ℕ) → nat_le n m ≡ true → n ≤ m
le_by n m is = grind (arith, nat_tests)

pub same_nat : (a b : ℕ) → nat_eq a b ≡ true → a ≡ b
same_nat a b h = (Decides-eqb a b).0 h

pub le_not_less : (n m : ℕ) → n ≤ m → m < n → ⊥
le_not_less n m few many = omega (arith, few, many)
