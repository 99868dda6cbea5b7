-- The numbers of a decimal type's text are read as they are written.
use Rattle.std.proofs.Common.{◌≡◌, ℕ, ◌+◌, ◌-◌, ◌*◌, ◌/◌, ◌%◌, ◌<◌, ◌≤◌, List, [], ◌∷◌, ◌++◌, Bool, true, false, ap, ◌∙◌, arith}
use Rattle.std.specs.Prelude.{Some, nat_lt, decimal, ◌==◌}
use Rattle.std.proofs.lemmas.Bool.{ltb-false, ltb-true, lt-ltb, ne_eqb}
use Rattle.std.proofs.lemmas.Fmt.{decimal_digit, decimal_step}
use Rattle.schema_map.specs.Decimal.{is_digit, number_at}

digit : (n : ℕ) → n < 10 → is_digit (48 + n) ≡ true
digit n small = rw (lt-ltb 47 (48 + n) (omega arith), lt-ltb (48 + n) 58 (omega (arith, small)))

no_space : (n : ℕ) → ((48 + n) == 32) ≡ false
no_space n = ne_eqb (48 + n) 32 (λ same. omega (arith, same))

ten_times : (n : ℕ) → 10 * ((48 + n / 10) - 48) + ((48 + n % 10) - 48) ≡ n
ten_times n = omega arith

two_digits : (n : ℕ) → 10 ≤ n → n < 100 → decimal n ≡ (48 + n / 10) ∷ (48 + n % 10) ∷ []
two_digits n large small = decimal_step n large (omega (arith, small)) ∙ ap (λ ds. ds ++ (48 + n % 10) ∷ []) (decimal_digit (n / 10) (omega (arith, small)))

-- a number of one or two digits, with a byte behind it that is neither a digit nor a space
pub number_by : (c : Bool) (n b : ℕ) (rest : List ℕ) → nat_lt n 10 ≡ c → n < 100 → is_digit b ≡ false → (b == 32) ≡ false → number_at (decimal n ++ b ∷ rest) ≡ Some (n, b ∷ rest)
unfolding number_at
number_by true n b rest is small other space =
    let one = ltb-true n 10 is in
    rw (decimal_digit n one, no_space n, digit n one, other, space) (ap (λ m. Some (m, b ∷ rest)) (let h : (48 + n) - 48 ≡ n = omega arith in h))
number_by false n b rest is small other space =
    let large = ltb-false n 10 is in
    rw (two_digits n large small, no_space (n / 10), digit (n / 10) (omega (arith, small)), digit (n % 10) (omega arith), space) (ap (λ m. Some (m, b ∷ rest)) (ten_times n))
