-- Digits, one after another.
use Rattle.std.proofs.Common.{min, ◌≡◌, ℕ, zero, suc, ◌^◌, ◌<◌, ◌≤◌, List, length, take, sym, ◌∙◌, subst, arith, lit≤, length-take}
use Rattle.std.specs.Str.Parse.{AllDigits, digits_value}
use Rattle.std.proofs.lemmas.Int.Digits.{digits_value-lt}

pub pow_short : (i : ℕ) → i < 4 → 10 ^ i ≤ 1000
pow_short zero h = lit≤ tt
pow_short (suc zero) h = lit≤ tt
pow_short (suc (suc zero)) h = lit≤ tt
pow_short (suc (suc (suc zero))) h = lit≤ tt
pow_short (suc (suc (suc (suc n)))) h = absurd (omega arith)

-- the number that fewer than four digits write
pub short_value : (ds : List ℕ) (i n : ℕ) → i < length ds → length ds ≤ 4 → AllDigits 10 (take i ds) → n ≡ digits_value 10 (take i ds) → n < 1000
short_value ds i n within short all is =
    let below : digits_value 10 (take i ds) < 10 ^ length (take i ds) = digits_value-lt 10 (take i ds) all in
    let len : length (take i ds) ≡ i = length-take i ds ∙ (let e : min i (length ds) ≡ i = omega arith in e) in
    let bound : 10 ^ length (take i ds) ≤ 1000 = subst (λ k. 10 ^ k ≤ 1000) (sym len) (pow_short i (omega arith)) in omega arith
