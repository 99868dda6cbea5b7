-- Versions as decimals.
use Rattle.std.proofs.Common.{◌≡◌, ◌≢◌, ℕ, zero, suc, ◌^◌, ◌<◌, List, ◌++◌, length, get_or, MatchOption, Result, Ok, Err, true, sym, ap, subst, ◌∙◌, arith}
use Rattle.std.specs.Prelude.{◌==◌}
use Rattle.std.specs.Result.{result_ok}
use Rattle.std.specs.Fmt.{decimal}
use Rattle.std.specs.Str.Parse.{IsNumeral, digits_value, without_leading_plus, ParsesUnsigned}
use Rattle.std.proofs.lemmas.Bool.Decides.{Decides-eqb}
use Rattle.std.proofs.lemmas.List.{append_cancel_right}
use Rattle.std.proofs.lemmas.Fmt.{decimal_injective, decimal_is_IsNumeral, decimal_digit, first_decimal, decimal_nonempty, decimal-digits_value}
use Rattle.std.proofs.lemmas.Str.Parse.{digit_at, numerals_by_value, tells_digits, without_leading_plus_none}

pub decimal_some : (ds : List ℕ) → (length ds == 0) ≡ true → (v : ℕ) → v < 2 ^ 32 → ds ≡ decimal v → ⊥
decimal_some ds none v small is = let some = decimal_nonempty v (omega (arith, small)) in let zero_long = (Decides-eqb (length ds) 0).0 none in let same = ap length is in omega (arith, some, zero_long, same)

pub decimal_no_plus : (ds : List ℕ) → get_or ds 0 0 ≡ 43 → (v : ℕ) → v < 2 ^ 32 → ds ≡ decimal v → ⊥
decimal_no_plus ds plus v small is =
    let numeral = (decimal_is_IsNumeral v (omega (arith, small))).0 in
    let at = digit_at (decimal v) 0 numeral.1 numeral.0 in
    let here : get_or (decimal v) 0 0 ≡ 43 = ap (λ l. get_or l 0 0) (sym is) ∙ plus in
    omega (arith, at, here)

pub decimal_no_zero : (ds : List ℕ) → get_or ds 0 0 ≡ 48 → length ds ≢ 1 → (v : ℕ) → v < 2 ^ 32 → ds ≡ decimal v → ⊥
decimal_no_zero ds first long zero small is = long (ap length (is ∙ decimal_digit 0 (omega arith)))
decimal_no_zero ds first long (suc n) small is =
    let some = first_decimal (suc n) (omega arith) (omega (arith, small)) in
    let here : get_or (decimal (suc n)) 0 0 ≡ 48 = ap (λ l. get_or l 0 0) (sym is) ∙ first in
    omega (arith, some, here)

parsed_plain : {E : Type 0} (ds : List ℕ) (r : Result ℕ E) → (get_or ds 0 0 ≡ 48 → length ds ≡ 1) → ParsesUnsigned 32 10 ds r → without_leading_plus ds ≡ ds
    → MatchOption (result_ok r) ((v : ℕ) → v < 2 ^ 32 → ds ≡ decimal v → ⊥) (λ v. (v < 2 ^ 32) × (ds ≡ decimal v))
parsed_plain ds (Ok n) alone h same =
    let numeral : IsNumeral 10 ds = subst (IsNumeral 10) same h.0.0 in
    let value : n ≡ digits_value 10 ds = h.1 ∙ ap (digits_value 10) same in
    let small : digits_value 10 ds < 2 ^ 64 = let k : digits_value 10 ds < 2 ^ 32 = subst (λ l. digits_value 10 l < 2 ^ 32) same h.0.1 in omega (arith, k) in
    (subst (λ k. k < 2 ^ 32) (sym h.1) h.0.1, sym (ap decimal value ∙ decimal-digits_value (numerals_by_value _ tells_digits) ds numeral.1 numeral.0 alone small))
parsed_plain ds (Err e) alone h same = λ v small is.
    let k = decimal_is_IsNumeral v (omega (arith, small)) in
    let whole : without_leading_plus ds ≡ decimal v = same ∙ is in
    h (subst (λ l. IsNumeral 10 l × (digits_value 10 l < 2 ^ 32)) (sym whole) (k.0, subst (λ n. n < 2 ^ 32) (sym k.1) small))

pub parsed : {E : Type 0} (ds text : List ℕ) (r : Result ℕ E) → text ≡ ds → get_or ds 0 0 ≢ 43 → (get_or ds 0 0 ≡ 48 → length ds ≡ 1) → ParsesUnsigned 32 10 text r
    → MatchOption (result_ok r) ((v : ℕ) → v < 2 ^ 32 → ds ≡ decimal v → ⊥) (λ v. (v < 2 ^ 32) × (ds ≡ decimal v))
parsed ds text r is first alone h = parsed_plain ds r alone (subst (λ l. ParsesUnsigned 32 10 l r) is h) (without_leading_plus_none ds first)

pub split_decimal : (rest ds suffix : List ℕ) (n v : ℕ) → rest ≡ ds ++ suffix → ds ≡ decimal n → n < 2 ^ 32 → v < 2 ^ 32 → rest ≡ decimal v ++ suffix → n ≡ v
split_decimal rest ds suffix n v split is small_n small_v other =
    decimal_injective n v (omega (arith, small_n)) (omega (arith, small_v)) (sym is ∙ append_cancel_right ds (decimal v) suffix (sym split ∙ other))
