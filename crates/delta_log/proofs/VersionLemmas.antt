-- Versions as digits.
use Rattle.std.proofs.Common.{◌≡◌, ◌≢◌, ℕ, ◌+◌, ◌-◌, ◌^◌, ◌<◌, ◌≤◌, List, [], ◌∷◌, ◌++◌, length, get_or, take, drop, replicate, Option, Some, None, MatchOption, Result, Ok, Err, false, refl, sym, ap, subst, ◌∙◌, length-append, arith, codes}
use Rattle.std.proofs.Math.Seq.{take-length}
use Rattle.std.specs.Result.{result_ok}
use Rattle.std.specs.Fmt.{char_count, decimal, padded_integral, format_spec}
use Rattle.std.specs.Str.Parse.{IsNumeral, AllDigits, digits_value, ParsesUnsigned}
use Rattle.std.proofs.lemmas.Fmt.{decimal_is_IsNumeral, length-decimal-le}
use Rattle.std.proofs.lemmas.List.{append-nil, take-append-drop, take-append-le, drop-append-le}
use Rattle.std.proofs.lemmas.Str.Parse.{without_leading_plus_none}
use Rattle.lake_basics.specs.declared.limits.TheConstants.{MAX_DELTA_VERSION}
use Rattle.lake_basics.proofs.Texts.{AllDigits-zeros, digits_value-zeros, length-zeros}
use Rattle.delta_log.specs.VersionName.{IsVersionDigits, IsVersionName}

pub padded_digits : (n : ℕ) (text : List ℕ) → n < 2 ^ 64 → text ≡ replicate (20 - length (decimal n)) 48 ++ decimal n → IsVersionDigits text n
padded_digits n text small is =
    let short : length (decimal n) ≤ 20 = length-decimal-le 20 n (omega arith) (omega (arith, small)) small in
    let numeral = decimal_is_IsNumeral n small in
    let len : length text ≡ 20 = ap length is ∙ length-zeros (20 - length (decimal n)) (decimal n) ∙ omega arith in
    record {
      len = len;
      numeral = (omega arith, subst (AllDigits 10) (sym is) (AllDigits-zeros (20 - length (decimal n)) (decimal n) numeral.0.1));
      value = sym (ap (digits_value 10) is ∙ digits_value-zeros (20 - length (decimal n)) (decimal n) ∙ numeral.1);
    }

-- what `{:020}` writes
pub padded_text : (n : ℕ) → padded_integral (format_spec 32 0 4 20 (2 ^ 64 - 1)) false [] (decimal n) ≡ replicate (20 - length (decimal n)) 48 ++ decimal n
unfolding padded_integral char_count
padded_text n =
    let none : 20 - length (decimal n) - 0 - 0 ≡ 20 - length (decimal n) = omega arith in rw (append-nil (decimal n), none)

pub parsed : {E : Type 0} (text : List ℕ) (r : Result ℕ E) → length text ≡ 20 → get_or text 0 0 ≢ 43 → ParsesUnsigned 64 10 text r
    → MatchOption (result_ok r) ((n : ℕ) → n < 2 ^ 64 → IsVersionDigits text n → ⊥) (IsVersionDigits text)
parsed text (Ok n) len first h =
    let same = without_leading_plus_none text first in
    record { len = len; numeral = subst (IsNumeral 10) same h.0.0; value = h.1 ∙ ap (digits_value 10) same }
parsed text (Err e) len first h =
    let same = without_leading_plus_none text first in
    λ n small d. h (subst (λ bs. IsNumeral 10 bs × (digits_value 10 bs < 2 ^ 64)) (sym same) (d.numeral, subst (λ k. k < 2 ^ 64) d.value small))

-- ---- names

drop-all : (xs : List ℕ) → drop (length xs) xs ≡ []
drop-all [] = refl
drop-all (x ∷ xs) = drop-all xs

pub record HasParts (name : List ℕ) (version : ℕ) : Type 0 where
  pub len : length name ≡ 25
  pub digits : IsVersionDigits (take 20 name) version
  pub suffix : drop 20 name ≡ codes ".json"

pub parts_of : (name : List ℕ) (version : ℕ) → IsVersionName name version → HasParts name version
parts_of name version h =
    let digits = h.padded.digits in
    let len : length digits ≡ 20 = h.padded.padded.len in
    let front : take 20 name ≡ digits = ap (take 20) h.padded.split ∙ take-append-le 20 digits (codes ".json") (omega (arith, len)) ∙ ap (λ k. take k digits) (sym len) ∙ take-length digits in
    let back : drop 20 name ≡ codes ".json" = ap (drop 20) h.padded.split ∙ drop-append-le 20 digits (codes ".json") (omega (arith, len)) ∙ ap (λ l. l ++ codes ".json") (ap (λ k. drop k digits) (sym len) ∙ drop-all digits) in
    record {
      len = ap length h.padded.split ∙ length-append digits (codes ".json") ∙ (let whole : length digits + 5 ≡ 25 = omega (arith, len) in whole);
      digits = subst (λ l. IsVersionDigits l version) (sym front) h.padded.padded;
      suffix = back;
    }

pub name_of_parts : (name front back : List ℕ) (version : ℕ) → front ≡ take 20 name → back ≡ drop 20 name → back ≡ codes ".json" → IsVersionDigits front version → version ≤ MAX_DELTA_VERSION → IsVersionName name version
name_of_parts name front back version is behind suffix digits within = record {
  padded = record { digits = front; padded = digits; split = sym (take-append-drop 20 name) ∙ ap (λ l. l ++ drop 20 name) (sym is) ∙ ap (λ l. front ++ l) (sym behind ∙ suffix) };
  within = within;
}

pub named_by : (name front back : List ℕ) (o : Option ℕ) → front ≡ take 20 name → back ≡ drop 20 name → back ≡ codes ".json"
    → MatchOption o ((v : ℕ) → v ≤ MAX_DELTA_VERSION → IsVersionDigits front v → ⊥) (λ v. IsVersionDigits front v × (v ≤ MAX_DELTA_VERSION)) → MatchOption o ((v : ℕ) → IsVersionName name v → ⊥) (IsVersionName name)
named_by name front back None is behind suffix none = λ v h. let parts = parts_of name v h in none v h.within (subst (λ l. IsVersionDigits l v) (sym is) parts.digits)
named_by name front back (Some v) is behind suffix some = name_of_parts name front back v is behind suffix some.0 some.1
