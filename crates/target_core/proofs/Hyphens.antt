-- Digits and a text with a hyphen between, and where the first hyphen stands.
use Rattle.std.proofs.Common.{◌≡◌, ◌+◌, ◌<◌, ◌≤◌, ℕ, Bool, true, false, ◌==◌, cond, nat_lt, List, ◌∷◌, ◌++◌, codes, length, take, drop, get_or, Some, None, refl, sym, ap, subst, ◌∙◌, arith}
use Rattle.std.specs.List.{after_first, before_first, position, position_or_len}
use Rattle.std.specs.Str.Parse.{IsNumeral}
use Rattle.std.proofs.lemmas.Bool.Decides.{nat_tests}
use Rattle.std.proofs.Math.ListN.{get_or-append}
use Rattle.std.proofs.Math.Seq.{drop-append-add, get_or-append_seam, take-append_seam}
use Rattle.std.proofs.lemmas.List.{length-append}
use Rattle.std.proofs.lemmas.List.Sums.{passes_at_first, position_or_len_is, split_at_first}
use Rattle.std.proofs.lemmas.Str.Parse.{digit_at}

abbrev pub is_hyphen : ℕ → Bool
is_hyphen b = b == 45

-- the place of the first hyphen
abbrev place_of : List ℕ → ℕ
place_of bytes = position_or_len is_hyphen bytes

hyphen_seen : (bytes : List ℕ) (place : ℕ) → Some place ≡ position is_hyphen bytes → (position_or_len is_hyphen bytes < length bytes) × (place ≡ position_or_len is_hyphen bytes)
hyphen_seen bytes place found = by (nat_lt (place_of bytes) (length bytes)) refl found
  where
    by : (b : Bool) → nat_lt (place_of bytes) (length bytes) ≡ b → Some place ≡ cond b (Some (place_of bytes)) None → (place_of bytes < length bytes) × (place ≡ place_of bytes)
    by true is found = (grind (arith, nat_tests), cc)
    by false is found = absurd cc

none_before_end : (bytes : List ℕ) → nat_lt (place_of bytes) (length bytes) ≡ false → length bytes ≤ place_of bytes
none_before_end bytes short = grind (arith, nat_tests)

hyphen_at : (version number : List ℕ) → IsNumeral 10 version → position_or_len is_hyphen (version ++ (codes "-" ++ number)) ≡ length version
hyphen_at version number numeral =
    position_or_len_is is_hyphen (version ++ (codes "-" ++ number)) (length version) 0
    (omega (arith, length-append version (codes "-" ++ number)))
    (λ k within. rw (get_or-append version (codes "-" ++ number) 0 k within) (no_hyphen k within))
    (λ _. rw (get_or-append_seam version 45 number 0))
  where
    no_hyphen : (k : ℕ) → k < length version → is_hyphen (get_or version k 0) ≡ false
    no_hyphen k within = let digit = digit_at version k numeral.1 within in grind (arith, nat_tests)

pub numbers_split : (bytes : List ℕ) (place : ℕ) → Some place ≡ position is_hyphen bytes → bytes ≡ take place bytes ++ (codes "-" ++ drop (place + 1) bytes)
numbers_split bytes place found =
    let seen = hyphen_seen bytes place found in
    let hyphen : get_or bytes (position_or_len is_hyphen bytes) 0 ≡ 45 = let passes = passes_at_first is_hyphen bytes 0 seen.0 in grind (arith, nat_tests) in
    subst (λ (n : ℕ). bytes ≡ take n bytes ++ (codes "-" ++ drop (n + 1) bytes)) (sym seen.1)
    (split_at_first is_hyphen bytes 0 seen.0 ∙ ap (λ (b : ℕ). before_first is_hyphen bytes ++ (b ∷ after_first is_hyphen bytes)) hyphen)

module _ (bytes version number : List ℕ) (numeral : IsNumeral 10 version) (is : bytes ≡ version ++ (codes "-" ++ number)) where
  -- the two parts stand before and behind the first hyphen
  pub numbers_parts : (place : ℕ) → Some place ≡ position is_hyphen bytes → (version ≡ take place bytes) × (number ≡ drop (place + 1) bytes)
  numbers_parts place found =
      let seen = hyphen_seen bytes place found in
      let here : place ≡ length version = seen.1 ∙ ap (position_or_len is_hyphen) is ∙ hyphen_at version number numeral in (
        sym (ap (λ (n : ℕ). take n bytes) here ∙ ap (take (length version)) is ∙ take-append_seam version (codes "-" ++ number)),
        sym (ap (λ (n : ℕ). drop (n + 1) bytes) here ∙ ap (drop (length version + 1)) is ∙ drop-append-add version (codes "-" ++ number) 1),
      )

  -- so there is one
  pub hyphen_there : None ≡ position is_hyphen bytes → ⊥
  hyphen_there none = by (nat_lt (place_of bytes) (length bytes)) refl none
    where
      by : (b : Bool) → nat_lt (place_of bytes) (length bytes) ≡ b → None ≡ cond b (Some (place_of bytes)) None → ⊥
      by true lt found = absurd cc
      by false lt found =
          let here : place_of bytes ≡ length version = ap (position_or_len is_hyphen) is ∙ hyphen_at version number numeral in
          let long : length bytes ≡ length version + length (codes "-" ++ number) = ap length is ∙ length-append version (codes "-" ++ number) in
          let past : length bytes ≤ place_of bytes = none_before_end bytes lt in
          omega (arith, here, long, past)
