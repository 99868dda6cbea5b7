-- Bytes, cut at their first newline.
use Rattle.std.proofs.Common.{◌≡◌, ℕ, zero, suc, ◌+◌, ◌<◌, ◌≤◌, List, [], ◌∷◌, length, get_or, take, drop, Some, None, Bool, true, false, cond, nat_lt, not, refl, ap, ◌∙◌, arith}
use Rattle.std.proofs.lemmas.List.{length-append}
use Rattle.std.proofs.lemmas.List.Folds.{list_any_more}
use Rattle.std.proofs.lemmas.List.Sums.{fails_before_first, passes_at_first, split_at_first}
use Rattle.std.specs.List.{list_any, position, position_or_len}
use Rattle.delta_log.specs.Judging.{is_newline}
use Rattle.delta_feeding.specs.Cut.{IsCut}
use borrow.Author.Tests.{ltb-true}
use Rattle.lake_basics.proofs.Options.{chosen, not_chosen}

past : (b : Bool) (x : ℕ) (xs : List ℕ) → is_newline x ≡ b → nat_lt (cond (not b) (1 + position_or_len is_newline xs) 0) (length (x ∷ xs)) ≡ false
    → (nat_lt (position_or_len is_newline xs) (length xs) ≡ false → list_any is_newline xs ≡ false) → list_any is_newline (x ∷ xs) ≡ false
past true x xs is none more = absurd (grind arith)
past false x xs is none more = rw is (more (grind arith))

none_passes : (bytes : List ℕ) → nat_lt (position_or_len is_newline bytes) (length bytes) ≡ false → list_any is_newline bytes ≡ false
none_passes [] none = refl
none_passes (x ∷ xs) none = past (is_newline x) x xs refl none (none_passes xs)

pub no_newline : (bytes : List ℕ) → position is_newline bytes ≡ None → list_any is_newline bytes ≡ false
no_newline bytes e = none_passes bytes (not_chosen _ _ e)

none_before : (bytes : List ℕ) (n : ℕ) → n ≤ length bytes → ((k : ℕ) → k < n → is_newline (get_or bytes k 0) ≡ false) → list_any is_newline (take n bytes) ≡ false
none_before bytes zero le fails = refl
none_before bytes (suc n) le fails =
    let next : suc n ≡ n + 1 = omega arith in
    let front = none_before bytes n (omega arith) (λ k lt. fails k (omega (arith, lt))) in
    rw (next, list_any_more is_newline bytes n 0 (omega arith), front) (fails n (omega arith))

pub cut_at : (bytes line behind : List ℕ) (i : ℕ) → position is_newline bytes ≡ Some i → line ≡ take i bytes → behind ≡ drop (i + 1) bytes → IsCut bytes line behind
cut_at bytes line behind i e front rest =
    let both = chosen _ (position_or_len is_newline bytes) i e in
    let within : position_or_len is_newline bytes < length bytes = omega (arith, ltb-true, both.0) in
    record {
      newline = get_or bytes (position_or_len is_newline bytes) 0;
      is = passes_at_first is_newline bytes 0 within;
      split = split_at_first is_newline bytes 0 within ∙ rw (front, rest, ← both.1) refl;
      one_line = rw (front, ← both.1) (none_before bytes (position_or_len is_newline bytes) (omega (arith, within)) (λ k lt. fails_before_first is_newline bytes k 0 lt));
    }

pub shorter_behind : (bytes line behind : List ℕ) → IsCut bytes line behind → length behind < length bytes
shorter_behind bytes line behind cut = omega (arith, ap length cut.split, length-append line (cut.newline ∷ behind))
