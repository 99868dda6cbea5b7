-- The name of a table, by its last slash.
use Rattle.std.proofs.Common.{◌≡◌, ◌⊎◌, inr, ⊎_elim, ℕ, ◌+◌, ◌<◌, ◌≤◌, ◌==◌, Bool, List, ◌∷◌, ◌++◌, length, get_or, append_assoc, sym, ◌∙◌, ap, arith}
use Rattle.std.specs.Prelude.{Contains}
use Rattle.std.specs.List.{after_first, before_first, position_or_len}
use Rattle.std.proofs.lemmas.List.Sums.{fails_before_first, passes_at_first, split_at_first}
use Rattle.std.proofs.lemmas.Bool.{eqb-true}
use Rattle.std.proofs.Math.ListN.{length-append}

abbrev is_slash : ℕ → Bool
is_slash b = b == 47

pub split_here : (text : List ℕ) → position_or_len is_slash text < length text → text ≡ before_first is_slash text ++ 47 ∷ after_first is_slash text
split_here text lt =
    let slash : get_or text (position_or_len is_slash text) 0 ≡ 47 = eqb-true _ _ (passes_at_first is_slash text 0 lt) in
    split_at_first is_slash text 0 lt ∙ ap (λ b. before_first is_slash text ++ b ∷ after_first is_slash text) slash

pub plain_here : (text : List ℕ) → position_or_len is_slash text ≡ length text → Contains text 47 → ⊥
plain_here text none within =
    let lt : within.0 < position_or_len is_slash text = omega (arith, none, within.1) in
    absurd (cc (sym (fails_before_first is_slash text within.0 47 lt) ∙ ap is_slash within.2))

-- one more slash is left behind
pub left_behind : (location name behind : List ℕ) (n : ℕ) → (location ≡ name) ⊎ ((front : List ℕ) × (location ≡ front ++ 47 ∷ name)) → length name + n ≤ length location
    → (position_or_len is_slash name < length name) × (behind ≡ after_first is_slash name)
    → ((location ≡ behind) ⊎ ((front : List ℕ) × (location ≡ front ++ 47 ∷ behind))) × (length behind + (n + 1) ≤ length location)
left_behind location name behind n so_far fits found =
    let split : name ≡ before_first is_slash name ++ 47 ∷ behind = split_here name found.0 ∙ ap (λ l. before_first is_slash name ++ 47 ∷ l) (sym found.1) in
    let lengths : length name ≡ length (before_first is_slash name) + length (47 ∷ behind) = ap length split ∙ length-append (before_first is_slash name) (47 ∷ behind) in (
      inr (⊎_elim
          (λ (same : location ≡ name). (before_first is_slash name, same ∙ split))
          (λ (more : (front : List ℕ) × (location ≡ front ++ 47 ∷ name)). (more.0 ++ 47 ∷ before_first is_slash name, more.1 ∙ ap (λ l. more.0 ++ 47 ∷ l) split ∙ sym (append_assoc more.0 (47 ∷ before_first is_slash name) (47 ∷ behind))))
          so_far),
      omega (arith, lengths, fits),
    )
