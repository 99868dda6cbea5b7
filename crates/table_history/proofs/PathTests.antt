-- The tests of paths decide what they test.
use Rattle.std.proofs.Common.{ℕ, ◌≤◌, Bool, List, [], length, All, refl, sym, ◌∙◌, inl, inr, arith}
use Rattle.std.specs.Bool.{Decides}
use Rattle.std.specs.List.{list_all, slice_split}
use Rattle.std.specs.Prelude.{nat_le, codes}
use Rattle.std.specs.Str.{IsUtf8, is_utf8}
use Rattle.std.proofs.lemmas.Bool.{false≢true}
use Rattle.std.proofs.lemmas.Bool.Decides.{Decides-and, Decides-not, Decides-by_and, leb_tells}
use Rattle.std.proofs.lemmas.Slice.Eq.{bytes_eq-Decides}
use Rattle.std.proofs.lemmas.Str.{IsUtf8-from_is_utf8, is_utf8-from_IsUtf8}
use Rattle.table_history.specs.Path.{is_slash, is_segment, is_path_of_any_length, is_path, IsSegment, IsPathOfAnyLength, IsPath}
use Rattle.lake_basics.specs.declared.limits.TheConstants.{MAX_PATH_BYTES}

all_decided : {X : Type 0} (p : X → Bool) (P : X → Type 0) → ((x : X) → Decides (p x) (P x)) → (xs : List X) → Decides (list_all p xs) (All P xs)
all_decided p P each xs = Decides-by_and p P (list_all p) each refl (λ x xs. refl) xs

at_most_decided : (a b : ℕ) → Decides (nat_le a b) (a ≤ b)
at_most_decided a b =
    elim (leb_tells a b) as (λ _. Decides (nat_le a b) (a ≤ b)) [
      | inl within ↦ (λ _. within.1, λ _. within.0)
      | inr past ↦ (λ t. absurd (false≢true (sym past.0 ∙ t)), λ le. absurd (omega (arith, past.1, le)))
    ]

segment_decided : (segment : List ℕ) → Decides (is_segment segment) (IsSegment segment)
segment_decided segment =
    let both = Decides-and _ _ (Decides-not _ (bytes_eq-Decides segment [])) (Decides-and _ _ (Decides-not _ (bytes_eq-Decides segment (codes "."))) (Decides-not _ (bytes_eq-Decides segment (codes "..")))) in
    (λ t. let is = both.0 t in record { filled = is.0; no_dot = is.1.0; no_dots = is.1.1 }, λ is. both.1 (is.filled, (is.no_dot, is.no_dots)))

pub path_of_any_length_decided : (bytes : List ℕ) → Decides (is_path_of_any_length bytes) (IsPathOfAnyLength bytes)
path_of_any_length_decided bytes =
    let text : Decides (is_utf8 bytes) (IsUtf8 bytes) = (IsUtf8-from_is_utf8 bytes, is_utf8-from_IsUtf8 bytes) in
    let plain = all_decided (λ b. nat_le 32 b) (λ b. 32 ≤ b) (λ b. at_most_decided 32 b) bytes in
    let segments = all_decided is_segment IsSegment segment_decided (slice_split is_slash bytes) in
    let all = Decides-and _ _ text (Decides-and _ _ plain segments) in
    (λ t. let is = all.0 t in record { utf8 = is.0; plain = is.1.0; segments = is.1.1 }, λ is. all.1 (is.utf8, (is.plain, is.segments)))

pub path_decided : (bytes : List ℕ) → Decides (is_path bytes) (IsPath bytes)
path_decided bytes =
    let both = Decides-and _ _ (at_most_decided (length bytes) MAX_PATH_BYTES) (path_of_any_length_decided bytes) in
    (λ t. let is = both.0 t in record { form = is.1; short = is.0 }, λ is. both.1 (is.short, is.form))
