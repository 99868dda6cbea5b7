-- What stands at a place of a list that the numbers under a number give.
use Rattle.std.proofs.Common.{◌≡◌, ⊎_elim, ℕ, zero, suc, ◌≤◌, ◌<◌, [], ◌∷◌, ◌++◌, length, map, Some, sym, ap, ◌∙◌, arith}
use Rattle.std.specs.Prelude.{slice_get}
use Rattle.std.proofs.lemmas.Bool.{cases_lt}
use Rattle.std.proofs.lemmas.List.{map-append}
use Rattle.std.proofs.lemmas.Option.{same_Some, slice_get_within}
use Rattle.conformance.specs.Drill.{numbers_under}
use Rattle.conformance.proofs.Numbers.{length_map}
use Rattle.lake_play.proofs.Targets.{first_get}
use Rattle.lake_basics.proofs.Lists.{get_behind}

pub numbers_at : {A : Type 0} (f : ℕ → A) (n i : ℕ) → i < n → slice_get (map f (numbers_under n)) i ≡ Some (f i)
numbers_at f zero i less = absurd (omega (arith, less))
numbers_at f (suc n) i less =
    let front = map f (numbers_under n) in
    let count : length front ≡ n = length_map f n in
    ap (λ l. slice_get l i) (map-append f (numbers_under n) (n ∷ []))
    ∙ ⊎_elim
    (λ (earlier : i < n). first_get front (f n ∷ []) i (omega (arith, earlier, count)) ∙ numbers_at f n i earlier)
    (λ (past : n ≤ i).
    let last : i ≡ length front = omega (arith, less, past, count) in
    let same : n ≡ i = omega (arith, less, past) in
    ap (slice_get (front ++ f n ∷ [])) last ∙ get_behind front (f n) [] ∙ ap (λ (k : ℕ). Some (f k)) same)
    (cases_lt i n)

-- what stands there is that of its place
pub numbers_back : {A : Type 0} (f : ℕ → A) (n i : ℕ) (x : A) → slice_get (map f (numbers_under n)) i ≡ Some x → (i < n) × (f i ≡ x)
numbers_back f n i x at =
    let count = length_map f n in
    let within : i < length (map f (numbers_under n)) = slice_get_within (map f (numbers_under n)) i x at in
    let less : i < n = omega (arith, within, count) in
    (less, same_Some (f i) x (sym (numbers_at f n i less) ∙ at))
