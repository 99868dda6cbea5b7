-- The last dot of a name.
use Rattle.std.proofs.Common.{◌≡◌, ◌≢◌, ℕ, zero, suc, ◌-◌, ◌<◌, true, false, Option, None, Some, List, [], ◌∷◌, length, get_or, take, refl, ap, arith}
use Rattle.std.specs.Prelude.{MatchOption, slice_range}
use Rattle.std.proofs.lemmas.Bool.{eq-eqb, ne_eqb}
use Rattle.std.proofs.lemmas.List.Folds.{list_any_at}
use Rattle.avro_schema.specs.Names.{dot, has_dot, namespace_of}

pub no_dot : (bs : List ℕ) → ((i : ℕ) → i < length bs → get_or bs i 0 ≢ dot) → has_dot bs ≡ false
no_dot [] h = refl
no_dot (b ∷ bs) h =
    let here : b ≢ dot = h 0 (omega arith) in
    let there : has_dot bs ≡ false = no_dot bs (λ i lt. h (suc i) (omega arith)) in
    rw (ne_eqb b dot here, there) refl

pub namespace_none : (bs : List ℕ) → ((i : ℕ) → i < length bs → get_or bs i 0 ≢ dot) → namespace_of bs ≡ []
namespace_none [] h = refl
namespace_none (b ∷ bs) h =
    let there : has_dot bs ≡ false = no_dot bs (λ i lt. h (suc i) (omega arith)) in
    rw there refl

pub namespace_last : (bs : List ℕ) (k : ℕ) → k < length bs → get_or bs k 0 ≡ dot → ((i : ℕ) → k < i → i < length bs → get_or bs i 0 ≢ dot) → take k bs ≡ namespace_of bs
namespace_last [] k lt at after = absurd (omega arith)
namespace_last (b ∷ bs) zero lt at after =
    let there : has_dot bs ≡ false = no_dot bs (λ i l. after (suc i) (omega arith) (omega arith)) in
    rw there refl
namespace_last (b ∷ bs) (suc k) lt at after =
    let some : has_dot bs ≡ true = list_any_at _ bs k 0 (omega arith) (eq-eqb _ _ at) in
    let rest : take k bs ≡ namespace_of bs = namespace_last bs k (omega arith) at (λ i m l. after (suc i) (omega arith) (omega arith)) in
    rw some (ap (λ (xs : List ℕ). b ∷ xs) rest)

pub namespace_found : (name : List ℕ) (r : Option ℕ) (k : ℕ) → r ≡ Some k → MatchOption r ((i : ℕ) → i < length name → get_or name i 0 ≢ 46) (λ j. (j < length name) × (get_or name j 0 ≡ 46) × ((i : ℕ) → j < i → i < length name → get_or name i 0 ≢ 46)) → slice_range name 0 k ≡ namespace_of name
namespace_found name None k e h = absurd cc
namespace_found name (Some j) k e h =
    let same : j ≡ k = cc in
    let whole : k - 0 ≡ k = omega arith in
    rw whole (rw (← same) (namespace_last name j h.0 h.1 h.2))

pub namespace_missing : (name : List ℕ) (r : Option ℕ) → r ≡ None → MatchOption r ((i : ℕ) → i < length name → get_or name i 0 ≢ 46) (λ j. (j < length name) × (get_or name j 0 ≡ 46) × ((i : ℕ) → j < i → i < length name → get_or name i 0 ≢ 46)) → namespace_of name ≡ []
namespace_missing name None e h = namespace_none name h
namespace_missing name (Some j) e h = absurd cc
