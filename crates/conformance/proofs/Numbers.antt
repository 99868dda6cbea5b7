-- The numbers under a number, in their order.
use Rattle.std.proofs.Common.{◌≡◌, ⊎_elim, ℕ, zero, suc, ◌+◌, ◌<◌, ◌≤◌, false, List, [], ◌∷◌, ◌++◌, length, map, All, Contains, refl, sym, ap, subst, ◌∙◌, append_assoc, arith}
use Rattle.std.specs.List.{IsDistinct, list_any}
use Rattle.std.specs.Prelude.{flat_map}
use Rattle.std.specs.Str.{bytes_eq}
use Rattle.std.proofs.lemmas.Bool.{cases_Bool, cases_lt}
use Rattle.std.proofs.lemmas.Cmp.{nat_list_eq_equiv}
use Rattle.std.proofs.lemmas.Grind.{flat_map-append}
use Rattle.std.proofs.lemmas.List.{append-nil, length_push, map-append}
use Rattle.std.proofs.lemmas.List.Elements.{All-nil, All-push, Contains-push_cases, Contains-push, Contains-append_left, Contains-append_cases}
use Rattle.std.proofs.lemmas.Map.Keys.{IsDistinct-push}
use Rattle.std.proofs.lemmas.Map.Views.{Contains-from_any}
use Rattle.std.proofs.lemmas.Slice.Eq.{bytes_eq-Decides}
use Rattle.table_history.proofs.RowListLemmas.{Contains-none}
use Rattle.conformance.specs.Drill.{numbers_under}

pub more : (n : ℕ) → numbers_under (n + 1) ≡ numbers_under n ++ n ∷ []
more n = ap numbers_under (let e : n + 1 ≡ suc n = omega arith in e)

pub map_more : {A : Type 0} (f : ℕ → A) (n : ℕ) → map f (numbers_under n) ++ f n ∷ [] ≡ map f (numbers_under (n + 1))
map_more f n = sym (ap (map f) (more n) ∙ map-append f (numbers_under n) (n ∷ []))

-- the same behind what was there
pub push_more : {A : Type 0} (f : ℕ → A) (before : List A) (n : ℕ) → (before ++ map f (numbers_under n)) ++ f n ∷ [] ≡ before ++ map f (numbers_under (n + 1))
push_more f before n = append_assoc before (map f (numbers_under n)) (f n ∷ []) ∙ ap (λ l. before ++ l) (map_more f n)

pub flat_more : {A : Type 0} (f : ℕ → List A) (n : ℕ) → flat_map f (numbers_under n) ++ f n ≡ flat_map f (numbers_under (n + 1))
flat_more f n = sym (ap (flat_map f) (more n) ∙ flat_map-append f (numbers_under n) (n ∷ []) ∙ ap (λ l. flat_map f (numbers_under n) ++ l) (append-nil (f n)))

pub length_map : {A : Type 0} (f : ℕ → A) (n : ℕ) → length (map f (numbers_under n)) ≡ n
length_map f zero = refl
length_map f (suc n) =
    let split = ap length (map-append f (numbers_under n) (n ∷ [])) ∙ length_push (map f (numbers_under n)) (f n) in
    let rest = length_map f n in
    omega (arith, split, rest)

pub all_map : {A : Type 0} (P : A → Type 0) (f : ℕ → A) (bound : ℕ) → ((j : ℕ) → j < bound → P (f j)) → (n : ℕ) → n ≤ bound → All P (map f (numbers_under n))
all_map P f bound each zero le = All-nil P
all_map P f bound each (suc n) le =
    subst (All P) (sym (map-append f (numbers_under n) (n ∷ []))) (All-push P (map f (numbers_under n)) (f n) (all_map P f bound each n (omega (arith, le))) (each n (omega (arith, le))))

pub from_map : {A : Type 0} (f : ℕ → A) (n : ℕ) (x : A) → Contains (map f (numbers_under n)) x → (j : ℕ) × (j < n) × (f j ≡ x)
from_map f zero x there = absurd (Contains-none x there)
from_map f (suc n) x there =
    ⊎_elim
    (λ earlier. let found = from_map f n x earlier in (found.0, (let lt = found.1 in omega (arith, lt)), found.2))
    (λ (last : f n ≡ x). (n, omega arith, last))
    (Contains-push_cases (map f (numbers_under n)) (f n) x (subst (λ l. Contains l x) (map-append f (numbers_under n) (n ∷ [])) there))

pub in_map : {A : Type 0} (f : ℕ → A) (n j : ℕ) → j < n → Contains (map f (numbers_under n)) (f j)
in_map f zero j lt = absurd (omega (arith, lt))
in_map f (suc n) j lt = subst (λ l. Contains l (f j)) (sym (map-append f (numbers_under n) (n ∷ []))) (⊎_elim
    (λ earlier. Contains-append_left (map f (numbers_under n)) (f n ∷ []) (f j) (in_map f n j earlier))
    (λ past. let last : j ≡ n = omega (arith, lt, past) in subst (λ k. Contains (map f (numbers_under n) ++ f n ∷ []) (f k)) (sym last) (Contains-push (map f (numbers_under n)) (f n)))
    (cases_lt j n))

-- ---- distinct texts

absent : (y : List ℕ) (xs : List (List ℕ)) → (Contains xs y → ⊥) → list_any (bytes_eq y) xs ≡ false
absent y xs none = ⊎_elim (λ found. absurd (none (Contains-from_any {eq = bytes_eq} (λ a b. (bytes_eq-Decides a b).0) y xs found))) (λ is. is) (cases_Bool (list_any (bytes_eq y) xs))

module _ (f : ℕ → List ℕ) (bound : ℕ) (own : (j k : ℕ) → j < bound → k < bound → f j ≡ f k → j ≡ k)
    (before : List (List ℕ)) (apart : (j : ℕ) → j < bound → Contains before (f j) → ⊥) (distinct : IsDistinct bytes_eq before) where
  pub grown : (n : ℕ) → n ≤ bound → IsDistinct bytes_eq (before ++ map f (numbers_under n))
  grown zero le = subst (IsDistinct bytes_eq) (sym (append-nil before)) distinct
  grown (suc n) le =
      subst (IsDistinct bytes_eq) (append_assoc before (map f (numbers_under n)) (f n ∷ []) ∙ ap (λ l. before ++ l) (sym (map-append f (numbers_under n) (n ∷ []))))
      (IsDistinct-push nat_list_eq_equiv (before ++ map f (numbers_under n)) (f n) (grown n (omega (arith, le))) (absent (f n) (before ++ map f (numbers_under n)) new))
    where
      new : Contains (before ++ map f (numbers_under n)) (f n) → ⊥
      new there = ⊎_elim
          (λ earlier. apart n (omega (arith, le)) earlier)
          (λ later. let found = from_map f n (f n) later in
          let lt = found.1 in
          let same : found.0 ≡ n = own found.0 n (omega (arith, lt, le)) (omega (arith, le)) found.2 in
          omega (arith, lt, same))
          (Contains-append_cases before (map f (numbers_under n)) (f n) there)
