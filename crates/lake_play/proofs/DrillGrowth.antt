-- How many rows come to a drill's table between two of its commits.
use Rattle.std.proofs.Common.{◌≡◌, ◌⊎◌, inl, inr, ⊎_elim, ℕ, zero, suc, ◌+◌, ◌-◌, ◌*◌, ◌≤◌, ◌<◌, List, [], ◌++◌, length, map, Contains, refl, ap, subst, ◌∙◌, arith}
use Rattle.std.proofs.lemmas.Bool.{cases_lt}
use Rattle.std.proofs.lemmas.List.{length-append, length-map}
use Rattle.std.proofs.lemmas.List.Elements.{Contains-append_cases, Contains-append_left, Contains-append_right}
use Rattle.table_history.proofs.RowListLemmas.{Contains-filter, Contains-none}
use Rattle.table_history.specs.Row.{Row}
use Rattle.table_history.specs.Rows.{HasDistinctPaths, paths_of}
use Rattle.conformance.specs.Drill.{numbers_under, path_at}
use Rattle.conformance.proofs.Numbers.{from_map, in_map, length_map}
use Rattle.conformance.proofs.Tables.{kept_rows, new_rows, row_at, row_of_path, rows_after, stays}
use Rattle.lake_basics.proofs.Texts.{fewer}

-- the paths of the files that so many commits add, from the k-th on
abbrev paths_from : ℕ → ℕ → ℕ → List (List ℕ)
paths_from number k zero = []
paths_from number k (suc d) = paths_from number k d ++ map (path_at number (k + d)) (numbers_under 50)

from_count : (number k d : ℕ) → length (paths_from number k d) ≡ 50 * d
from_count number k zero = refl
from_count number k (suc d) =
    let both = length-append (paths_from number k d) (map (path_at number (k + d)) (numbers_under 50)) in
    let before = from_count number k d in
    let more = length_map (path_at number (k + d)) 50 in
    omega (arith, both, before, more)

from_there : (number k d i j : ℕ) → k ≤ i → i < k + d → j < 50 → Contains (paths_from number k d) (path_at number i j)
from_there number k zero i j low less lt = absurd (omega (arith, low, less))
from_there number k (suc d) i j low less lt =
    ⊎_elim
    (λ (earlier : i < k + d). Contains-append_left (paths_from number k d) (map (path_at number (k + d)) (numbers_under 50)) (path_at number i j) (from_there number k d i j low earlier lt))
    (λ (past : k + d ≤ i).
    let last : k + d ≡ i = omega (arith, less, past) in
    Contains-append_right (paths_from number k d) (map (path_at number (k + d)) (numbers_under 50)) (path_at number i j)
    (subst (λ (n : ℕ). Contains (map (path_at number (k + d)) (numbers_under 50)) (path_at number n j)) last (in_map (path_at number (k + d)) 50 j lt)))
    (cases_lt i (k + d))

-- a file that a commit adds, which is none of the first k ones
abbrev IsNewRow : ℕ → ℕ → ℕ → Row → Type 0
IsNewRow number k n row = (i : ℕ) × (j : ℕ) × (k ≤ i) × (i < n) × (j < 50) × (row_at number i j ≡ row)

-- a row that is there later was there, or is that of a later commit
row_since : (number k n : ℕ) (row : Row) → k ≤ n → Contains (rows_after number n) row → Contains (rows_after number k) row ⊎ IsNewRow number k n row
row_since number k zero row le there = absurd (Contains-none row there)
row_since number k (suc n) row le there =
    ⊎_elim
    (λ (later : k < suc n).
    ⊎_elim
    (λ (old : Contains (kept_rows number n (rows_after number n)) row).
    ⊎_elim
    (λ (was : Contains (rows_after number k) row). inl was)
    (λ (new : IsNewRow number k n row). let less = new.3 in inr (new.0, new.1, new.2, omega (arith, less), new.4, new.5))
    (row_since number k n row (omega (arith, later)) (Contains-filter (stays number n) (rows_after number n) row old).0))
    (λ (fresh : Contains (new_rows number n) row). let found = from_map (row_at number n) 50 row fresh in inr (n, found.0, omega (arith, later), omega arith, found.1, found.2))
    (Contains-append_cases (kept_rows number n (rows_after number n)) (new_rows number n) row there))
    (λ (last : suc n ≤ k). let same : suc n ≡ k = omega (arith, le, last) in inl (subst (λ (m : ℕ). Contains (rows_after number m) row) same there))
    (cases_lt k (suc n))

-- Rows that are there after n commits and weren't after k are at most 50 for each commit between.
pub few_new : (number k n : ℕ) (rows : List Row) → k ≤ n → HasDistinctPaths rows → ((row : Row) → Contains rows row → Contains (rows_after number n) row × (Contains (rows_after number k) row → ⊥)) → 50 * k + length rows ≤ 50 * n
few_new number k n rows le distinct each = by (n - k) (omega (arith, le))
  where
    by : (d : ℕ) → k + d ≡ n → 50 * k + length rows ≤ 50 * n
    by d sum =
        let count = from_count number k d in
        let paths = length-map rows (λ (r : Row). r.path) in
        let few = fewer (paths_of rows) (paths_from number k d) distinct (λ path there.
        let of = row_of_path rows path there in
        let is = each of.0 of.1 in
        ⊎_elim
        (λ (was : Contains (rows_after number k) of.0). absurd (is.1 was))
        (λ (new : IsNewRow number k n of.0).
        let less = new.3 in
        subst (Contains (paths_from number k d)) (ap (λ (r : Row). r.path) new.5 ∙ of.2) (from_there number k d new.0 new.1 new.2 (omega (arith, less, sum)) new.4))
        (row_since number k n of.0 le is.0)) in
        omega (arith, count, paths, few, sum)
