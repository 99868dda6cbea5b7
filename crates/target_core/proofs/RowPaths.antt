-- How many paths rows have, and which paths no row has.
use Rattle.std.proofs.Common.{◌≡◌, ℕ, not, Bool, true, List, length, Option, Some, None, refl, sym, ap, ◌∙◌}
use Rattle.std.specs.Prelude.{is_some}
use Rattle.std.proofs.lemmas.Bool.{false≢true}
use Rattle.std.proofs.lemmas.List.{length-map}
use Rattle.table_history.specs.Row.{Row}
use Rattle.table_history.specs.Rows.{HasPath, paths_of, row_at}
use Rattle.table_history.proofs.RowListLemmas.{row_at-found, row_at-none}

pub rows_length : (rows : List Row) → length (paths_of rows) ≡ length rows
rows_length rows = length-map rows (λ r. r.path)

-- no row has the path
abbrev pub is_lost : List Row → List ℕ → Bool
is_lost rows path = not (is_some (row_at rows path))

pub lost_none : (rows : List Row) (path : List ℕ) → is_lost rows path ≡ true → HasPath rows path → ⊥
lost_none rows path is there = by (row_at rows path) refl
  where
    by : (o : Option Row) → row_at rows path ≡ o → ⊥
    by None at = row_at-none rows path at there
    by (Some row) at = false≢true (sym (ap (λ (o : Option Row). not (is_some o)) at) ∙ is)

pub none_lost : (rows : List Row) (path : List ℕ) → (HasPath rows path → ⊥) → is_lost rows path ≡ true
none_lost rows path none = by (row_at rows path) refl
  where
    by : (o : Option Row) → row_at rows path ≡ o → is_lost rows path ≡ true
    by None at = ap (λ (o : Option Row). not (is_some o)) at
    by (Some row) at = let found = row_at-found rows path row at in absurd (none (row, found.0, found.1))
