-- The rows of a manifest that is written anew.
use Rattle.std.proofs.Common.{◌≡◌, ◌<◌, ℕ, Bool, Bor, Contains, List, get_or, map, length, sym, ap, subst, ◌∙◌}
use Rattle.std.specs.List.{filter}
use Rattle.std.proofs.lemmas.List.{get_or-map, length-map}
use Rattle.table_history.proofs.RowListLemmas.{Contains-filter}
use Rattle.file_links.specs.declared.slots.Held.{Held}

abbrev pub rows_now : List (Bor Held) → List Held
rows_now rows = map (λ (r : Bor Held). r.now) rows

there_at : (rows : List (Bor Held)) (i : ℕ) (row : Bor Held) → i < length rows → row ≡ get_or rows i row → Contains (rows_now rows) row.now
there_at rows i row within at =
    (i, subst (λ (n : ℕ). i < n) (sym (length-map rows (λ (r : Bor Held). r.now))) within, get_or-map (λ (r : Bor Held). r.now) rows i row row.now within ∙ ap (λ (r : Bor Held). r.now) (sym at))

-- What is said of each row is said of the one at this place.
pub of_row : (P : Held → Type 0) (rows : List (Bor Held)) (i : ℕ) (row : Bor Held) → ((held : Held) → Contains (rows_now rows) held → P held) → i < length rows → row ≡ get_or rows i row → P row.now
of_row P rows i row all within at = all row.now (there_at rows i row within at)

-- What is said of all rows is said of those that pass a test.
pub of_passing : (P : Held → Type 0) (p : Held → Bool) (all : List Held) (rows : List (Bor Held)) → ((held : Held) → Contains all held → P held) → rows_now rows ≡ filter p all → (held : Held) → Contains (rows_now rows) held → P held
of_passing P p all rows each are held there = each held (Contains-filter p all held (subst (λ (hs : List Held). Contains hs held) are there)).0
