-- What is tested of rows that are kept.
use Rattle.std.proofs.Common.{◌≡◌, ⊎_elim, ◌≤◌, true, nat_le, List, [], ◌∷◌, length, Contains, refl, subst}
use Rattle.std.specs.List.{list_all}
use Rattle.std.proofs.lemmas.Bool.{and_from}
use Rattle.lake_basics.specs.declared.limits.TheConstants.{MAX_LIVE_FILES}
use Rattle.lake_basics.proofs.Truth.{left_true, right_true}
use Rattle.lake_basics.proofs.Numbers.{le_by, le_test}
use Rattle.table_history.specs.Path.{IsPath, is_path}
use Rattle.table_history.specs.Row.{Row}
use Rattle.table_history.proofs.PathTests.{path_decided}
use Rattle.table_history.proofs.RowListLemmas.{Contains-none, Contains-head, Contains-tail, Contains-cases}
use Rattle.target_core.specs.Conditions.{IsPublishable}
use Rattle.table_history.specs.declared.table.Table.{Table}
use Rattle.target_core.specs.Held.{are_held}

all_paths : (rows : List Row) → ((row : Row) → Contains rows row → IsPath row.path) → list_all (λ row. is_path row.path) rows ≡ true
all_paths [] are = refl
all_paths (r ∷ rows) are = and_from (is_path r.path) (list_all (λ row. is_path row.path) rows) ((path_decided r.path).1 (are r (Contains-head r rows))) (all_paths rows (λ row there. are row (Contains-tail r rows row there)))

paths_all : (rows : List Row) → list_all (λ row. is_path row.path) rows ≡ true → (row : Row) → Contains rows row → IsPath row.path
paths_all [] is row there = absurd (Contains-none row there)
paths_all (r ∷ rows) is row there =
    ⊎_elim
    (λ (here : r ≡ row). subst (λ (x : Row). IsPath x.path) here ((path_decided r.path).0 (left_true (is_path r.path) (list_all (λ row. is_path row.path) rows) is)))
    (λ later. paths_all rows (right_true (is_path r.path) (list_all (λ row. is_path row.path) rows) is) row later)
    (Contains-cases r rows row there)

pub held_paths : (rows : List Row) → are_held rows ≡ true → (row : Row) → Contains rows row → IsPath row.path
held_paths rows is = paths_all rows (right_true (nat_le (length rows) MAX_LIVE_FILES) (list_all (λ row. is_path row.path) rows) is)

pub held_few : (rows : List Row) → are_held rows ≡ true → length rows ≤ MAX_LIVE_FILES
held_few rows is = le_by (length rows) MAX_LIVE_FILES (left_true (nat_le (length rows) MAX_LIVE_FILES) (list_all (λ row. is_path row.path) rows) is)

-- few rows, each of which has a path
pub are_held_by : (rows : List Row) → length rows ≤ MAX_LIVE_FILES → ((row : Row) → Contains rows row → IsPath row.path) → are_held rows ≡ true
are_held_by rows few paths = and_from (nat_le (length rows) MAX_LIVE_FILES) (list_all (λ row. is_path row.path) rows) (le_test (length rows) MAX_LIVE_FILES few) (all_paths rows paths)

-- a table that may be published
pub held_of : (table : Table) → IsPublishable table → are_held table.rows ≡ true
held_of table may = are_held_by table.rows may.live_files may.paths

pub none_held : are_held [] ≡ true
none_held = refl
