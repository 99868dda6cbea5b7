-- The rows of a drill, and what a commit of it has.
use Rattle.std.proofs.Common.{◌≡◌, ⊎_elim, ℕ, zero, suc, ◌≤◌, ◌<◌, List, length, map, Contains, Some, sym, ap, subst, arith}
use Rattle.std.proofs.lemmas.Fmt.{length-decimal-le}
use Rattle.std.proofs.lemmas.List.{length-map}
use Rattle.std.proofs.lemmas.List.Elements.{Contains-append_cases}
use Rattle.conformance.specs.Drill.{drill_schema, numbers_under, path_at}
use Rattle.conformance.proofs.Bounds.{added_paths, drill_history, entry_after, path_there, paths_count, row_from}
use Rattle.conformance.proofs.Numbers.{from_map}
use Rattle.conformance.proofs.Paths.{path_is}
use Rattle.conformance.proofs.Tables.{row_at, row_of_path}
use Rattle.table_history.specs.Row.{Row}
use Rattle.table_history.specs.Rows.{HasDistinctPaths, paths_of}
use Rattle.table_history.specs.TypeTree.{ColumnTrees}
use Rattle.table_history.specs.declared.table.Commit.{Commit}
use Rattle.table_history.specs.declared.table.Table.{Table}
use Rattle.table_history.proofs.RowListLemmas.{Contains-none}
use Rattle.lake_basics.proofs.Texts.{fewer}

-- the row is that of a file that a commit of the drill adds
abbrev pub IsDrillRow : ℕ → Row → Type 0
IsDrillRow number row = (i j : ℕ) × (i < 200) × (j < 50) × (row_at number i j ≡ row)

-- the entry is that behind one of the drill's commits
abbrev pub IsDrillEntry : ℕ → List ℕ × Table → Type 0
IsDrillEntry number entry = (i : ℕ) × (i < 200) × (entry_after number i ≡ entry)

-- A commit adds rows of the drill, each with a path of its own, and removes paths of it. It states no schema but the drill's, and its position is short.
pub record IsDueCommit (number : ℕ) (commit : Commit) : Type 0 where
  pub added : (row : Row) → Contains commit.change.added row → IsDrillRow number row
  pub distinct : HasDistinctPaths commit.change.added
  pub removed : (path : List ℕ) → Contains commit.change.removed path → Contains (added_paths number 200) path
  pub stated : (schema : ColumnTrees) → commit.change.schema ≡ Some schema → schema ≡ drill_schema
  pub position : length commit.position ≤ 15

module _ (number : ℕ) where
  pub entry_in : (entry : List ℕ × Table) → Contains (drill_history number 200) entry → IsDrillEntry number entry
  entry_in entry there = from_map (entry_after number) 200 entry there

  pub entry_row : (entry : List ℕ × Table) (row : Row) → IsDrillEntry number entry → Contains entry.1.rows row → IsDrillRow number row
  entry_row entry row (i, less, is) there =
      let found = row_from number (suc i) row (subst (λ (e : List ℕ × Table). Contains e.1.rows row) (sym is) there) in
      let earlier = found.2 in
      (found.0, found.1, omega (arith, earlier, less), found.3, found.4)

  pub entry_position : (entry : List ℕ × Table) → IsDrillEntry number entry → length entry.0 ≤ 15
  entry_position entry (i, less, is) =
      let same = ap (λ (e : List ℕ × Table). length e.0) is in
      let short = length-decimal-le 15 i (omega arith) (omega (arith, less)) (omega (arith, less)) in
      omega (arith, same, short)

  pub row_path : (row : Row) → IsDrillRow number row → Contains (added_paths number 200) row.path
  row_path row (i, j, less, lt, is) = subst (λ (r : Row). Contains (added_paths number 200) r.path) is (path_there number 200 i j less lt)

  pub path_short : (path : List ℕ) → Contains (added_paths number 200) path → length path ≤ 512
  path_short path there = by 200 (omega arith) there
    where
      by : (n : ℕ) → n ≤ 200 → Contains (added_paths number n) path → length path ≤ 512
      by zero le inside = absurd (Contains-none path inside)
      by (suc n) le inside =
          ⊎_elim
          (λ (earlier : Contains (added_paths number n) path). by n (omega (arith, le)) earlier)
          (λ (new : Contains (map (path_at number n) (numbers_under 50)) path).
          let found = from_map (path_at number n) 50 path new in
          let short = (path_is number n found.0 (omega (arith, le)) (let lt = found.1 in omega (arith, lt))).short in
          let same = ap (λ (p : List ℕ). length p) found.2 in
          omega (arith, short, same))
          (Contains-append_cases (added_paths number n) (map (path_at number n) (numbers_under 50)) path inside)

  -- They are few.
  pub few_rows : (rows : List Row) → HasDistinctPaths rows → ((row : Row) → Contains rows row → IsDrillRow number row) → length rows ≤ 10000
  few_rows rows distinct are =
      let count = fewer (paths_of rows) (added_paths number 200) distinct (λ path there.
      let of = row_of_path rows path there in
      subst (Contains (added_paths number 200)) of.2 (row_path of.0 (are of.0 of.1))) in
      let all = paths_count number 200 in
      let each = length-map rows (λ (r : Row). r.path) in
      omega (arith, count, all, each)
