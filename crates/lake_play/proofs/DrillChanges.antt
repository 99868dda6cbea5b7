-- How much the commits that are due to a target of a drill change.
use Rattle.std.proofs.Common.{◌≡◌, ◌⊎◌, ⊎_elim, ℕ, zero, suc, ◌+◌, ◌-◌, ◌≤◌, ◌<◌, true, false, not, List, [], ◌∷◌, ◌++◌, drop, length, map, Contains, Some, None, refl, sym, ap, subst, ◌∙◌, arith}
use Rattle.std.specs.Prelude.{slice_get}
use Rattle.std.specs.List.{AllByRecursion}
use Rattle.std.proofs.lemmas.Bool.{cases_Bool}
use Rattle.std.proofs.lemmas.List.{length-map, map-append}
use Rattle.std.proofs.lemmas.List.Elements.{Contains-append_cases, Contains-append_left}
use Rattle.conformance.specs.Drill.{added_file, drill_files, file_count, numbers_under, path_at, removed_files}
use Rattle.conformance.proofs.Bounds.{added_paths, drill_history, entry_after, path_there, paths_count, row_from}
use Rattle.conformance.proofs.Commits.{paths_added, paths_removed, removed_by}
use Rattle.conformance.proofs.Numbers.{from_map, in_map, length_map}
use Rattle.conformance.proofs.Paths.{one_path}
use Rattle.conformance.proofs.Tables.{kept_rows, new_rows, row_at, row_of_path, rows_after, stays, table_after}
use Rattle.delta_live.proofs.BehindLemmas.{on_path}
use Rattle.delta_log.specs.Commit.{file_path, file_paths}
use Rattle.delta_log.specs.Judging.{acts_on}
use Rattle.delta_log.specs.declared.commit.FileAction.{FileAction}
use Rattle.source_core.specs.Histories.{LeadAlong}
use Rattle.table_history.proofs.RowListLemmas.{Contains-filter, Contains-none, filter_contains}
use Rattle.table_history.proofs.TableLemmas.{distinct_order}
use Rattle.table_history.specs.History.{History}
use Rattle.table_history.specs.Row.{Row}
use Rattle.table_history.specs.Rows.{paths_of}
use Rattle.table_history.specs.Tables.{IsDiff}
use Rattle.table_history.specs.declared.table.Commit.{Commit}
use Rattle.table_history.specs.declared.table.Table.{Table}
use Rattle.lake_basics.proofs.Texts.{fewer}

-- ---- from one table to the next

module _ (number i : ℕ) (small : i < 200) (removed : List (List ℕ)) (added : List Row) (diff : IsDiff (rows_after number i) (rows_after number (suc i)) removed added) where
  files_split : (fs gs : List FileAction) → file_paths (fs ++ gs) ≡ file_paths fs ++ file_paths gs
  files_split [] gs = refl
  files_split (f ∷ fs) gs = ap (λ (l : List (List ℕ)). file_path f ∷ l) (files_split fs gs)

  -- the paths that the commit may take away
  abbrev earlier : List (List ℕ)
  earlier = map (path_at number (i - 10)) (numbers_under 50)

  module _ (row : Row) (was : Contains (rows_after number i) row) (gone : Contains (rows_after number (suc i)) row → ⊥) where
    acts : acts_on row.path (drill_files number i) ≡ true
    acts =
        ⊎_elim (λ on. on)
        (λ (off : acts_on row.path (drill_files number i) ≡ false).
        absurd (gone (Contains-append_left (kept_rows number i (rows_after number i)) (new_rows number i) row (filter_contains (stays number i) (rows_after number i) row was (ap not off)))))
        (cases_Bool (acts_on row.path (drill_files number i)))

    not_own : Contains (file_paths (map (added_file number i) (numbers_under file_count))) row.path → ⊥
    not_own there =
        let mine = from_map (path_at number i) 50 row.path (subst (λ (l : List (List ℕ)). Contains l row.path) (paths_added number i (numbers_under file_count)) there) in
        let from = row_from number i row was in
        let before = from.2 in
        let lt = mine.1 in
        let lt' = from.3 in
        let same : path_at number i mine.0 ≡ path_at number from.0 from.1 = mine.2 ∙ sym (ap (λ (r : Row). r.path) from.4) in
        let one : i ≡ from.0 = (one_path number i mine.0 from.0 from.1 (omega (arith, small)) (omega (arith, lt)) (omega (arith, before, small)) (omega (arith, lt')) same).0 in
        omega (arith, before, one)

    in_earlier : Contains (file_paths (removed_files number i)) row.path → Contains earlier row.path
    in_earlier there =
        removed_by number i (λ fs. Contains (file_paths fs) row.path → Contains earlier row.path)
        (λ late there. subst (λ (l : List (List ℕ)). Contains l row.path) (paths_removed number (i - 10) (numbers_under file_count)) there)
        (λ there. absurd (Contains-none row.path there)) there

    earlier_path : Contains earlier row.path
    earlier_path =
        ⊎_elim (λ own. absurd (not_own own)) in_earlier
        (Contains-append_cases (file_paths (map (added_file number i) (numbers_under file_count))) (file_paths (removed_files number i)) row.path
        (subst (λ (l : List (List ℕ)). Contains l row.path) (files_split (map (added_file number i) (numbers_under file_count)) (removed_files number i)) (on_path row.path (drill_files number i) acts)))

  pub few_removed : length removed ≤ 50
  few_removed =
      let few = fewer removed earlier (distinct_order removed diff.removed_order)
      (λ path there. let of = (diff.removed_paths path).0 there in subst (Contains earlier) of.3 (earlier_path of.0 of.1 of.2)) in
      let count = length_map (path_at number (i - 10)) 50 in
      omega (arith, few, count)

  abbrev own : List (List ℕ)
  own = map (path_at number i) (numbers_under 50)

  own_row : (row : Row) → Contains added row → Contains own row.path
  own_row row there =
      let is = (diff.added_rows row).0 there in
      ⊎_elim
      (λ (old : Contains (kept_rows number i (rows_after number i)) row). absurd (is.1 (Contains-filter (stays number i) (rows_after number i) row old).0))
      (λ (new : Contains (new_rows number i) row). let found = from_map (row_at number i) 50 row new in subst (Contains own) (ap (λ (r : Row). r.path) found.2) (in_map (path_at number i) 50 found.0 found.1))
      (Contains-append_cases (kept_rows number i (rows_after number i)) (new_rows number i) row is.0)

  pub few_added : length added ≤ 50
  few_added =
      let few = fewer (paths_of added) own (distinct_order (paths_of added) diff.added_order)
      (λ path there. let of = row_of_path added path there in subst (Contains own) of.2 (own_row of.0 of.1)) in
      let count = length_map (path_at number i) 50 in
      let each = length-map added (λ (r : Row). r.path) in
      omega (arith, few, count, each)

-- ---- from any rows of a drill to others

abbrev pub AreOfDrill : ℕ → List Row → Type 0
AreOfDrill number rows = (row : Row) → Contains rows row → Contains (added_paths number 200) row.path

pub of_drill : (number n : ℕ) → n ≤ 200 → AreOfDrill number (rows_after number n)
of_drill number n le row there =
    let found = row_from number n row there in
    let less = found.2 in
    subst (λ (r : Row). Contains (added_paths number 200) r.path) found.4 (path_there number 200 found.0 found.1 (omega (arith, less, le)) found.3)

module _ (number : ℕ) (before after : List Row) (removed : List (List ℕ)) (added : List Row) (diff : IsDiff before after removed added) (old : AreOfDrill number before) (new : AreOfDrill number after) where
  pub removed_most : length removed ≤ 10000
  removed_most =
      let few = fewer removed (added_paths number 200) (distinct_order removed diff.removed_order)
      (λ path there. let of = (diff.removed_paths path).0 there in subst (Contains (added_paths number 200)) of.3 (old of.0 of.1)) in
      let count = paths_count number 200 in
      omega (arith, few, count)

  pub added_most : length added ≤ 10000
  added_most =
      let few = fewer (paths_of added) (added_paths number 200) (distinct_order (paths_of added) diff.added_order)
      (λ path there. let of = row_of_path added path there in subst (Contains (added_paths number 200)) of.2 (new of.0 ((diff.added_rows of.0).0 of.1).0)) in
      let count = paths_count number 200 in
      let each = length-map added (λ (r : Row). r.path) in
      omega (arith, few, count, each)

-- ---- along the history

-- These are the entries of a drill's history from one on.
abbrev pub AreEntries : ℕ → ℕ → History → Type 0
AreEntries number i [] = Unit {0}
AreEntries number i (entry ∷ history) = (entry ≡ entry_after number i) × (i < 200) × AreEntries number (suc i) history

entries_push : (number i n : ℕ) (history : History) → AreEntries number i history → i + length history ≡ n → n < 200 → AreEntries number i (history ++ entry_after number n ∷ [])
entries_push number i n [] are count less = let same : n ≡ i = omega (arith, count) in (ap (entry_after number) same, omega (arith, count, less), tt)
entries_push number i n (entry ∷ history) are count less = (are.0, are.1, entries_push number (suc i) n history are.2 (omega (arith, count)) less)

entries_first : (number n : ℕ) → n ≤ 200 → AreEntries number 0 (drill_history number n)
entries_first number zero le = tt
entries_first number (suc n) le =
    let count : 0 + length (drill_history number n) ≡ n = let e = length_map (entry_after number) n in omega (arith, e) in
    subst (AreEntries number 0) (sym (map-append (entry_after number) (numbers_under n) (n ∷ []))) (entries_push number 0 n (drill_history number n) (entries_first number n (omega (arith, le))) count (omega (arith, le)))

entries_front : (number i : ℕ) (front behind : History) → AreEntries number i (front ++ behind) → AreEntries number i front
entries_front number i [] behind are = tt
entries_front number i (entry ∷ front) behind are = (are.0, are.1, entries_front number (suc i) front behind are.2)

-- the first tables of a drill
pub are_entries : (number : ℕ) (front behind : History) → drill_history number 200 ≡ front ++ behind → AreEntries number 0 front
are_entries number front behind split = entries_front number 0 front behind (subst (AreEntries number 0) split (entries_first number 200 (omega arith)))

pub entries_drop : (number i k : ℕ) (history : History) → AreEntries number i history → AreEntries number (i + k) (drop k history)
entries_drop number i zero history are = let same : i ≡ i + 0 = omega arith in subst (λ (n : ℕ). AreEntries number n history) same are
entries_drop number i (suc k) [] are = tt
entries_drop number i (suc k) (entry ∷ history) are = let same : suc i + k ≡ i + suc k = omega arith in subst (λ (n : ℕ). AreEntries number n (drop k history)) same (entries_drop number (suc i) k history are.2)

pub entry_at : (number i k : ℕ) (history : History) (entry : List ℕ × Table) → AreEntries number i history → slice_get history k ≡ Some entry → (entry ≡ entry_after number (i + k)) × (i + k < 200)
entry_at number i k [] entry are at = let no : None ≡ Some entry = at in absurd cc
entry_at number i zero (first ∷ history) entry are at =
    let one : Some first ≡ Some entry = at in
    let is : first ≡ entry = cc in
    let same : i ≡ i + 0 = omega arith in
    (sym is ∙ are.0 ∙ ap (entry_after number) same, (let less = are.1 in omega (arith, less)))
entry_at number i (suc k) (first ∷ history) entry are at =
    let rest = entry_at number (suc i) k history entry are.2 at in
    let same : suc i + k ≡ i + suc k = omega arith in
    (rest.0 ∙ ap (entry_after number) same, (let less = rest.1 in omega (arith, less)))

pub entry_last : (number i : ℕ) (front : History) (entry : List ℕ × Table) → AreEntries number i (front ++ entry ∷ []) → (n : ℕ) × (n < 200) × (entry ≡ entry_after number n)
entry_last number i [] entry are = (i, are.1, are.0)
entry_last number i (first ∷ front) entry are = entry_last number (suc i) front entry are.2

-- a commit that removes and adds few
abbrev pub IsSmall : Commit → Type 0
IsSmall commit = (length commit.change.removed ≤ 50) × (length commit.change.added ≤ 50)

pub small_along : (number i : ℕ) (history : History) (base : Table) (commits : List Commit) → base ≡ table_after number i → AreEntries number i history → LeadAlong base history commits → AllByRecursion IsSmall commits
small_along number i [] base commits is are leads = subst (AllByRecursion IsSmall) (sym leads) tt
small_along number i (entry ∷ history) base [] is are leads = absurd leads
small_along number i (entry ∷ history) base (commit ∷ commits) is are leads =
    let next : entry.1 ≡ table_after number (suc i) = ap (λ (e : List ℕ × Table). e.1) are.0 in
    let diff : IsDiff (rows_after number i) (rows_after number (suc i)) commit.change.removed commit.change.added =
    subst (λ (t : Table). IsDiff t.rows (rows_after number (suc i)) commit.change.removed commit.change.added) is (subst (λ (t : Table). IsDiff base.rows t.rows commit.change.removed commit.change.added) next leads.0.rows) in
    ((few_removed number i are.1 commit.change.removed commit.change.added diff, few_added number i are.1 commit.change.removed commit.change.added diff), small_along number (suc i) history entry.1 commits next are.2 leads.1)
