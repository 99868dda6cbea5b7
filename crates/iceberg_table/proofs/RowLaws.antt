-- A table of rows, with one row more.
use Rattle.std.proofs.Common.{◌≡◌, ◌⊎◌, ℕ, List, [], ◌∷◌, ◌++◌, true, false, Contains, Option, None, Some, sym, ap, subst, ◌∙◌, inl, inr, ⊎_elim, append_assoc, arith, Bor}
use Rattle.std.specs.Prelude.{MatchOption, is_some}
use Rattle.std.specs.List.{IsDistinct, list_any}
use Rattle.std.specs.Str.{bytes_eq}
use Rattle.std.proofs.lemmas.Bool.{cases_Bool, false≢true}
use Rattle.std.proofs.lemmas.Cmp.{nat_list_eq_equiv}
use Rattle.std.proofs.lemmas.List.{map-append}
use Rattle.std.proofs.lemmas.List.Elements.{Contains-append_left, Contains-append_right, Contains-append_cases, Contains-push, Contains-push_cases}
use Rattle.std.proofs.lemmas.Map.Keys.{IsDistinct-head, IsDistinct-push, IsDistinct-tail, IsDistinct-from_apart}
use Rattle.std.proofs.lemmas.Slice.Eq.{bytes_eq-Decides}
use Rattle.lake_basics.proofs.Texts.{front_distinct}
use Rattle.iceberg_metadata.proofs.ListLemmas.{any_to}
use Rattle.table_history.specs.Rows.{HasDistinctPaths, HasPath, SameRows, paths_of}
use Rattle.table_history.specs.TypeTree.{ColumnTrees}
use Rattle.table_history.specs.declared.row.FileRow.{FileRow}
use Rattle.table_history.specs.declared.table.Table.{Table}
use Rattle.table_history.proofs.RowListLemmas.{Contains-head, Contains-none, Contains-one, Contains-paths, all_at}
use Rattle.table_history.proofs.TableLemmas.{Contains-paths_cases}
use Rattle.iceberg_live.specs.declared.live.LiveRow.{LiveRow}
use Rattle.iceberg_table.specs.Tables.{IsTableOfRows, rows_in}

-- ---- distinct paths

pub path_there : (rows : List FileRow) (path : List ℕ) (r : Option (Bor FileRow)) → is_some r ≡ true → MatchOption r (HasPath rows path → ⊥) (λ w. Contains rows w.now × (w.now.path ≡ path)) → HasPath rows path
path_there rows path None is cases = absurd (cc)
path_there rows path (Some w) is cases = (w.now, cases.0, cases.1)

pub no_paths : HasDistinctPaths []
no_paths = IsDistinct-from_apart bytes_eq [] (λ i j d _ within. absurd (omega arith))

pub paths_push : (rows : List FileRow) (row : FileRow) → HasDistinctPaths rows → (HasPath rows row.path → ⊥) → HasDistinctPaths (rows ++ row ∷ [])
paths_push rows row distinct new =
    subst (IsDistinct bytes_eq) (sym (map-append (λ (r : FileRow). r.path) rows (row ∷ [])))
    (IsDistinct-push nat_list_eq_equiv (paths_of rows) row.path distinct (⊎_elim (λ is. absurd (there is)) (λ is. is) (cases_Bool (list_any (bytes_eq row.path) (paths_of rows)))))
  where
    there : list_any (bytes_eq row.path) (paths_of rows) ≡ true → ⊥
    there is =
        let found = any_to (bytes_eq row.path) (paths_of rows) is in
        let same : row.path ≡ found.0 = (bytes_eq-Decides row.path found.0).0 found.2 in
        new (Contains-paths_cases rows row.path (subst (Contains (paths_of rows)) (sym same) found.1))

-- a row of a path that is there before it
pub shared : (rows : List FileRow) (row : FileRow) (rest : List FileRow) → HasPath rows row.path → HasDistinctPaths (rows ++ row ∷ rest) → ⊥
shared [] row rest there distinct = Contains-none there.0 there.1
shared (r ∷ rows) row rest there distinct =
    ⊎_elim
    (λ same.
    let apart : bytes_eq r.path row.path ≡ false = all_at (λ y. bytes_eq r.path y ≡ false) (paths_of (rows ++ row ∷ rest)) row.path (IsDistinct-head bytes_eq r.path (paths_of (rows ++ row ∷ rest)) distinct) (Contains-paths (rows ++ row ∷ rest) row (Contains-append_right rows (row ∷ rest) row (Contains-head row rest))) in
    false≢true (sym apart ∙ (bytes_eq-Decides r.path row.path).1 (ap (λ (w : FileRow). w.path) same ∙ there.2)))
    (λ later. shared rows row rest (there.0, later, there.2) (IsDistinct-tail bytes_eq r.path (paths_of (rows ++ row ∷ rest)) distinct))
    (cases there.1)
  where
    cases : Contains (r ∷ rows) there.0 → (r ≡ there.0) ⊎ Contains rows there.0
    cases h = ⊎_elim (λ one. inl (Contains-one r there.0 one)) (λ later. inr later) (Contains-append_cases (r ∷ []) rows there.0 h)

pub distinct_front : (rows rest : List FileRow) → HasDistinctPaths (rows ++ rest) → HasDistinctPaths rows
distinct_front rows rest distinct = front_distinct (paths_of rows) (paths_of rest) (subst (IsDistinct bytes_eq) (map-append (λ (r : FileRow). r.path) rows rest) distinct)

-- ---- a table

pub empty_of : (schema : ColumnTrees) (partition : List (List ℕ)) (t : Table) → t.schema ≡ schema → t.partition ≡ partition → t.rows ≡ [] → IsTableOfRows schema partition [] t
empty_of schema partition t s p none = record {
  schema = s;
  partition = p;
  distinct = no_paths;
  same = subst (λ rows. SameRows rows []) (sym none) (λ row. (λ h. h, λ h. h));
  own = subst HasDistinctPaths (sym none) no_paths;
}

module _ (schema : ColumnTrees) (partition : List (List ℕ)) (rows : List FileRow) (table : Table) (is : IsTableOfRows schema partition rows table) (row : FileRow) where
  there_too : HasPath table.rows row.path → HasPath rows row.path
  there_too h = (h.0, (is.same h.0).0 h.1, h.2)

  there_before : HasPath rows row.path → HasPath table.rows row.path
  there_before h = (h.0, (is.same h.0).1 h.1, h.2)

  pub row_added : (longer : List FileRow) → longer ≡ table.rows ++ row ∷ [] → (HasPath table.rows row.path → ⊥) → IsTableOfRows schema partition (rows ++ row ∷ []) (record table { rows = longer })
  row_added longer pushed lacks = record {
    schema = is.schema;
    partition = is.partition;
    distinct = paths_push rows row is.distinct (λ h. lacks (there_before h));
    same = λ r. (
      λ there. further table.rows rows (λ s. (is.same s).0) r (subst (λ l. Contains l r) pushed there),
      λ there. subst (λ l. Contains l r) (sym pushed) (further rows table.rows (λ s. (is.same s).1) r there),
    );
    own = subst HasDistinctPaths (sym pushed) (paths_push table.rows row is.own lacks);
  }
    where
      further : (xs ys : List FileRow) → ((r : FileRow) → Contains xs r → Contains ys r) → (r : FileRow) → Contains (xs ++ row ∷ []) r → Contains (ys ++ row ∷ []) r
      further xs ys also r there =
          ⊎_elim (λ was. Contains-append_left ys (row ∷ []) r (also r was)) (λ same. subst (Contains (ys ++ row ∷ [])) same (Contains-push ys row)) (Contains-push_cases xs row r there)

  -- a row whose path is there
  pub row_shared : (rest : List FileRow) → HasPath table.rows row.path → HasDistinctPaths (rows ++ row ∷ rest) → ⊥
  row_shared rest there = shared rows row rest (there_too there)

-- ---- item by item

rows_split : (live front rest : List LiveRow) (x : LiveRow) → live ≡ front ++ x ∷ rest → rows_in live ≡ rows_in front ++ x.row ∷ rows_in rest
rows_split live front rest x is = ap rows_in is ∙ map-append (λ (l : LiveRow). l.row) front (x ∷ rest)

rows_push : (front : List LiveRow) (x : LiveRow) → rows_in (front ++ x ∷ []) ≡ rows_in front ++ x.row ∷ []
rows_push front x = map-append (λ (l : LiveRow). l.row) front (x ∷ [])

-- one row more of a manifest
pub row_next : (schema : ColumnTrees) (partition : List (List ℕ)) (rows : List FileRow) (front : List LiveRow) (x : LiveRow) (t : Table) → IsTableOfRows schema partition ((rows ++ rows_in front) ++ x.row ∷ []) t
    → IsTableOfRows schema partition (rows ++ rows_in (front ++ x ∷ [])) t
row_next schema partition rows front x t is = subst (λ l. IsTableOfRows schema partition l t) (append_assoc rows (rows_in front) (x.row ∷ []) ∙ ap (λ l. rows ++ l) (sym (rows_push front x))) is

pub row_stops : (rows : List FileRow) (live front rest : List LiveRow) (x : LiveRow) → live ≡ front ++ x ∷ rest → (HasDistinctPaths ((rows ++ rows_in front) ++ x.row ∷ rows_in rest) → ⊥) → HasDistinctPaths (rows ++ rows_in live) → ⊥
row_stops rows live front rest x is none distinct =
    none (subst HasDistinctPaths (ap (λ l. rows ++ l) (rows_split live front rest x is) ∙ sym (append_assoc rows (rows_in front) (x.row ∷ rows_in rest))) distinct)
