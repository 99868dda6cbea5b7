-- The set of a table's rows, against the list of its rows.
use Rattle.std.proofs.Common.{◌≡◌, ℕ, ◌||◌, Bool, true, false, cond, List, [], ◌∷◌, ◌++◌, get_or, position, Option, None, Some, is_some, if◌then◌else◌, refl, sym, ap, ◌∙◌, ⊎_elim, arith, IsPermutation}
use Rattle.std.proofs.lemmas.Bool.{cases_Bool, cond-false, false≢true}
use Rattle.std.proofs.lemmas.Cmp.{nat_list_eq_equiv, on_equiv}
use Rattle.std.proofs.lemmas.List.{get_or_default}
use Rattle.std.proofs.lemmas.List.Quantifiers.{position-Some}
use Rattle.std.proofs.lemmas.List.Sorted.{Contains-permutation, IsPermutation-map, IsPermutation-swap_remove, IsPermutation-sym}
use Rattle.std.proofs.lemmas.Map.Keys.{IsDistinct-IsPermutation}
use Rattle.std.proofs.lemmas.Slice.Eq.{bytes_eq-Decides}
use Rattle.std.specs.Cmp.{IsEquivalence}
use Rattle.std.specs.List.{IsDistinct, AllByRecursion, find, list_any, swap_remove}
use Rattle.std.specs.Option.{option_map_or}
use Rattle.std.specs.Set.{swap_key}
use Rattle.std.specs.Str.{bytes_eq}
use Rattle.indexmap.proofs.MapLemmas.{swap_remove-default}
use Rattle.indexmap.specs.IndexMap.{swap_remove_by}
use Rattle.indexmap.specs.IndexSet.{insert_key, replace_key}
use Rattle.table_history.specs.declared.row.FileRow.{FileRow}
use Rattle.table_history.specs.Rows.{row_at, HasPath, HasDistinctPaths, paths_of}
use Rattle.table_history.specs.RowSet.{same_path}
use Rattle.table_history.proofs.RowListLemmas.{row_at-found, row_at-none, row_at-lacks, row_at-itself}

pub path_laws : IsEquivalence same_path
path_laws = on_equiv (λ r. r.path) nat_list_eq_equiv

abbrev pub has_path : List ℕ → FileRow → Bool
has_path path r = bytes_eq path r.path

-- ---- look-ups
pub row_at-find : (rows : List FileRow) (path : List ℕ) → find (has_path path) rows ≡ row_at rows path
row_at-find [] path = refl
row_at-find (r ∷ rows) path = ap (cond (bytes_eq path r.path) (Some r)) (row_at-find rows path)

row_at-any : (rows : List FileRow) (path : List ℕ) → list_any (has_path path) rows ≡ is_some (row_at rows path)
row_at-any [] path = refl
row_at-any (r ∷ rows) path =
    ⊎_elim
    (λ y. rw y refl)
    (λ n. rw n (row_at-any rows path))
    (cases_Bool (bytes_eq path r.path))

-- ---- distinct paths
all_paths : (path : List ℕ) (rows : List FileRow) → AllByRecursion (λ r. bytes_eq path r.path ≡ false) rows → AllByRecursion (λ p. bytes_eq path p ≡ false) (paths_of rows)
all_paths path [] h = h
all_paths path (r ∷ rows) h = (h.0, all_paths path rows h.1)

pub distinct_paths : (rows : List FileRow) → IsDistinct same_path rows → HasDistinctPaths rows
unfolding IsDistinct
distinct_paths [] h = h
distinct_paths (r ∷ rows) h = (all_paths r.path rows h.0, distinct_paths rows h.1)

-- ---- a row that is put in
pub insert_key-held : (rows : List FileRow) (row : FileRow) → list_any (same_path row) rows ≡ true → HasPath rows row.path × (insert_key same_path rows row ≡ rows)
insert_key-held rows row held = (there (row_at rows row.path) refl, ap (λ b. if b then rows else rows ++ row ∷ []) held)
  where
    there : (found : Option FileRow) → row_at rows row.path ≡ found → HasPath rows row.path
    there None e = absurd (false≢true (sym (ap is_some e) ∙ sym (row_at-any rows row.path) ∙ held))
    there (Some r) e =
        let at = row_at-found rows row.path r e in
        (r, at.0, at.1)

replace_step : (a b : Bool) (k r : FileRow) (rs swapped pushed : List FileRow)
    → (if (a || b) then cond a (k ∷ rs) (r ∷ swapped) else r ∷ pushed) ≡ cond a (k ∷ rs) (r ∷ (if b then swapped else pushed))
replace_step true b k r rs swapped pushed = refl
replace_step false true k r rs swapped pushed = refl
replace_step false false k r rs swapped pushed = refl

either : (b : Bool) (k r : FileRow) (x : Option FileRow) → cond b (Some k) x ≡ cond b (Some k) (cond b (Some r) x)
either true k r x = refl
either false k r x = refl

swapped : (a b : Bool) (k r : FileRow) (x : Option FileRow) → (a ≡ true → b ≡ true → ⊥) → cond a (Some r) (cond b (Some k) x) ≡ cond b (Some k) (cond a (Some r) x)
swapped true true k r x apart = absurd (apart refl refl)
swapped true false k r x apart = refl
swapped false true k r x apart = refl
swapped false false k r x apart = refl

pub row_at-replace : (rows : List FileRow) (row : FileRow) (q : List ℕ) → row_at (replace_key same_path rows row) q ≡ cond (bytes_eq q row.path) (Some row) (row_at rows q)
row_at-replace [] row q = refl
row_at-replace (r ∷ rows) row q =
    ap (λ l. row_at l q) (replace_step (same_path row r) (list_any (same_path row) rows) row r rows (swap_key (same_path row) rows row) (rows ++ row ∷ []))
    ∙ ⊎_elim
    (λ y.
    let same : row.path ≡ r.path = (bytes_eq-Decides row.path r.path).0 y in
    rw y (either (bytes_eq q row.path) row r (row_at rows q) ∙ ap (λ p. cond (bytes_eq q row.path) (Some row) (cond (bytes_eq q p) (Some r) (row_at rows q))) same))
    (λ n.
    rw n (
    ap (cond (bytes_eq q r.path) (Some r)) (row_at-replace rows row q)
    ∙ swapped (bytes_eq q r.path) (bytes_eq q row.path) row r (row_at rows q) (λ at_r at_row.
    false≢true (sym n ∙ (bytes_eq-Decides row.path r.path).1 (sym ((bytes_eq-Decides q row.path).0 at_row) ∙ (bytes_eq-Decides q r.path).0 at_r)))
    ))
    (cases_Bool (bytes_eq row.path r.path))

-- ---- a row that is taken out
row_at-permutation : (xs ys : List FileRow) → IsPermutation xs ys → HasDistinctPaths ys → (q : List ℕ) → row_at ys q ≡ row_at xs q
row_at-permutation xs ys moved distinct q = by (row_at xs q) refl
  where
    by : (found : Option FileRow) → row_at xs q ≡ found → row_at ys q ≡ found
    by None e = row_at-lacks ys q (λ there. row_at-none xs q e (there.0, Contains-permutation ys xs there.0 (IsPermutation-sym xs ys moved) there.1, there.2))
    by (Some r) e =
        let found = row_at-found xs q r e in
        ap (row_at ys) (sym found.1) ∙ row_at-itself ys r distinct (Contains-permutation xs ys r moved found.0)

absent : (rows : List FileRow) (path : List ℕ) → list_any (has_path path) rows ≡ false → row_at rows path ≡ None
absent rows path none = by (row_at rows path) (sym (row_at-any rows path) ∙ none)
  where
    by : (found : Option FileRow) → is_some found ≡ false → found ≡ None
    by None e = refl
    by (Some r) e = absurd (false≢true (sym e))

-- a row of another path stays
others : (rows : List FileRow) (path : List ℕ) → HasDistinctPaths rows → (q : List ℕ) → bytes_eq path q ≡ false → row_at (swap_remove_by (has_path path) rows) q ≡ row_at rows q
others [] path distinct q n = refl
others (r ∷ rows) path distinct q n = by (position (has_path path) (r ∷ rows)) refl
  where
    by : (place : Option ℕ) → position (has_path path) (r ∷ rows) ≡ place → row_at (swap_remove_by (has_path path) (r ∷ rows)) q ≡ row_at (r ∷ rows) q
    by None e = ap (λ o. row_at (option_map_or (λ k. swap_remove (r ∷ rows) k r) o (r ∷ rows)) q) e
    by (Some i) e =
        let all = r ∷ rows in
        let at = position-Some (has_path path) all i r e in
        let x = get_or all i r in
        let out = swap_remove all i x in
        let moved : IsPermutation all (x ∷ out) = IsPermutation-swap_remove all i x at.0 (get_or_default all i r x at.0) in
        let apart : HasDistinctPaths (x ∷ out) = IsDistinct-IsPermutation bytes_eq nat_list_eq_equiv.symm (paths_of all) (paths_of (x ∷ out)) (IsPermutation-map (λ (w : FileRow). w.path) all (x ∷ out) moved) distinct in
        let other : bytes_eq q x.path ≡ false = ap (bytes_eq q) (sym ((bytes_eq-Decides path x.path).0 at.1)) ∙ nat_list_eq_equiv.symm q path ∙ n in
        ap (λ o. row_at (option_map_or (λ k. swap_remove all k r) o all) q) e
        ∙ ap (λ l. row_at l q) (swap_remove-default all i r x (omega arith))
        ∙ sym (cond-false (bytes_eq q x.path) (Some x) (row_at out q) other)
        ∙ row_at-permutation all (x ∷ out) moved apart q

pub row_at-swap_remove : (rows new : List FileRow) (path : List ℕ) → new ≡ swap_remove_by (has_path path) rows → list_any (has_path path) new ≡ false → HasDistinctPaths rows
    → (q : List ℕ) → row_at new q ≡ cond (bytes_eq path q) None (row_at rows q)
row_at-swap_remove rows new path is none distinct q =
    ⊎_elim
    (λ y. rw y (ap (row_at new) (sym ((bytes_eq-Decides path q).0 y)) ∙ absent new path none))
    (λ n. rw n (ap (λ l. row_at l q) is ∙ others rows path distinct q n))
    (cases_Bool (bytes_eq path q))
