-- Tables that share rows, from what each has besides.
use Rattle.std.proofs.Common.{◌≡◌, ◌+◌, ℕ, List, [], ◌∷◌, ◌++◌, Contains, length, false, refl, sym, ap, subst, ◌∙◌, ⊎_elim, append_assoc, arith}
use Rattle.std.specs.List.Sorted.{IsPermutation}
use Rattle.std.specs.Str.{bytes_eq}
use Rattle.std.proofs.lemmas.Bool.{false≢true}
use Rattle.std.proofs.lemmas.Cmp.{nat_list_eq_equiv}
use Rattle.std.proofs.lemmas.List.{length-append}
use Rattle.std.proofs.lemmas.List.Elements.{Contains-append_left, Contains-append_right, Contains-append_cases}
use Rattle.std.proofs.lemmas.List.Sorted.{IsPermutation-append, IsPermutation-append_comm, IsPermutation-map, IsPermutation-refl, IsPermutation-sym, Contains-permutation, length_permutation}
use Rattle.std.proofs.lemmas.Map.Keys.{IsDistinct-IsPermutation, IsDistinct-cons, IsDistinct-head, IsDistinct-tail}
use Rattle.std.proofs.lemmas.Slice.Eq.{bytes_eq-Decides}
use Rattle.table_history.specs.Rows.{HasDistinctPaths, HasPath, SameRows, paths_of}
use Rattle.table_history.specs.Tables.{IsDiff}
use Rattle.table_history.specs.declared.row.FileRow.{FileRow}
use Rattle.table_history.proofs.Laws.{change_of_same_rows, same_rows_length}
use Rattle.table_history.proofs.RowListLemmas.{Contains-cases, Contains-head, Contains-none, Contains-paths, Contains-tail, all_at, all_from}
use Rattle.table_history.proofs.TableLemmas.{Contains-paths_cases}
use Rattle.table_history.proofs.SameTableLemmas.{rows_back}
use Rattle.iceberg_change.specs.Behind.{AreApart}
use Rattle.lake_basics.proofs.Texts.{bytes_differ}
use Rattle.iceberg_table.proofs.RowLaws.{distinct_front}

-- ---- distinct paths

head_apart : (x : FileRow) (rows : List FileRow) (row : FileRow) → HasDistinctPaths (x ∷ rows) → Contains rows row → x.path ≡ row.path → ⊥
head_apart x rows row distinct there same =
    let apart : bytes_eq x.path row.path ≡ false = all_at (λ y. bytes_eq x.path y ≡ false) (paths_of rows) row.path (IsDistinct-head bytes_eq x.path (paths_of rows) distinct) (Contains-paths rows row there) in
    false≢true (sym apart ∙ (bytes_eq-Decides x.path row.path).1 same)

pub parts_apart : (xs ys : List FileRow) → HasDistinctPaths (xs ++ ys) → AreApart xs ys
parts_apart [] ys distinct x y hx hy same = Contains-none x hx
parts_apart (w ∷ xs) ys distinct x y hx hy same =
    ⊎_elim
    (λ is. head_apart w (xs ++ ys) y distinct (Contains-append_right xs ys y hy) (ap (λ (r : FileRow). r.path) is ∙ same))
    (λ later. parts_apart xs ys (IsDistinct-tail bytes_eq w.path (paths_of (xs ++ ys)) distinct) x y later hy same)
    (Contains-cases w xs x hx)

pub distinct_back : (xs ys : List FileRow) → HasDistinctPaths (xs ++ ys) → HasDistinctPaths ys
distinct_back [] ys distinct = distinct
distinct_back (x ∷ xs) ys distinct = distinct_back xs ys (IsDistinct-tail bytes_eq x.path (paths_of (xs ++ ys)) distinct)

pub distinct_moved : (xs ys : List FileRow) → IsPermutation xs ys → HasDistinctPaths xs → HasDistinctPaths ys
distinct_moved xs ys moved distinct = IsDistinct-IsPermutation bytes_eq nat_list_eq_equiv.symm _ _ (IsPermutation-map (λ (r : FileRow). r.path) xs ys moved) distinct

pub same_moved : (xs ys : List FileRow) → IsPermutation xs ys → SameRows xs ys
same_moved xs ys moved row = (λ h. Contains-permutation xs ys row moved h, λ h. Contains-permutation ys xs row (IsPermutation-sym xs ys moved) h)

pub distinct_both : (xs ys : List FileRow) → HasDistinctPaths xs → HasDistinctPaths ys → AreApart xs ys → HasDistinctPaths (xs ++ ys)
distinct_both [] ys dx dy apart = dy
distinct_both (x ∷ xs) ys dx dy apart =
    IsDistinct-cons bytes_eq x.path (paths_of (xs ++ ys))
    (all_from (λ p. bytes_eq x.path p ≡ false) (paths_of (xs ++ ys)) (λ p there.
    let found = Contains-paths_cases (xs ++ ys) p there in
    bytes_differ x.path p (λ is. ⊎_elim (λ one. head_apart x xs found.0 dx one (is ∙ sym found.2)) (λ other. apart x found.0 (Contains-head x xs) other (is ∙ sym found.2)) (Contains-append_cases xs ys found.0 found.1))))
    (distinct_both xs ys (IsDistinct-tail bytes_eq x.path (paths_of xs) dx) dy (λ a b ha hb same. apart a b (Contains-tail x xs a ha) hb same))

-- ---- rows in two parts

pub same_both : (xs ys us vs : List FileRow) → SameRows xs ys → SameRows us vs → SameRows (xs ++ us) (ys ++ vs)
same_both xs ys us vs one two row = (
  λ h. ⊎_elim (λ a. Contains-append_left ys vs row ((one row).0 a)) (λ b. Contains-append_right ys vs row ((two row).0 b)) (Contains-append_cases xs us row h),
  λ h. ⊎_elim (λ a. Contains-append_left xs us row ((one row).1 a)) (λ b. Contains-append_right xs us row ((two row).1 b)) (Contains-append_cases ys vs row h),
)

pub same_further : (xs ys zs : List FileRow) → SameRows xs ys → SameRows ys zs → SameRows xs zs
same_further xs ys zs one two row = (λ h. (two row).0 ((one row).0 h), λ h. (one row).1 ((two row).1 h))

-- What differs between two tables is what differs between their rows besides those that they share.
pub diff_beside : (kept went came : List FileRow) (removed : List (List ℕ)) (added : List FileRow) → AreApart kept went → AreApart kept came → IsDiff went came removed added → IsDiff (kept ++ went) (kept ++ came) removed added
diff_beside kept went came removed added old new d = record {
  removed_paths = λ path. (
    λ h.
        let lost = (d.removed_paths path).0 h in
        (lost.0, Contains-append_right kept went lost.0 lost.1, (λ there. ⊎_elim (λ k. old lost.0 lost.0 k lost.1 refl) (λ c. lost.2 c) (Contains-append_cases kept came lost.0 there)), lost.3),
    λ lost.
        (d.removed_paths path).1
        (lost.0, ⊎_elim (λ k. absurd (lost.2 (Contains-append_left kept came lost.0 k))) (λ w. w) (Contains-append_cases kept went lost.0 lost.1), (λ c. lost.2 (Contains-append_right kept came lost.0 c)), lost.3),
  );
  added_rows = λ row. (
    λ h.
        let more = (d.added_rows row).0 h in
        (Contains-append_right kept came row more.0, λ was. ⊎_elim (λ k. new row row k more.0 refl) (λ w. more.1 w) (Contains-append_cases kept went row was)),
    λ more.
        (d.added_rows row).1
        (⊎_elim (λ k. absurd (more.1 (Contains-append_left kept went row k))) (λ c. c) (Contains-append_cases kept came row more.0), λ w. more.1 (Contains-append_right kept went row w)),
  );
  removed_order = d.removed_order;
  added_order = d.added_order;
}

-- ---- one snapshot behind another

-- Of the rows that were held those that stay, and those that go; those that came; and the rows from before that weren't held.
module _ (before held start kept left came all : List FileRow)
    (same : SameRows before (held ++ start)) (distinct : HasDistinctPaths (held ++ start)) (split : IsPermutation held (kept ++ left)) (whole : IsPermutation all (kept ++ came)) where
  moved : IsPermutation (held ++ start) (kept ++ (left ++ start))
  moved = subst (IsPermutation (held ++ start)) (append_assoc kept left start) (IsPermutation-append held (kept ++ left) start start split (IsPermutation-refl start))

  pub parts_distinct : HasDistinctPaths (kept ++ (left ++ start))
  parts_distinct = distinct_moved (held ++ start) (kept ++ (left ++ start)) moved distinct

  pub before_parts : SameRows before (kept ++ (left ++ start))
  before_parts = same_further before (held ++ start) (kept ++ (left ++ start)) same (same_moved (held ++ start) (kept ++ (left ++ start)) moved)

  module _ (went : List FileRow) (gone : SameRows went (start ++ left)) (own : HasDistinctPaths went) (new : HasDistinctPaths came) (free : (row : FileRow) → Contains came row → HasPath before row.path → HasPath went row.path) where
    went_is : SameRows went (left ++ start)
    went_is = same_further went (start ++ left) (left ++ start) gone (same_moved (start ++ left) (left ++ start) (IsPermutation-append_comm start left))

    kept_apart : AreApart kept (left ++ start)
    kept_apart = parts_apart kept (left ++ start) parts_distinct

    came_apart : AreApart kept came
    came_apart x y hx hy is =
        let there = free y hy (x, (before_parts x).1 (Contains-append_left kept (left ++ start) x hx), is) in
        kept_apart x there.0 hx ((went_is there.0).0 there.1) (is ∙ sym there.2)

    pub all_distinct : HasDistinctPaths all
    all_distinct = distinct_moved (kept ++ came) all (IsPermutation-sym all (kept ++ came) whole) (distinct_both kept came (distinct_front kept (left ++ start) parts_distinct) new came_apart)

    -- there are as many as before, less those that went, and those that came besides
    pub all_length : HasDistinctPaths before → length went + length all ≡ length before + length came
    all_length was =
        let a = same_rows_length before (kept ++ (left ++ start)) was parts_distinct before_parts in
        let b = same_rows_length went (left ++ start) own (distinct_back kept (left ++ start) parts_distinct) went_is in
        let c = length_permutation all (kept ++ came) whole in
        let d = length-append kept (left ++ start) in
        let e = length-append kept came in omega (arith, a, b, c, d, e)

    pub all_diff : (after : List FileRow) → SameRows after came → (removed : List (List ℕ)) (added : List FileRow) → IsDiff went after removed added → IsDiff before all removed added
    all_diff after is removed added d =
        let parts = diff_beside kept (left ++ start) came removed added kept_apart came_apart (change_of_same_rows went (left ++ start) after came removed added went_is is d) in
        change_of_same_rows (kept ++ (left ++ start)) before (kept ++ came) all removed added (rows_back before (kept ++ (left ++ start)) before_parts) (same_moved (kept ++ came) all (IsPermutation-sym all (kept ++ came) whole)) parts
