-- The rows after an instant have distinct paths, and the change of the groups that it touches is the change of all rows.
use Rattle.std.proofs.Common.{◌≡◌, ℕ, ◌+◌, ◌≤◌, Bool, true, false, not, ◌||◌, List, [], ◌∷◌, ◌++◌, length, filter, reverse, Contains, refl, sym, ap, subst, ◌∙◌, ⊎_elim, arith}
use Rattle.std.specs.List.{list_any, IsDistinct, AllByRecursion}
use Rattle.std.specs.Str.{bytes_eq}
use Rattle.std.proofs.lemmas.Bool.{cases_Bool, cond-true, cond-false, false≢true}
use Rattle.std.proofs.lemmas.Cmp.{nat_list_eq_equiv}
use Rattle.std.proofs.lemmas.List.{length-append}
use Rattle.std.proofs.lemmas.List.Elements.{Contains-append_left, Contains-append_right, Contains-append_cases, filter_agree}
use Rattle.std.proofs.lemmas.List.Filters.{length-filter_both}
use Rattle.std.proofs.lemmas.List.Sorted.{IsPermutation-reverse, IsPermutation-map, IsPermutation-sym, Contains-permutation}
use Rattle.std.proofs.lemmas.Map.Keys.{IsDistinct-cons, IsDistinct-head, IsDistinct-tail, IsDistinct-IsPermutation}
use Rattle.std.proofs.lemmas.Slice.Eq.{bytes_eq-Decides}
use Rattle.table_history.specs.Rows.{HasDistinctPaths, SameRows, paths_of}
use Rattle.table_history.specs.Tables.{IsDiff}
use Rattle.table_history.specs.declared.row.FileRow.{FileRow}
use Rattle.table_history.proofs.Laws.{same_rows_length}
use Rattle.table_history.proofs.RowListLemmas.{Contains-none, Contains-head, Contains-tail, Contains-cases, Contains-filter, filter_contains, distinct_filter}
use Rattle.hudi_groups.specs.declared.form.Form.{Form}
use Rattle.hudi_groups.specs.Files.{group_name}
use Rattle.hudi_groups.specs.GroupSets.{Groups, has_group, is_row_of_group, names_group, newest_rows, is_touched, rows_after}
use Rattle.hudi_groups.proofs.AnyLemmas.{any_from}
use Rattle.hudi_groups.proofs.GroupSetLemmas.{group_has_row}
use Rattle.hudi_groups.proofs.NewestLemmas.{newest_there}
use Rattle.lake_basics.proofs.Texts.{bytes_differ}

-- ---- distinct paths

apart_paths : (path : List ℕ) (rows : List FileRow) → ((r : FileRow) → Contains rows r → path ≡ r.path → ⊥) → AllByRecursion (λ p. bytes_eq path p ≡ false) (paths_of rows)
apart_paths path [] none = tt
apart_paths path (r ∷ rs) none = (bytes_differ path r.path (none r (Contains-head r rs)), apart_paths path rs (λ s there. none s (Contains-tail r rs s there)))

pub distinct_none : HasDistinctPaths []
unfolding IsDistinct
distinct_none = tt

pub distinct_cons : (r : FileRow) (rows : List FileRow) → ((s : FileRow) → Contains rows s → r.path ≡ s.path → ⊥) → HasDistinctPaths rows → HasDistinctPaths (r ∷ rows)
distinct_cons r rows none d = IsDistinct-cons bytes_eq r.path (paths_of rows) (apart_paths r.path rows none) d

pub at_path : (P : List ℕ → Type 0) (rows : List FileRow) (s : FileRow) → AllByRecursion P (paths_of rows) → Contains rows s → P s.path
at_path P [] s all there = absurd (Contains-none s there)
at_path P (r ∷ rs) s all there = ⊎_elim (λ e. subst (λ (w : FileRow). P w.path) e all.0) (λ later. at_path P rs s all.1 later) (Contains-cases r rs s there)

pub distinct_append : (xs ys : List FileRow) → HasDistinctPaths xs → HasDistinctPaths ys → ((x y : FileRow) → Contains xs x → Contains ys y → x.path ≡ y.path → ⊥) → HasDistinctPaths (xs ++ ys)
distinct_append [] ys d e apart = e
distinct_append (x ∷ xs) ys d e apart =
    distinct_cons x (xs ++ ys)
    (λ s there same. ⊎_elim
    (λ in_xs. false≢true (sym (at_path (λ p. bytes_eq x.path p ≡ false) xs s (IsDistinct-head bytes_eq x.path (paths_of xs) d) in_xs) ∙ (bytes_eq-Decides x.path s.path).1 same))
    (λ in_ys. apart x s (Contains-head x xs) in_ys same)
    (Contains-append_cases xs ys s there))
    (distinct_append xs ys (IsDistinct-tail bytes_eq x.path (paths_of xs) d) e (λ a b in_a in_b. apart a b (Contains-tail x xs a in_a) in_b))

newest_distinct : (form : Form) (rows : List FileRow) → HasDistinctPaths (newest_rows form rows)
newest_distinct form [] = distinct_none
newest_distinct form (r ∷ rs) =
    let more : Bool = list_any (is_row_of_group form (group_name form r.path)) rs in
    ⊎_elim
    (λ yes. subst HasDistinctPaths (sym (cond-true more (newest_rows form rs) (r ∷ newest_rows form rs) yes)) (newest_distinct form rs))
    (λ no. subst HasDistinctPaths (sym (cond-false more (newest_rows form rs) (r ∷ newest_rows form rs) no))
    (distinct_cons r (newest_rows form rs)
    (λ s there e. false≢true (sym no ∙ any_from (is_row_of_group form (group_name form r.path)) rs s (newest_there form rs s there) (group_has_row form (group_name form r.path) s (ap (group_name form) e))))
    (newest_distinct form rs)))
    (cases_Bool more)

pub reversed_distinct : (form : Form) (rows : List FileRow) → HasDistinctPaths (reverse (newest_rows form rows))
reversed_distinct form rows =
    let newest = newest_rows form rows in
    IsDistinct-IsPermutation bytes_eq nat_list_eq_equiv.symm (paths_of newest) (paths_of (reverse newest)) (IsPermutation-map (λ (r : FileRow). r.path) newest (reverse newest) (IsPermutation-reverse newest)) (newest_distinct form rows)

module _ (form : Form) (replaced : List (List ℕ × List ℕ)) (before rows : List FileRow) where
  abbrev pub touched : FileRow → Bool
  touched r = is_touched form replaced rows (group_name form r.path)

  written_touched : (row : FileRow) → Contains rows row → (path : List ℕ) → path ≡ row.path → is_touched form replaced rows (group_name form path) ≡ true
  written_touched row there path e =
      ap (λ b. b || list_any (names_group (group_name form path)) replaced) (any_from (is_row_of_group form (group_name form path)) rows row there (group_has_row form (group_name form path) row (ap (group_name form) e)))

  pub new_there : (row : FileRow) → Contains (reverse (newest_rows form rows)) row → Contains rows row
  new_there row new = newest_there form rows row (Contains-permutation _ _ row (IsPermutation-sym _ _ (IsPermutation-reverse (newest_rows form rows))) new)

  pub rows_after_distinct : HasDistinctPaths before → HasDistinctPaths (rows_after form replaced before rows)
  rows_after_distinct d =
      distinct_append (filter (λ r. not (touched r)) before) (reverse (newest_rows form rows)) (distinct_filter (λ r. not (touched r)) before d) (reversed_distinct form rows)
      (λ a b in_a in_b same. false≢true (sym (ap not (written_touched b (new_there b in_b) a.path same)) ∙ (Contains-filter (λ r. not (touched r)) before a in_a).1))

  -- ---- the change of the touched groups is that of all rows
  pub diff_of_groups : (removed : List (List ℕ)) (added : List FileRow) → IsDiff (filter touched before) (reverse (newest_rows form rows)) removed added
      → IsDiff before (rows_after form replaced before rows) removed added
  diff_of_groups removed added d =
      let kept = filter (λ r. not (touched r)) before in
      let new = reverse (newest_rows form rows) in
      record {
        removed_paths = λ path. (
          λ h.
              let lost = (d.removed_paths path).0 h in
              let was = Contains-filter touched before lost.0 lost.1 in (
                lost.0,
                was.0,
                (λ stays. ⊎_elim (λ k. false≢true (sym (ap not was.1) ∙ (Contains-filter (λ r. not (touched r)) before lost.0 k).1)) (λ n. lost.2 n) (Contains-append_cases kept new lost.0 stays)),
                lost.3,
              ),
          λ lost.
              let t : touched lost.0 ≡ true =
              ⊎_elim (λ yes. yes) (λ no. absurd (lost.2 (Contains-append_left kept new lost.0 (filter_contains (λ r. not (touched r)) before lost.0 lost.1 (ap not no))))) (cases_Bool (touched lost.0)) in
              (d.removed_paths path).1 (lost.0, filter_contains touched before lost.0 lost.1 t, (λ n. lost.2 (Contains-append_right kept new lost.0 n)), lost.3),
        );
        added_rows = λ row. (
          λ h.
              let fresh = (d.added_rows row).0 h in
              (Contains-append_right kept new row fresh.0, λ was. fresh.1 (filter_contains touched before row was (written_touched row (new_there row fresh.0) row.path refl))),
          λ h.
              ⊎_elim (λ k. absurd (h.1 (Contains-filter (λ r. not (touched r)) before row k).0)) (λ n. (d.added_rows row).1 (n, λ was. h.1 (Contains-filter touched before row was).0)) (Contains-append_cases kept new row h.0),
        );
        removed_order = d.removed_order;
        added_order = d.added_order;
      }

  -- ---- how many rows there are
  pub length-rows_after : length (filter touched before) + length (rows_after form replaced before rows) ≡ length before + length (reverse (newest_rows form rows))
  length-rows_after =
      omega (arith, length-append (filter (λ r. not (touched r)) before) (reverse (newest_rows form rows)), length-filter_both touched (λ r. not (touched r)) (λ r. refl) before)

-- the rows of the groups of a set that has just the touched groups
pub old_rows : (form : Form) (replaced : List (List ℕ × List ℕ)) (before rows : List FileRow) (groups : Groups) (old : List FileRow)
    → ((q : List ℕ) → has_group groups q ≡ is_touched form replaced rows q)
    → SameRows old (filter (λ r. has_group groups (group_name form r.path)) before) → SameRows old (filter (touched form replaced before rows) before)
old_rows form replaced before rows groups old same is =
    subst (SameRows old) (filter_agree (λ r. has_group groups (group_name form r.path)) (touched form replaced before rows) (λ r. same (group_name form r.path)) before) is

pub old_length : (form : Form) (replaced : List (List ℕ × List ℕ)) (before rows old : List FileRow) → HasDistinctPaths before → HasDistinctPaths old
    → SameRows old (filter (touched form replaced before rows) before) → length old ≡ length (filter (touched form replaced before rows) before)
old_length form replaced before rows old distinct own same =
    same_rows_length old (filter (touched form replaced before rows) before) own (distinct_filter (touched form replaced before rows) before distinct) same

pub old_shorter : (form : Form) (replaced : List (List ℕ × List ℕ)) (before rows : List FileRow) → length (filter (touched form replaced before rows) before) ≤ length before
old_shorter form replaced before rows = omega (arith, length-filter_both (touched form replaced before rows) (λ r. not (touched form replaced before rows r)) (λ r. refl) before)
