-- Changes of tables, and the change between two.
use Rattle.std.proofs.Common.{◌≡◌, ◌↔◌, ℕ, Bool, true, false, cond, List, [], ◌∷◌, Option, None, Some, Contains, refl, sym, ap, subst, ◌∙◌, ◌⊎◌, inl, inr, ⊎_elim, arith}
use Rattle.std.specs.Cmp.Lexicographic.{slice_cmp, texts_ties}
use Rattle.std.specs.List.{list_any, IsDistinct, AllByRecursion}
use Rattle.std.specs.Ordering.{nat_cmp, eq_by_cmp}
use Rattle.std.proofs.lemmas.Map.Keys.{IsDistinct-from_sorted, IsDistinct-from_apart, IsDistinct-cons, IsDistinct-head, IsDistinct-tail}
use Rattle.std.specs.Option.{option_or}
use Rattle.std.specs.Str.{bytes_eq}
use Rattle.std.proofs.lemmas.Bool.{cases_Bool, false≢true}
use Rattle.std.proofs.lemmas.Cmp.{nat_list_eq_equiv}
use Rattle.std.proofs.lemmas.Map.Views.{list_any-from_Contains}
use Rattle.table_history.specs.declared.row.FileRow.{FileRow}
use Rattle.table_history.specs.Rows.{row_at, paths_of, HasPath, HasDistinctPaths, IsInByteOrder, IsInPathOrder}
use Rattle.table_history.specs.Tables.{IsRowAfter, IsDiff}
use Rattle.table_history.proofs.RowListLemmas.{row_at-found, row_at-itself, is_in, is_in-Decides, Contains-none, Contains-cases, Contains-head, Contains-tail, Contains-paths}
use Rattle.lake_basics.proofs.Texts.{contains_from_any}

-- ---- the rows after a change
module _ (old new added : List FileRow) (removed : List (List ℕ))
    (old_distinct : HasDistinctPaths old) (new_distinct : HasDistinctPaths new) (added_distinct : HasDistinctPaths added)
    (added_new : (row : FileRow) → Contains added row → HasPath old row.path → Contains removed row.path)
    (lookups : (p : List ℕ) → row_at new p ≡ option_or (row_at added p) (cond (list_any (bytes_eq p) removed) None (row_at old p))) where
  from_new : (row : FileRow) (a : Option FileRow) (b : Bool) → row_at added row.path ≡ a → list_any (bytes_eq row.path) removed ≡ b
      → option_or a (cond b None (row_at old row.path)) ≡ Some row → IsRowAfter old removed added row
  from_new row (Some r) b e f g = let same : r ≡ row = cc in inl (subst (Contains added) same (row_at-found added row.path r e).0)
  from_new row None true e f g = absurd cc
  from_new row None false e f g = inr ((row_at-found old row.path row g).0, λ gone. false≢true (sym f ∙ list_any-from_Contains nat_list_eq_equiv row.path removed gone))

  kept : (row : FileRow) → Contains old row → (Contains removed row.path → ⊥) → (a : Option FileRow) → row_at added row.path ≡ a → row_at new row.path ≡ Some row
  kept row there stays (Some r) e =
      let found = row_at-found added row.path r e in
      absurd (stays (subst (Contains removed) found.1 (added_new r found.0 (row, there, sym found.1))))
  kept row there stays None e =
      lookups row.path ∙ ap (λ a. option_or a (cond (list_any (bytes_eq row.path) removed) None (row_at old row.path))) e
      ∙ ⊎_elim
      (λ t. absurd (stays (contains_from_any row.path removed t)))
      (λ f. ap (λ b. cond b None (row_at old row.path)) f ∙ row_at-itself old row old_distinct there)
      (cases_Bool (list_any (bytes_eq row.path) removed))

  pub rows_after : (row : FileRow) → Contains new row ↔ IsRowAfter old removed added row
  rows_after row = (
    λ there. from_new row _ _ refl refl (sym (lookups row.path) ∙ row_at-itself new row new_distinct there),
    λ h.
        ⊎_elim
        (λ a. (row_at-found new row.path row (lookups row.path ∙ ap (λ w. option_or w (cond (list_any (bytes_eq row.path) removed) None (row_at old row.path))) (row_at-itself added row added_distinct a))).0)
        (λ o. (row_at-found new row.path row (kept row o.0 o.1 _ refl)).0)
        h,
  )

-- ---- a change between two tables
pub Contains-paths_cases : (rows : List FileRow) (path : List ℕ) → Contains (paths_of rows) path → HasPath rows path
Contains-paths_cases [] path h = absurd (Contains-none path h)
Contains-paths_cases (r ∷ rows) path h =
    ⊎_elim
    (λ e. (r, Contains-head r rows, e))
    (λ later. let rest = Contains-paths_cases rows path later in (rest.0, Contains-tail r rows rest.0 rest.1, rest.2))
    (Contains-cases r.path (paths_of rows) path h)

pub there_or_not : (rows : List FileRow) (row : FileRow) → Contains rows row ⊎ (Contains rows row → ⊥)
there_or_not rows row =
    ⊎_elim
    (λ t. inl ((is_in-Decides rows row).0 t))
    (λ n. inr (λ there. false≢true (sym n ∙ (is_in-Decides rows row).1 there)))
    (cases_Bool (is_in rows row))

-- what each lacks of the other makes the change
pub diff : (before after lost new : List FileRow) (removed : List (List ℕ)) (added : List FileRow)
    → ((row : FileRow) → Contains lost row ↔ (Contains before row × (Contains after row → ⊥)))
    → ((row : FileRow) → Contains new row ↔ (Contains after row × (Contains before row → ⊥)))
    → IsInPathOrder lost → IsInPathOrder new → removed ≡ paths_of lost → added ≡ new → IsDiff before after removed added
diff before after lost new removed added lost_is new_is lost_order new_order r a = record {
  removed_paths = λ path. (
    λ h.
        let there = Contains-paths_cases lost path (subst (λ l. Contains l path) r h) in
        let is = (lost_is there.0).0 there.1 in (there.0, is.0, is.1, there.2),
    λ h. subst (λ l. Contains l path) (sym r) (subst (Contains (paths_of lost)) h.3 (Contains-paths lost h.0 ((lost_is h.0).1 (h.1, h.2)))),
  );
  added_rows = λ row. (λ h. (new_is row).0 (subst (λ l. Contains l row) a h), λ h. subst (λ l. Contains l row) (sym a) ((new_is row).1 h));
  removed_order = subst IsInByteOrder (sym r) lost_order;
  added_order = subst IsInPathOrder (sym a) new_order;
}

-- ---- laws of the change between two tables
-- a list in byte order has no text twice
pub distinct_order : (texts : List (List ℕ)) → IsInByteOrder texts → IsDistinct bytes_eq texts
distinct_order texts order = IsDistinct-same texts (IsDistinct-from_sorted (slice_cmp nat_cmp) texts order)
  where
    AllByRecursion-same : (x : List ℕ) (ys : List (List ℕ)) → AllByRecursion (λ y. eq_by_cmp (slice_cmp nat_cmp) x y ≡ false) ys → AllByRecursion (λ y. bytes_eq x y ≡ false) ys
    AllByRecursion-same x [] h = h
    AllByRecursion-same x (y ∷ ys) h = (texts_ties x y ∙ h.0, AllByRecursion-same x ys h.1)

    IsDistinct-same : (xs : List (List ℕ)) → IsDistinct (eq_by_cmp (slice_cmp nat_cmp)) xs → IsDistinct bytes_eq xs
    IsDistinct-same [] h = IsDistinct-from_apart bytes_eq [] (λ i j d _ within. absurd (omega arith))
    IsDistinct-same (x ∷ xs) h =
        IsDistinct-cons bytes_eq x xs (AllByRecursion-same x xs (IsDistinct-head _ x xs h)) (IsDistinct-same xs (IsDistinct-tail _ x xs h))

-- two rows of one path are one
pub same_path : (rows : List FileRow) → HasDistinctPaths rows → (r s : FileRow) → Contains rows r → Contains rows s → r.path ≡ s.path → r ≡ s
same_path rows distinct r s has_r has_s e =
    let same : Some r ≡ Some s = sym (row_at-itself rows r distinct has_r) ∙ ap (row_at rows) e ∙ row_at-itself rows s distinct has_s in cc

module _ (before after : List FileRow) (removed : List (List ℕ)) (added : List FileRow) (d : IsDiff before after removed added)
    (before_distinct : HasDistinctPaths before) (after_distinct : HasDistinctPaths after) where
  -- the change may be made
  pub diff_removed_there : (path : List ℕ) → Contains removed path → HasPath before path
  diff_removed_there path h = let lost = (d.removed_paths path).0 h in (lost.0, lost.1, lost.3)

  pub diff_added_new : (row : FileRow) → Contains added row → HasPath before row.path → Contains removed row.path
  diff_added_new row h held =
      let new = (d.added_rows row).0 h in
      (d.removed_paths row.path).1 (held.0, held.1, (λ stays. new.1 (subst (Contains before) (same_path after after_distinct held.0 row stays new.0 held.2) held.1)), held.2)

  pub diff_removed_distinct : IsDistinct bytes_eq removed
  diff_removed_distinct = distinct_order removed d.removed_order

  pub diff_added_distinct : HasDistinctPaths added
  diff_added_distinct = distinct_order (paths_of added) d.added_order

  -- and it leads to the rows after
  pub diff_leads : (row : FileRow) → IsRowAfter before removed added row ↔ Contains after row
  diff_leads row = (
    λ h.
        ⊎_elim
        (λ new. ((d.added_rows row).0 new).0)
        (λ kept. ⊎_elim (λ there. there) (λ gone. absurd (kept.1 ((d.removed_paths row.path).1 (row, kept.0, gone, refl)))) (there_or_not after row))
        h,
    λ there.
        ⊎_elim
        (λ was. inr (
          was,
          λ gone.
              let lost = (d.removed_paths row.path).0 gone in
              lost.2 (subst (Contains after) (sym (same_path before before_distinct lost.0 row lost.1 was lost.3)) there),
        ))
        (λ fresh. inl ((d.added_rows row).1 (there, fresh)))
        (there_or_not before row),
  )
