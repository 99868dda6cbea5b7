-- Laws of rows, changes and schemas that every layer above needs.
use Rattle.std.proofs.Common.{◌≡◌, ℕ, List, [], Contains, length, true, ◌↔◌, map, refl, sym, subst, inl, inr, ⊎_elim, ◌∷◌, arith}
use Rattle.std.specs.List.{IsDistinct}
use Rattle.std.specs.List.Sorted.{IsPermutation}
use Rattle.std.specs.Str.{bytes_eq}
use Rattle.std.proofs.lemmas.List.Sorted.{length_permutation}
use Rattle.std.proofs.lemmas.Map.Keys.{IsDistinct-from_apart, IsDistinct-cons}
use Rattle.table_history.specs.Row.{Row}
use Rattle.table_history.specs.Rows.{HasDistinctPaths, HasPath, IsInByteOrder, SameRows}
use Rattle.table_history.specs.Sound.{have_own_names, names_of}
use Rattle.table_history.specs.Tables.{CanApply, IsAfter, IsDiff, LeadsTo}
use Rattle.table_history.specs.TypeTree.{ColumnTrees}
use Rattle.table_history.specs.declared.table.Table.{Table}
use Rattle.table_history.specs.declared.table.Change.{Change}
use Rattle.table_history.proofs.NameLemmas.{own_or_distinct}
use Rattle.table_history.proofs.OrderLemmas as order
use Rattle.table_history.proofs.OrderLemmas.{diff_added_same, diff_removed_same}
use Rattle.table_history.proofs.SameRowLemmas.{permuted}
use Rattle.table_history.proofs.RowListLemmas.{Contains-none, Contains-head, Contains-one}
use Rattle.table_history.proofs.TableLemmas.{diff_leads, diff_removed_distinct, diff_removed_there, diff_added_distinct, diff_added_new, there_or_not}

-- two tables of the same rows have them in another order at most
pub same_rows_permute : (xs ys : List Row) → HasDistinctPaths xs → HasDistinctPaths ys → SameRows xs ys → IsPermutation xs ys
same_rows_permute xs ys distinct distinct' same = permuted xs ys distinct distinct' same

-- so they have as many
pub same_rows_length : (xs ys : List Row) → HasDistinctPaths xs → HasDistinctPaths ys → SameRows xs ys → length xs ≡ length ys
same_rows_length xs ys distinct distinct' same = sym (length_permutation xs ys (permuted xs ys distinct distinct' same))

-- two lists of the same items, each in byte order of their keys, are one
pub in_order_same : {X : Type 0} (key : X → List ℕ) (xs ys : List X) → IsInByteOrder (map key xs) → IsInByteOrder (map key ys) → ((x : X) → Contains xs x ↔ Contains ys x) → xs ≡ ys
in_order_same key xs ys up up' same = order.in_order_same key xs ys up up' same

-- the columns have names of their own exactly where their names are distinct
pub own_names_distinct : (cs : ColumnTrees) → (have_own_names cs ≡ true) ↔ IsDistinct bytes_eq (names_of cs)
own_names_distinct cs = own_or_distinct cs

-- the tables before and after determine the removed paths and the added rows
pub change_determined : (before after : List Row) (removed removed' : List (List ℕ)) (added added' : List Row)
    → IsDiff before after removed added → IsDiff before after removed' added' → (removed ≡ removed') × (added ≡ added')
change_determined before after removed removed' added added' d e =
    (diff_removed_same before after removed removed' added added' d e, diff_added_same before after removed removed' added added' d e)

-- and they do so as sets of rows
pub change_of_same_rows : (before before' after after' : List Row) (removed : List (List ℕ)) (added : List Row)
    → SameRows before before' → SameRows after after' → IsDiff before after removed added → IsDiff before' after' removed added
change_of_same_rows before before' after after' removed added same same' d = record {
  removed_paths = λ path. (
    λ h. let lost = (d.removed_paths path).0 h in (lost.0, (same lost.0).0 lost.1, (λ stays. lost.2 ((same' lost.0).1 stays)), lost.3),
    λ lost. (d.removed_paths path).1 (lost.0, (same lost.0).1 lost.1, (λ stays. lost.2 ((same' lost.0).0 stays)), lost.3),
  );
  added_rows = λ row. (
    λ h. let new = (d.added_rows row).0 h in ((same' row).0 new.0, λ was. new.1 ((same row).1 was)),
    λ new. (d.added_rows row).1 ((same' row).1 new.0, λ was. new.1 ((same row).0 was)),
  );
  removed_order = d.removed_order;
  added_order = d.added_order;
}

-- the change of two tables leads from the first to the second
pub change_leads : (before after : List Row) (removed : List (List ℕ)) (added : List Row)
    → IsDiff before after removed added → HasDistinctPaths before → HasDistinctPaths after → LeadsTo before removed added after
change_leads before after removed added d distinct distinct' = diff_leads before after removed added d distinct distinct'

-- and may be applied to the first
pub change_fits : (before : Table) (after : List Row) (change : Change)
    → IsDiff before.rows after change.removed change.added → HasDistinctPaths before.rows → HasDistinctPaths after → CanApply before change
change_fits before after change d distinct distinct' = record {
  removed_distinct = diff_removed_distinct before.rows after change.removed change.added d distinct distinct';
  removed_there = diff_removed_there before.rows after change.removed change.added d distinct distinct';
  added_distinct = diff_added_distinct before.rows after change.removed change.added d distinct distinct';
  added_new = diff_added_new before.rows after change.removed change.added d distinct distinct';
}

-- what a table becomes by the change of two tables has the second's rows
pub change_applied : (before : Table) (after : List Row) (change : Change) (new : Table)
    → IsDiff before.rows after change.removed change.added → HasDistinctPaths before.rows → HasDistinctPaths after → IsAfter before change new → SameRows new.rows after
change_applied before after change new d distinct distinct' is row =
    let leads = change_leads before.rows after change.removed change.added d distinct distinct' row in
    (λ h. leads.0 ((is.rows row).0 h), λ h. (is.rows row).1 (leads.1 h))

-- a change makes the same rows of the same rows
pub same_rows_after : (old old' : Table) (change : Change) (new new' : Table)
    → SameRows old.rows old'.rows → IsAfter old change new → IsAfter old' change new' → SameRows new.rows new'.rows
same_rows_after old old' change new new' same is is' row = (
  λ h.
      (is'.rows row).1
      (⊎_elim (λ added. inl added) (λ kept. inr ((same row).0 kept.0, kept.1)) ((is.rows row).0 h)),
  λ h.
      (is.rows row).1
      (⊎_elim (λ added. inl added) (λ kept. inr ((same row).1 kept.0, kept.1)) ((is'.rows row).0 h)),
)

-- between the same rows there is no change
pub no_change : (before after : List Row) (removed : List (List ℕ)) (added : List Row)
    → SameRows before after → IsDiff before after removed added → (removed ≡ []) × (added ≡ [])
no_change before after removed added same d = (
  none_left removed (λ path h. let lost = (d.removed_paths path).0 h in lost.2 ((same lost.0).0 lost.1)),
  none_left added (λ row h. let new = (d.added_rows row).0 h in new.1 ((same row).1 new.0)),
)
  where
    none_left : {X : Type 0} (xs : List X) → ((x : X) → Contains xs x → ⊥) → xs ≡ []
    none_left [] none = refl
    none_left (x ∷ xs) none = absurd (none x (Contains-head x xs))

-- and where there is no change, the rows are the same
pub same_without_change : (before after : List Row) → IsDiff before after [] [] → SameRows before after
same_without_change before after d row = (
  λ was. ⊎_elim (λ there. there) (λ gone. absurd (Contains-none row.path ((d.removed_paths row.path).1 (row, was, gone, refl)))) (there_or_not after row),
  λ there. ⊎_elim (λ was. was) (λ fresh. absurd (Contains-none row ((d.added_rows row).1 (there, fresh)))) (there_or_not before row),
)

-- a row of a new path may be added
pub one_row_fits : (table : Table) (row : Row) (change : Change)
    → change.removed ≡ [] → change.added ≡ row ∷ [] → (HasPath table.rows row.path → ⊥) → CanApply table change
one_row_fits table row change none one new = record {
  removed_distinct = subst (IsDistinct bytes_eq) (sym none) (IsDistinct-from_apart bytes_eq [] (λ i j d _ within. absurd (omega arith)));
  removed_there = λ path h. absurd (Contains-none path (subst (λ l. Contains l path) none h));
  added_distinct =
      let single = IsDistinct-cons bytes_eq row.path [] tt (IsDistinct-from_apart bytes_eq [] (λ i j d _ within. absurd (omega arith))) in
      subst HasDistinctPaths (sym one) single;
  added_new = λ other h there.
      let same : row ≡ other = Contains-one row other (subst (λ l. Contains l other) one h) in
      absurd (new (subst (λ r. HasPath table.rows r.path) (sym same) there));
}
