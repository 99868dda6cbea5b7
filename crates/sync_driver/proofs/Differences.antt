-- The least path at which two lists of rows differ.
use Rattle.std.proofs.Common.{◌≡◌, ◌≢◌, ◌⊎◌, inl, inr, ⊎_elim, ℕ, List, [], ◌∷◌, Contains, Ordering, Less, Equal, Greater, nat_cmp, refl, sym, ap, subst, ◌∙◌}
use Rattle.std.specs.Cmp.Lexicographic.{slice_cmp}
use Rattle.std.specs.Ordering.{ordering_reverse}
use Rattle.std.specs.Prelude.{None, Some, slice_get}
use Rattle.std.proofs.lemmas.Cmp.{nat_list_cmp_total}
use Rattle.std.proofs.lemmas.List.Elements.{All-contains}
use Rattle.std.proofs.lemmas.Map.Views.{All-after_first}
use Rattle.table_history.specs.Rows.{IsInByteOrder, IsInPathOrder, paths_of}
use Rattle.table_history.specs.Tables.{IsDiff}
use Rattle.table_history.specs.declared.row.FileRow.{FileRow}
use Rattle.table_history.proofs.RowListLemmas.{Contains-cases, Contains-head, Contains-none, Contains-paths}
use Rattle.sync_driver.specs.Checked.{IsDifference, IsFirstDifference}

abbrev order : List ℕ → List ℕ → Ordering
order = slice_cmp nat_cmp

not_both : (x y : List ℕ) → order x y ≡ Less → order y x ≡ Less → ⊥
not_both x y a b = let wrong : Less ≡ Greater = sym a ∙ nat_list_cmp_total.antisymm x y ∙ ap ordering_reverse b in cc wrong

-- nothing in a sorted list is before its first
none_before : (first : List ℕ) (rest : List (List ℕ)) → IsInByteOrder (first ∷ rest) → (other : List ℕ) → Contains (first ∷ rest) other → order other first ≡ Less → ⊥
none_before first rest sorted other there less =
    ⊎_elim (λ (is : first ≡ other). not_both first first (subst (λ (p : List ℕ). order p first ≡ Less) (sym is) less) (subst (λ (p : List ℕ). order p first ≡ Less) (sym is) less))
    (λ (later : Contains rest other). not_both other first less (All-contains (λ q. order first q ≡ Less) rest other (All-after_first order first rest sorted) later))
    (Contains-cases first rest other there)

-- what isn't before the lesser of the two
pub not_before : (a b : List ℕ) → order a b ≢ Greater → (other : List ℕ) → (order other b ≡ Less → ⊥) → order other a ≡ Less → ⊥
not_before a b le other none less = cases (order a b) refl
  where
    cases : (o : Ordering) → o ≡ order a b → ⊥
    cases Less is = none (nat_list_cmp_total.trans other a b less (sym is))
    cases Equal is =
        let back : order a other ≡ Greater = nat_list_cmp_total.antisymm a other ∙ ap ordering_reverse less in
        let same : order b other ≡ Greater = sym (nat_list_cmp_total.congr a b other (sym is)) ∙ back in
        none (nat_list_cmp_total.antisymm other b ∙ ap ordering_reverse same)
    cases Greater is = le (sym is)

pub after_greater : (a b : List ℕ) → order a b ≡ Greater → order b a ≢ Greater
after_greater a b is back = let wrong : Greater ≡ Less = sym is ∙ nat_list_cmp_total.antisymm a b ∙ ap ordering_reverse back in cc wrong

module _ (held rows : List FileRow) (removed : List (List ℕ)) (added : List FileRow) (diff : IsDiff held rows removed added) where
  -- a difference is in one of the two lists
  in_lists : (other : List ℕ) → IsDifference held rows other → Contains removed other ⊎ Contains (paths_of added) other
  in_lists other (inl lost) = inl ((diff.removed_paths other).1 (lost.0, lost.1, lost.2, lost.3))
  in_lists other (inr new) = inr (subst (λ (p : List ℕ). Contains (paths_of added) p) new.3 (Contains-paths added new.0 ((diff.added_rows new.0).1 (new.1, new.2))))

  lost_is : (path : List ℕ) → Contains removed path → IsDifference held rows path
  lost_is path there = inl ((diff.removed_paths path).0 there)

  new_is : (row : FileRow) → Contains added row → IsDifference held rows row.path
  new_is row there = let new = (diff.added_rows row).0 there in inr (row, new.0, new.1, refl)

-- the first of the removed paths, and no added row
pub first_lost : (held rows : List FileRow) (removed : List (List ℕ)) (added : List FileRow) → IsDiff held rows removed added → (path : List ℕ) (rest : List (List ℕ)) → removed ≡ path ∷ rest
    → ((row : FileRow) (more : List FileRow) → added ≡ row ∷ more → order path row.path ≢ Greater) → IsFirstDifference held rows path
first_lost held rows removed added diff path rest is le = record {
  is = lost_is held rows removed added diff path (subst (λ (l : List (List ℕ)). Contains l path) (sym is) (Contains-head path rest));
  first = λ other there less.
      ⊎_elim (λ (lost : Contains removed other). none_before path rest (subst IsInByteOrder is diff.removed_order) other (subst (λ (l : List (List ℕ)). Contains l other) is lost) less)
      (λ (new : Contains (paths_of added) other). before_added added refl other new less) (in_lists held rows removed added diff other there);
}
  where
    before_added : (list : List FileRow) → list ≡ added → (other : List ℕ) → Contains (paths_of added) other → order other path ≡ Less → ⊥
    before_added [] none other new less = Contains-none other (subst (λ (l : List FileRow). Contains (paths_of l) other) (sym none) new)
    before_added (row ∷ more) some other new less =
        let sorted : IsInPathOrder (row ∷ more) = subst IsInPathOrder (sym some) diff.added_order in
        not_before path row.path (le row more (sym some)) other (none_before row.path (paths_of more) sorted other (subst (λ (l : List FileRow). Contains (paths_of l) other) (sym some) new)) less

-- the path of the first of the added rows, and no removed path before it
pub first_new : (held rows : List FileRow) (removed : List (List ℕ)) (added : List FileRow) → IsDiff held rows removed added → (row : FileRow) (more : List FileRow) → added ≡ row ∷ more
    → ((path : List ℕ) (rest : List (List ℕ)) → removed ≡ path ∷ rest → order row.path path ≢ Greater) → IsFirstDifference held rows row.path
first_new held rows removed added diff row more is le = record {
  is = new_is held rows removed added diff row (subst (λ (l : List FileRow). Contains l row) (sym is) (Contains-head row more));
  first = λ other there less.
      ⊎_elim (λ (lost : Contains removed other). before_removed removed refl other lost less)
      (λ (new : Contains (paths_of added) other). none_before row.path (paths_of more) (subst IsInPathOrder is diff.added_order) other (subst (λ (l : List FileRow). Contains (paths_of l) other) is new) less) (in_lists held rows removed added diff other there);
}
  where
    before_removed : (list : List (List ℕ)) → list ≡ removed → (other : List ℕ) → Contains removed other → order other row.path ≡ Less → ⊥
    before_removed [] none other lost less = Contains-none other (subst (λ (l : List (List ℕ)). Contains l other) (sym none) lost)
    before_removed (path ∷ rest) some other lost less =
        not_before row.path path (le path rest (sym some)) other (none_before path rest (subst IsInByteOrder (sym some) diff.removed_order) other (subst (λ (l : List (List ℕ)). Contains l other) (sym some) lost)) less

pub first_none : {X : Type 0} (list : List X) → slice_get list 0 ≡ None → list ≡ []
first_none [] is = refl
first_none (x ∷ list) is = absurd (cc is)

pub first_some : {X : Type 0} (list : List X) (first : X) → slice_get list 0 ≡ Some first → (rest : List X) × (list ≡ first ∷ rest)
first_some [] first is = absurd (cc is)
first_some {X} (x ∷ list) first is = let same : x ≡ first = cc is in (list, ap (λ (y : X). y ∷ list) same)

pub first_of_both : (held rows : List FileRow) (removed : List (List ℕ)) (added : List FileRow) → IsDiff held rows removed added → (lost : List ℕ) (rest : List (List ℕ)) → removed ≡ lost ∷ rest → (row : FileRow) (more : List FileRow) → added ≡ row ∷ more
    → (path : List ℕ) → ((path ≡ lost) × (order lost row.path ≢ Greater)) ⊎ ((path ≡ row.path) × (order lost row.path ≡ Greater)) → IsFirstDifference held rows path
first_of_both held rows removed added diff lost rest is row more is_new path (inl first) = subst (IsFirstDifference held rows) (sym first.0) (first_lost held rows removed added diff lost rest is le)
  where
    le : (other : FileRow) (others : List FileRow) → added ≡ other ∷ others → order lost other.path ≢ Greater
    le other others some =
        let same : row ∷ more ≡ other ∷ others = sym is_new ∙ some in
        let one : row ≡ other = cc same in
        subst (λ (r : FileRow). order lost r.path ≢ Greater) one first.1
first_of_both held rows removed added diff lost rest is row more is_new path (inr second) = subst (IsFirstDifference held rows) (sym second.0) (first_new held rows removed added diff row more is_new le)
  where
    le : (other : List ℕ) (others : List (List ℕ)) → removed ≡ other ∷ others → order row.path other ≢ Greater
    le other others some =
        let same : lost ∷ rest ≡ other ∷ others = sym is ∙ some in
        let one : lost ≡ other = cc same in
        subst (λ (p : List ℕ). order row.path p ≢ Greater) one (after_greater lost row.path second.1)
