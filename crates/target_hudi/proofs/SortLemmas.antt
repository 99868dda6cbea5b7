-- The change between two lists of rows is there: what each lacks of the other, in byte order of the paths.
use Rattle.std.proofs.Common.{◌≡◌, ◌⊎◌, inl, inr, ⊎_elim, ℕ, Bool, true, false, cond, List, [], ◌∷◌, filter, Ordering, Less, Equal, Greater, is_lt, is_eq, nat_cmp, Contains, refl, sym, ap, subst, ◌∙◌}
use Rattle.std.specs.Prelude.{◌↔◌}
use Rattle.std.specs.Cmp.Lexicographic.{slice_cmp, texts_ties}
use Rattle.std.specs.List.{AllByRecursion}
use Rattle.std.specs.List.Sorted.{IsStrictlySortedBy}
use Rattle.std.specs.Ordering.{ordering_reverse}
use Rattle.std.specs.Str.{bytes_eq}
use Rattle.std.proofs.lemmas.Bool.{false≢true}
use Rattle.std.proofs.lemmas.Cmp.{nat_list_cmp_total}
use Rattle.std.proofs.lemmas.Map.Keys.{IsDistinct-head, IsDistinct-tail}
use Rattle.table_history.specs.Row.{Row}
use Rattle.table_history.specs.Rows.{HasDistinctPaths, IsInPathOrder, paths_of}
use Rattle.table_history.specs.Tables.{IsDiff}
use Rattle.table_history.proofs.RowListLemmas.{Contains-cases, Contains-head, Contains-lacking, Contains-none, Contains-tail, distinct_filter, lacks}
use Rattle.table_history.proofs.TableLemmas.{diff}

abbrev by_path : List ℕ → List ℕ → Ordering
by_path = slice_cmp nat_cmp

-- ---- rows in order

abbrev with_row : Row → List Row → List Row
with_row r [] = r ∷ []
with_row r (x ∷ xs) = cond (is_lt (by_path r.path x.path)) (r ∷ x ∷ xs) (x ∷ with_row r xs)

abbrev in_order : List Row → List Row
in_order [] = []
in_order (r ∷ rows) = with_row r (in_order rows)

module _ (r y : Row) where
  with_row_to : (xs : List Row) → Contains (with_row r xs) y → (r ≡ y) ⊎ Contains xs y
  with_row_to [] there = Contains-cases r [] y there
  with_row_to (x ∷ xs) there = by (with_row_to xs) (is_lt (by_path r.path x.path)) there
    where
      by : (Contains (with_row r xs) y → (r ≡ y) ⊎ Contains xs y) → (b : Bool) → Contains (cond b (r ∷ x ∷ xs) (x ∷ with_row r xs)) y → (r ≡ y) ⊎ Contains (x ∷ xs) y
      by rest true h = Contains-cases r (x ∷ xs) y h
      by rest false h =
          ⊎_elim
          (λ (here : x ≡ y). inr (subst (Contains (x ∷ xs)) here (Contains-head x xs)))
          (λ later. ⊎_elim (λ (is : r ≡ y). inl is) (λ more. inr (Contains-tail x xs y more)) (rest later))
          (Contains-cases x (with_row r xs) y h)

  with_row_from : (xs : List Row) → (r ≡ y) ⊎ Contains xs y → Contains (with_row r xs) y
  with_row_from [] is = ⊎_elim (λ (same : r ≡ y). subst (Contains (r ∷ [])) same (Contains-head r [])) (λ none. absurd (Contains-none y none)) is
  with_row_from (x ∷ xs) is = by (with_row_from xs) (is_lt (by_path r.path x.path))
    where
      by : ((r ≡ y) ⊎ Contains xs y → Contains (with_row r xs) y) → (b : Bool) → Contains (cond b (r ∷ x ∷ xs) (x ∷ with_row r xs)) y
      by rest true =
          ⊎_elim
          (λ (same : r ≡ y). subst (Contains (r ∷ x ∷ xs)) same (Contains-head r (x ∷ xs)))
          (λ there. Contains-tail r (x ∷ xs) y there)
          is
      by rest false =
          ⊎_elim
          (λ (same : r ≡ y). Contains-tail x (with_row r xs) y (rest (inl same)))
          (λ there.
          ⊎_elim
          (λ (here : x ≡ y). subst (Contains (x ∷ with_row r xs)) here (Contains-head x (with_row r xs)))
          (λ later. Contains-tail x (with_row r xs) y (rest (inr later)))
          (Contains-cases x xs y there))
          is

in_order_same : (rows : List Row) (row : Row) → Contains (in_order rows) row ↔ Contains rows row
in_order_same [] row = (λ there. there, λ there. there)
in_order_same (r ∷ rows) row = (
  λ there.
      ⊎_elim
      (λ (here : r ≡ row). subst (Contains (r ∷ rows)) here (Contains-head r rows))
      (λ later. Contains-tail r rows row ((in_order_same rows row).0 later))
      (with_row_to r row (in_order rows) there),
  λ there.
      with_row_from r row (in_order rows)
      (⊎_elim (λ (here : r ≡ row). inl here) (λ later. inr ((in_order_same rows row).1 later)) (Contains-cases r rows row there)),
)

-- ---- they rise

module _ (P : List ℕ → Type 0) where
  all_with : (r : Row) (xs : List Row) → P r.path → AllByRecursion P (paths_of xs) → AllByRecursion P (paths_of (with_row r xs))
  all_with r [] here all = (here, tt)
  all_with r (x ∷ xs) here all = by (all_with r xs here all.1) (is_lt (by_path r.path x.path))
    where
      by : AllByRecursion P (paths_of (with_row r xs)) → (b : Bool) → AllByRecursion P (paths_of (cond b (r ∷ x ∷ xs) (x ∷ with_row r xs)))
      by rest true = (here, all)
      by rest false = (all.0, rest)

  all_in_order : (rows : List Row) → AllByRecursion P (paths_of rows) → AllByRecursion P (paths_of (in_order rows))
  all_in_order [] all = tt
  all_in_order (r ∷ rows) all = all_with r (in_order rows) all.0 (all_in_order rows all.1)

all_below : (p q : List ℕ) (paths : List (List ℕ)) → by_path p q ≡ Less → AllByRecursion (λ y. by_path q y ≡ Less) paths → AllByRecursion (λ y. by_path p y ≡ Less) paths
all_below p q [] less all = tt
all_below p q (y ∷ ys) less all = (nat_list_cmp_total.trans p q y less all.0, all_below p q ys less all.1)

rises_with : (r : Row) (xs : List Row) → AllByRecursion (λ y. bytes_eq r.path y ≡ false) (paths_of xs) → IsInPathOrder xs → IsInPathOrder (with_row r xs)
unfolding IsStrictlySortedBy
rises_with r [] apart up = (tt, tt)
rises_with r (x ∷ xs) apart up = by (rises_with r xs apart.1 up.1) (by_path r.path x.path) refl
  where
    by : IsInPathOrder (with_row r xs) → (o : Ordering) → by_path r.path x.path ≡ o → IsInPathOrder (cond (is_lt o) (r ∷ x ∷ xs) (x ∷ with_row r xs))
    by rest Less is = ((is, all_below r.path x.path (paths_of xs) is up.0), up)
    by rest Equal is = absurd (false≢true (sym apart.0 ∙ texts_ties r.path x.path ∙ ap is_eq is))
    by rest Greater is = (all_with (λ y. by_path x.path y ≡ Less) r xs (nat_list_cmp_total.antisymm x.path r.path ∙ ap ordering_reverse is) up.0, rest)

in_order_rises : (rows : List Row) → HasDistinctPaths rows → IsInPathOrder (in_order rows)
unfolding IsStrictlySortedBy
in_order_rises [] distinct = tt
in_order_rises (r ∷ rows) distinct =
    rises_with r (in_order rows) (all_in_order (λ y. bytes_eq r.path y ≡ false) rows (IsDistinct-head bytes_eq r.path (paths_of rows) distinct))
    (in_order_rises rows (IsDistinct-tail bytes_eq r.path (paths_of rows) distinct))

-- ---- the change

pub diff_there : (before after : List Row) → HasDistinctPaths before → HasDistinctPaths after → (removed : List (List ℕ)) × (added : List Row) × IsDiff before after removed added
diff_there before after before_distinct after_distinct =
    let lost = in_order (filter (lacks after) before) in
    let new = in_order (filter (lacks before) after) in (
      paths_of lost,
      new,
      diff before after lost new (paths_of lost) new
          (λ row. (λ there. (Contains-lacking before after row).0 ((in_order_same (filter (lacks after) before) row).0 there), λ is. (in_order_same (filter (lacks after) before) row).1 ((Contains-lacking before after row).1 is)))
          (λ row. (λ there. (Contains-lacking after before row).0 ((in_order_same (filter (lacks before) after) row).0 there), λ is. (in_order_same (filter (lacks before) after) row).1 ((Contains-lacking after before row).1 is)))
          (in_order_rises (filter (lacks after) before) (distinct_filter (lacks after) before before_distinct))
          (in_order_rises (filter (lacks before) after) (distinct_filter (lacks before) after after_distinct)) refl refl,
    )
