-- Rows as a list, against the row of a path.
use Rattle.std.proofs.Common.{take, slice_get, ◌≡◌, ℕ, zero, suc, ◌<◌, ◌||◌, Bool, true, false, cond, List, [], ◌∷◌, ◌++◌, length, get_or, map, Option, None, Some, filter, not, ◌+◌, ◌↔◌, is_lt, is_eq, nat_cmp, Contains, refl, sym, ap, subst, ◌∙◌, ◌⊎◌, inl, inr, ⊎_elim, arith}
use Rattle.std.specs.Bool.{Decides}
use Rattle.std.specs.Cmp.Lexicographic.{slice_cmp, texts_ties}
use Rattle.std.proofs.lemmas.List.{length-map, get_or-map}
use Rattle.std.specs.List.{IsDistinct, AllByRecursion, list_any}
use Rattle.std.specs.List.Sorted.{IsSortedBy, IsPermutation}
use Rattle.std.specs.Cmp.{IsStrictWeakOrder}
use Rattle.std.proofs.lemmas.List.Sorted.{ranks_by, IsPermutation-map, IsPermutation-sym, Contains-permutation, length_permutation}
use Rattle.std.specs.Ordering.{ordering_reverse}
use Rattle.std.specs.Option.{option_or}
use Rattle.std.specs.Str.{bytes_eq}
use Rattle.std.specs.Borrow.{Bor}
use Rattle.std.proofs.lemmas.Bool.{cases_Bool, cond-true, cond-false, false≢true}
use Rattle.std.proofs.lemmas.Cmp.{nat_list_eq_equiv, nat_list_cmp_total}
use Rattle.std.proofs.lemmas.Bool.Decides.{same_from_decides}
use Rattle.std.proofs.lemmas.Option.{get_or_from_slice_get}
use Rattle.std.proofs.lemmas.List.Elements.{filter_more, Contains-append_cases, Contains-append_right}
use Rattle.std.proofs.lemmas.Map.Keys.{IsDistinct-IsPermutation, IsDistinct-head, IsDistinct-tail, apart_from_distinct, sorted_from_all_adjacent}
use Rattle.std.proofs.lemmas.Slice.Eq.{bytes_eq-Decides}
use Rattle.table_history.specs.declared.row.FileRow.{FileRow}
use Rattle.table_history.specs.Rows.{row_at, HasPath, HasDistinctPaths, IsInPathOrder, SameRows, paths_of}
use Rattle.table_history.proofs.RowLemmas.{row_eq, row_eq-Decides}
use Rattle.lake_basics.proofs.Truth.{rising}

-- ---- `Contains` at the head
pub Contains-head : {X : Type 0} (x : X) (xs : List X) → Contains (x ∷ xs) x
Contains-head x xs = (0, omega arith, refl)

pub Contains-tail : {X : Type 0} (x : X) (xs : List X) (y : X) → Contains xs y → Contains (x ∷ xs) y
Contains-tail x xs y h = Contains-append_right (x ∷ []) xs y h

pub Contains-none : {X : Type 0} (x : X) → Contains [] x → ⊥
Contains-none x h = absurd (omega (arith, h.1))

pub Contains-one : {X : Type 0} (x y : X) → Contains (x ∷ []) y → x ≡ y
Contains-one x y (zero, l, e) = e
Contains-one x y (suc k, l, e) = absurd (omega arith)

pub Contains-cases : {X : Type 0} (x : X) (xs : List X) (y : X) → Contains (x ∷ xs) y → (x ≡ y) ⊎ Contains xs y
Contains-cases x xs y h =
    elim (Contains-append_cases (x ∷ []) xs y h) as (λ _. (x ≡ y) ⊎ Contains xs y) [ inl a ↦ inl (Contains-one x y a) | inr b ↦ inr b ]

-- a list that has the items of one item alone
pub one_of_one : {X : Type 0} (x : X) (ys : List X) → IsPermutation (x ∷ []) ys → ys ≡ x ∷ []
one_of_one x [] moves = absurd (let len = length_permutation (x ∷ []) [] moves in omega (arith, len))
one_of_one x (y ∷ []) moves = ap (λ z. z ∷ []) (Contains-one y x (Contains-permutation (x ∷ []) (y ∷ []) x moves (Contains-head x [])))
one_of_one x (y ∷ (z ∷ ys)) moves = absurd (let len = length_permutation (x ∷ []) (y ∷ (z ∷ ys)) moves in omega (arith, len))

-- ---- the row of a path

-- what is found is a row of that path
pub row_at-found : (rows : List FileRow) (path : List ℕ) (row : FileRow) → row_at rows path ≡ Some row → Contains rows row × (row.path ≡ path)
row_at-found [] path row h = cc
row_at-found (r ∷ rows) path row h =
    ⊎_elim
    (λ y. let same : r ≡ row = cc (sym (cond-true (bytes_eq path r.path) (Some r) (row_at rows path) y) ∙ h) in (
      subst (Contains (r ∷ rows)) same (Contains-head r rows),
      sym (ap (λ w. w.path) same) ∙ sym ((bytes_eq-Decides path r.path).0 y),
    ))
    (λ n. let rest = row_at-found rows path row (sym (cond-false (bytes_eq path r.path) (Some r) (row_at rows path) n) ∙ h) in (Contains-tail r rows row rest.0, rest.1))
    (cases_Bool (bytes_eq path r.path))

-- where none is found, no row has the path
pub row_at-none : (rows : List FileRow) (path : List ℕ) → row_at rows path ≡ None → HasPath rows path → ⊥
row_at-none [] path h there = Contains-none there.0 there.1
row_at-none (r ∷ rows) path h there =
    ⊎_elim
    (λ y. let wrong : Some r ≡ None = sym (cond-true (bytes_eq path r.path) (Some r) (row_at rows path) y) ∙ h in cc)
    (λ n.
    let rest = sym (cond-false (bytes_eq path r.path) (Some r) (row_at rows path) n) ∙ h in
    ⊎_elim
    (λ e. false≢true (sym n ∙ (bytes_eq-Decides path r.path).1 (sym there.2 ∙ sym (ap (λ w. w.path) e))))
    (λ later. row_at-none rows path rest (there.0, later, there.2))
    (Contains-cases r rows there.0 there.1))
    (cases_Bool (bytes_eq path r.path))

pub all_at : {X : Type 0} (P : X → Type 0) (xs : List X) (x : X) → AllByRecursion P xs → Contains xs x → P x
all_at P [] x all h = absurd (Contains-none x h)
all_at P (y ∷ ys) x all h = ⊎_elim (λ e. subst P e all.0) (λ later. all_at P ys x all.1 later) (Contains-cases y ys x h)

pub all_from : {X : Type 0} (P : X → Type 0) (xs : List X) → ((x : X) → Contains xs x → P x) → AllByRecursion P xs
all_from P [] h = tt
all_from P (x ∷ xs) h = (h x (Contains-head x xs), all_from P xs (λ y there. h y (Contains-tail x xs y there)))

pub Contains-paths : (rows : List FileRow) (row : FileRow) → Contains rows row → Contains (paths_of rows) row.path
Contains-paths [] row h = absurd (Contains-none row h)
Contains-paths (r ∷ rows) row h =
    ⊎_elim
    (λ e. subst (λ w. Contains (paths_of (r ∷ rows)) w.path) e (Contains-head r.path (paths_of rows)))
    (λ later. Contains-tail r.path (paths_of rows) row.path (Contains-paths rows row later))
    (Contains-cases r rows row h)

-- a row is found at its own path
pub row_at-itself : (rows : List FileRow) (row : FileRow) → HasDistinctPaths rows → Contains rows row → row_at rows row.path ≡ Some row
row_at-itself [] row distinct h = absurd (Contains-none row h)
row_at-itself (r ∷ rows) row distinct h =
    ⊎_elim
    (λ e. cond-true (bytes_eq row.path r.path) (Some r) (row_at rows row.path) ((bytes_eq-Decides row.path r.path).1 (sym (ap (λ w. w.path) e))) ∙ ap Some e)
    (λ later.
    let apart : bytes_eq r.path row.path ≡ false = all_at (λ y. bytes_eq r.path y ≡ false) (paths_of rows) row.path (IsDistinct-head bytes_eq r.path (paths_of rows) distinct) (Contains-paths rows row later) in
    cond-false (bytes_eq row.path r.path) (Some r) (row_at rows row.path) (nat_list_eq_equiv.symm row.path r.path ∙ apart)
    ∙ row_at-itself rows row (IsDistinct-tail bytes_eq r.path (paths_of rows) distinct) later)
    (Contains-cases r rows row h)

-- where no row has the path, none is found
pub row_at-lacks : (rows : List FileRow) (path : List ℕ) → (HasPath rows path → ⊥) → row_at rows path ≡ None
row_at-lacks rows path lacks = by (row_at rows path) refl
  where
    by : (found : Option FileRow) → row_at rows path ≡ found → row_at rows path ≡ None
    by None is = is
    by (Some row) is = let there = row_at-found rows path row is in absurd (lacks (row, there.0, there.1))

pub row_at-append : (xs ys : List FileRow) (path : List ℕ) → row_at (xs ++ ys) path ≡ option_or (row_at xs path) (row_at ys path)
row_at-append [] ys path = refl
row_at-append (x ∷ xs) ys path =
    ⊎_elim
    (λ y. rw (y))
    (λ n. rw (n) (row_at-append xs ys path))
    (cases_Bool (bytes_eq path x.path))

-- ---- steps of the loops that remove and insert
pub removed_step : (b gone : Bool) (x : Option FileRow) → cond b None (cond gone None x) ≡ cond (gone || b) None x
removed_step true true x = refl
removed_step true false x = refl
removed_step false true x = refl
removed_step false false x = refl

pub added_step : (a : Option FileRow) (b : Bool) (r : FileRow) (x : Option FileRow) → option_or a (cond b (Some r) x) ≡ option_or (option_or a (cond b (Some r) None)) x
added_step None true r x = refl
added_step None false r x = refl
added_step (Some s) b r x = refl

-- a row that is found at the path of another is that one exactly where that one is there
pub found_same : (rows : List FileRow) (row held : FileRow) → HasDistinctPaths rows → Some held ≡ row_at rows row.path → (held ≡ row → Contains rows row) × (Contains rows row → held ≡ row)
found_same rows row held distinct found = (
  λ e. subst (Contains rows) e (row_at-found rows row.path held (sym found)).0,
  λ there. let same : Some held ≡ Some row = found ∙ row_at-itself rows row distinct there in cc,
)

-- ---- a filter
module _ {X : Type 0} (p : X → Bool) where
  pub Contains-filter : (xs : List X) (x : X) → Contains (filter p xs) x → Contains xs x × (p x ≡ true)
  Contains-filter [] x h = absurd (Contains-none x h)
  Contains-filter (y ∷ ys) x h =
      ⊎_elim
      (λ t.
      let h' = subst (λ l. Contains l x) (cond-true (p y) (y ∷ filter p ys) (filter p ys) t) h in
      ⊎_elim
      (λ e. (subst (Contains (y ∷ ys)) e (Contains-head y ys), subst (λ w. p w ≡ true) e t))
      (λ later. let rest = Contains-filter ys x later in (Contains-tail y ys x rest.0, rest.1))
      (Contains-cases y (filter p ys) x h'))
      (λ n.
      let h' = subst (λ l. Contains l x) (cond-false (p y) (y ∷ filter p ys) (filter p ys) n) h in
      let rest = Contains-filter ys x h' in (Contains-tail y ys x rest.0, rest.1))
      (cases_Bool (p y))

  pub filter_contains : (xs : List X) (x : X) → Contains xs x → p x ≡ true → Contains (filter p xs) x
  filter_contains [] x h t = absurd (Contains-none x h)
  filter_contains (y ∷ ys) x h t =
      ⊎_elim
      (λ e.
      let yes : p y ≡ true = ap p e ∙ t in
      subst (λ l. Contains l x) (sym (cond-true (p y) (y ∷ filter p ys) (filter p ys) yes)) (subst (Contains (y ∷ filter p ys)) e (Contains-head y (filter p ys))))
      (λ later.
      let rest = filter_contains ys x later t in
      ⊎_elim
      (λ yes. subst (λ l. Contains l x) (sym (cond-true (p y) (y ∷ filter p ys) (filter p ys) yes)) (Contains-tail y (filter p ys) x rest))
      (λ no. subst (λ l. Contains l x) (sym (cond-false (p y) (y ∷ filter p ys) (filter p ys) no)) rest)
      (cases_Bool (p y)))
      (Contains-cases y ys x h)

pub filter_whole : {X : Type 0} (p : X → Bool) (xs : List X) → ((x : X) → Contains xs x → p x ≡ true) → filter p xs ≡ xs
filter_whole p [] all = refl
filter_whole p (x ∷ xs) all =
    cond-true (p x) (x ∷ filter p xs) (filter p xs) (all x (Contains-head x xs)) ∙ ap (λ ys. x ∷ ys) (filter_whole p xs (λ y c. all y (Contains-tail x xs y c)))

all_paths_filter : (P : List ℕ → Type 0) (p : FileRow → Bool) (rows : List FileRow) → AllByRecursion P (paths_of rows) → AllByRecursion P (paths_of (filter p rows))
all_paths_filter P p [] all = all
all_paths_filter P p (r ∷ rows) all =
    ⊎_elim
    (λ t. subst (λ l. AllByRecursion P (paths_of l)) (sym (cond-true (p r) (r ∷ filter p rows) (filter p rows) t)) (all.0, all_paths_filter P p rows all.1))
    (λ n. subst (λ l. AllByRecursion P (paths_of l)) (sym (cond-false (p r) (r ∷ filter p rows) (filter p rows) n)) (all_paths_filter P p rows all.1))
    (cases_Bool (p r))

pub distinct_filter : (p : FileRow → Bool) (rows : List FileRow) → HasDistinctPaths rows → HasDistinctPaths (filter p rows)
unfolding IsDistinct
distinct_filter p [] h = h
distinct_filter p (r ∷ rows) h =
    ⊎_elim
    (λ t. subst HasDistinctPaths (sym (cond-true (p r) (r ∷ filter p rows) (filter p rows) t)) (all_paths_filter (λ y. bytes_eq r.path y ≡ false) p rows h.0, distinct_filter p rows h.1))
    (λ n. subst HasDistinctPaths (sym (cond-false (p r) (r ∷ filter p rows) (filter p rows) n)) (distinct_filter p rows h.1))
    (cases_Bool (p r))

-- ---- the rows that another list lacks
abbrev pub is_in : List FileRow → FileRow → Bool
is_in rows row = list_any (row_eq row) rows

pub is_in-Decides : (rows : List FileRow) (row : FileRow) → Decides (is_in rows row) (Contains rows row)
is_in-Decides [] row = (λ h. absurd (false≢true h), λ h. absurd (Contains-none row h))
is_in-Decides (r ∷ rows) row = (
  λ h.
      ⊎_elim
      (λ t. subst (Contains (r ∷ rows)) (sym ((row_eq-Decides row r).0 t)) (Contains-head r rows))
      (λ n. Contains-tail r rows row ((is_in-Decides rows row).0 (subst (λ b. (b || is_in rows row) ≡ true) n h)))
      (cases_Bool (row_eq row r)),
  λ there.
      ⊎_elim
      (λ e. ap (λ b. b || is_in rows row) ((row_eq-Decides row r).1 (sym e)))
      (λ later. ap (λ b. row_eq row r || b) ((is_in-Decides rows row).1 later) ∙ or-true (row_eq row r))
      (Contains-cases r rows row there),
)
  where
    or-true : (b : Bool) → (b || true) ≡ true
    or-true true = refl
    or-true false = refl

abbrev pub lacks : List FileRow → FileRow → Bool
lacks rows row = not (is_in rows row)

pub Contains-lacking : (xs other : List FileRow) (row : FileRow) → Contains (filter (lacks other) xs) row ↔ (Contains xs row × (Contains other row → ⊥))
Contains-lacking xs other row = (
  λ h.
      let both = Contains-filter (lacks other) xs row h in
      (both.0, λ there. false≢true (sym (ap not ((is_in-Decides other row).1 there)) ∙ both.1)),
  λ h.
      filter_contains (lacks other) xs row h.0 (⊎_elim
      (λ t. absurd (h.1 ((is_in-Decides other row).0 t)))
      (λ n. ap not n)
      (cases_Bool (is_in other row))),
)

-- ---- in byte order of paths

nobody : FileRow
nobody = record { path = []; values = []; count = 0; size = 0 }

-- rows that don't fall and have distinct paths rise
pub rise : (rows : List FileRow) → HasDistinctPaths rows → ((k : ℕ) (d : FileRow) → k + 1 < length rows → is_lt (slice_cmp nat_cmp (get_or rows (k + 1) d).path (get_or rows k d).path) ≡ false) → IsInPathOrder rows
rise rows distinct up =
    sorted_from_all_adjacent nat_list_cmp_total (paths_of rows) [] (λ k within.
    let inside : k + 1 < length rows = subst (λ n. k + 1 < n) (length-map rows (λ r. r.path)) within in
    let before : k < length rows = omega arith in
    let x = (get_or rows k nobody).path in
    let y = (get_or rows (k + 1) nobody).path in
    let is_x : get_or (paths_of rows) k [] ≡ x = get_or-map (λ r. r.path) rows k nobody [] before in
    let is_y : get_or (paths_of rows) (k + 1) [] ≡ y = get_or-map (λ r. r.path) rows (k + 1) nobody [] inside in
    let same : slice_cmp nat_cmp (get_or (paths_of rows) k []) (get_or (paths_of rows) (k + 1) []) ≡ slice_cmp nat_cmp x y = λ i. slice_cmp nat_cmp (is_x i) (is_y i) in
    let apart : bytes_eq (get_or (paths_of rows) k []) (get_or (paths_of rows) (k + 1) []) ≡ false = apart_from_distinct bytes_eq (paths_of rows) k (k + 1) [] distinct (omega arith) within in
    let not_tied : is_eq (slice_cmp nat_cmp x y) ≡ false = sym (ap is_eq same) ∙ sym (texts_ties (get_or (paths_of rows) k []) (get_or (paths_of rows) (k + 1) [])) ∙ apart in
    let not_back : is_lt (ordering_reverse (slice_cmp nat_cmp x y)) ≡ false = ap is_lt (sym (nat_list_cmp_total.antisymm y x)) ∙ up k nobody inside in
    same ∙ rising (slice_cmp nat_cmp x y) not_back not_tied)

pub lacks-answer : (other : List FileRow) (row : FileRow) (b : Bool) → (b ≡ true → Contains other row) × (Contains other row → b ≡ true) → lacks other row ≡ not b
lacks-answer other row b h = ap not (same_from_decides (is_in other row) b (is_in-Decides other row) h)

-- one more row is looked at, which is the row at i
pub filter_step : (p : FileRow → Bool) (rows : List FileRow) (i : ℕ) (row : FileRow) (b : Bool) → i < length rows → slice_get rows i ≡ Some row → p row ≡ b
    → filter p (take (i + 1) rows) ≡ filter p (take i rows) ++ cond b (row ∷ []) []
filter_step p rows i row b within here answer =
    let same : get_or rows i row ≡ row = get_or_from_slice_get rows i row row here in
    filter_more p rows i row within ∙ ap (λ r. filter p (take i rows) ++ cond (p r) (r ∷ []) []) same ∙ ap (λ c. filter p (take i rows) ++ cond c (row ∷ []) []) answer

-- ---- a sort of rows by their paths
abbrev pub row_below : FileRow → FileRow → Bool
row_below x y = is_lt (slice_cmp nat_cmp x.path y.path)

pub row_below-order : IsStrictWeakOrder row_below
row_below-order = ranks_by nat_list_cmp_total (λ (r : FileRow). r.path)

pub same_rows : (old new : List FileRow) → IsPermutation old new → SameRows new old
same_rows old new moved row = (Contains-permutation _ _ row (IsPermutation-sym _ _ moved), Contains-permutation _ _ row moved)

pub rows_rise : (old new : List FileRow) → IsPermutation old new → HasDistinctPaths old → IsSortedBy row_below new → IsInPathOrder new
rows_rise old new moved distinct up =
    rise new (IsDistinct-IsPermutation bytes_eq nat_list_eq_equiv.symm _ _ (IsPermutation-map (λ (r : FileRow). r.path) _ _ moved) distinct) (λ k d within. up k d (omega arith) within)

-- ---- a sort of references to rows by their paths
abbrev pub path_below : Bor FileRow → Bor FileRow → Bool
path_below x y = is_lt (slice_cmp nat_cmp x.now.path y.now.path)

pub path_below-order : IsStrictWeakOrder path_below
path_below-order = ranks_by nat_list_cmp_total (λ (r : Bor FileRow). r.now.path)

pub Contains-sorted : (old new : List (Bor FileRow)) → IsPermutation old new → (row : FileRow)
    → (Contains (map (λ r. r.now) new) row → Contains (map (λ r. r.now) old) row) × (Contains (map (λ r. r.now) old) row → Contains (map (λ r. r.now) new) row)
Contains-sorted old new moved row =
    let there : IsPermutation (map (λ r. r.now) old) (map (λ r. r.now) new) = IsPermutation-map (λ (r : Bor FileRow). r.now) old new moved in
    (Contains-permutation _ _ row (IsPermutation-sym _ _ there), Contains-permutation _ _ row there)

pub order_sorted : (old new : List (Bor FileRow)) → IsPermutation old new → HasDistinctPaths (map (λ r. r.now) old) → IsSortedBy path_below new → IsInPathOrder (map (λ r. r.now) new)
order_sorted old new moved distinct up =
    let rows = map (λ (r : Bor FileRow). r.now) new in
    let there : IsPermutation (map (λ r. r.now) old) rows = IsPermutation-map (λ (r : Bor FileRow). r.now) old new moved in
    let apart : HasDistinctPaths rows = IsDistinct-IsPermutation bytes_eq nat_list_eq_equiv.symm _ _ (IsPermutation-map (λ (r : FileRow). r.path) _ _ there) distinct in
    rise rows apart (λ k d within.
    let inside : k + 1 < length new = subst (λ n. k + 1 < n) (length-map new (λ r. r.now)) within in
    let before : k < length new = omega arith in
    let e : Bor FileRow = record { ref_ptr = (0, 0); now = d } in
    let first : get_or rows k d ≡ (get_or new k e).now = get_or-map (λ (r : Bor FileRow). r.now) new k e d before in
    let second : get_or rows (k + 1) d ≡ (get_or new (k + 1) e).now = get_or-map (λ (r : Bor FileRow). r.now) new (k + 1) e d inside in
    (λ i. is_lt (slice_cmp nat_cmp (second i).path (first i).path)) ∙ up k e (omega arith) inside)
