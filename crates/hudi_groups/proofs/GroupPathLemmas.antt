-- The rows of groups that are named by whole paths are found at those paths.
use Rattle.std.proofs.Common.{◌≡◌, ℕ, zero, suc, ◌-◌, ◌<◌, ◌≤◌, Bool, true, false, not, List, [], ◌∷◌, length, take, drop, get_or, reverse, filter, Vec, Result, Ok, Err, IfOk, Option, Some, None, Contains, refl, sym, ap, subst, ◌∙◌, ◌⊎◌, inl, inr, ⊎_elim, arith}
use Rattle.std.specs.Prelude.{◌==◌}
use Rattle.std.specs.List.{IsDistinct, suffix_len}
use Rattle.std.specs.Str.{bytes_eq}
use Rattle.std.proofs.lemmas.Bool.{cases_Bool, cond-true, cond-false, false≢true, eqb-true}
use Rattle.std.proofs.lemmas.List.{get_or-reverse, length-reverse}
use Rattle.std.proofs.lemmas.List.Elements.{Contains-append_left, Contains-append_right, Contains-append_cases}
use Rattle.std.proofs.lemmas.List.Sums.{prefix_len_stops, suffix_len-le-length}
use Rattle.std.proofs.lemmas.Map.Keys.{IsDistinct-head, IsDistinct-tail}
use Rattle.std.proofs.lemmas.Slice.Eq.{bytes_eq-Decides}
use Rattle.std.specs.declared.alloc.Global.{Global}
use Rattle.table_history.specs.Rows.{HasDistinctPaths, SameRows, row_at}
use Rattle.table_history.specs.declared.row.FileRow.{FileRow}
use Rattle.table_history.proofs.RowListLemmas.{Contains-none, Contains-head, Contains-one, Contains-tail, Contains-cases, Contains-filter, filter_contains, row_at-found, row_at-itself, all_at}
use Rattle.hudi_groups.specs.declared.form.Form.{Form}
use Rattle.hudi_groups.specs.declared.form.Form.TheVariants.{External}
use Rattle.hudi_groups.specs.Files.{group_name}
use Rattle.hudi_groups.specs.Group.{joined}
use Rattle.hudi_groups.specs.GroupSets.{Groups, has_group, one_or_none, row_in_group, rows_at_group, rows_at_paths}
use Rattle.hudi_groups.proofs.AnyLemmas.{any_from, any_to}
use Rattle.hudi_groups.proofs.GroupLemmas.{joined_whole}
use Rattle.hudi_groups.proofs.GroupChangeLemmas.{distinct_append, distinct_cons, distinct_none}

-- ---- the name of a path's group is the path, but for a `/` before it
slash_before : (path : List ℕ) (n : ℕ) → n ≡ length path - suffix_len (λ b. not (b == 47)) path → 0 < n → get_or path (n - 1) 0 ≡ 47
slash_before path n is above =
    let k = suffix_len (λ b. not (b == 47)) path in
    let whole = suffix_len-le-length (λ b. not (b == 47)) path in
    let within : k < length (reverse path) = omega (arith, length-reverse path, is, above) in
    let stop : not (get_or (reverse path) k 0 == 47) ≡ false = prefix_len_stops (λ b. not (b == 47)) (reverse path) 0 within in
    let place : length path - 1 - k ≡ n - 1 = omega (arith, is) in
    let same : get_or (reverse path) k 0 ≡ get_or path (n - 1) 0 = get_or-reverse path k 0 (omega (arith, length-reverse path, within)) ∙ ap (λ i. get_or path i 0) place in
    eqb-true (get_or path (n - 1) 0) 47 (not_false (get_or path (n - 1) 0 == 47) (ap (λ b. not (b == 47)) (sym same) ∙ stop))
  where
    not_false : (b : Bool) → not b ≡ false → b ≡ true
    not_false true h = refl
    not_false false h = sym h

first_of : (path : List ℕ) → 1 ≤ length path → get_or path 0 0 ≡ 47 → path ≡ 47 ∷ drop 1 path
first_of [] within is = absurd (omega (arith, within))
first_of (b ∷ bs) within is = ap (λ c. c ∷ bs) is

pub group_or_rooted : (time path : List ℕ) → (path ≡ group_name (External time) path) ⊎ (path ≡ 47 ∷ group_name (External time) path)
group_or_rooted time path = by (length path - suffix_len (λ b. not (b == 47)) path) refl
  where
    by : (n : ℕ) → n ≡ length path - suffix_len (λ b. not (b == 47)) path → (path ≡ joined (take (n - 1) path) (drop n path)) ⊎ (path ≡ 47 ∷ joined (take (n - 1) path) (drop n path))
    by zero is = inl refl
    by (suc zero) is = inr (first_of path (omega (arith, is)) (slash_before path 1 is (omega arith)))
    by (suc (suc m)) is = inl (joined_whole path (suc (suc m)) (omega arith) (omega (arith, is)) (slash_before path (suc (suc m)) is (omega arith)))

-- ---- what is found at a path
module _ (form : Form) (rows : List FileRow) where
  abbrev IsRowAt : List ℕ → List ℕ → FileRow → Type 0
  IsRowAt q path row = Contains rows row × (row.path ≡ path) × (group_name form row.path ≡ q)

  one_is : (o : Option FileRow) (row : FileRow) → Contains (one_or_none o) row → o ≡ Some row
  one_is None row h = absurd (Contains-none row h)
  one_is (Some r) row h = ap Some (Contains-one r row h)

  one_distinct : (o : Option FileRow) → HasDistinctPaths (one_or_none o)
  one_distinct None = distinct_none
  one_distinct (Some r) = distinct_cons r [] (λ s there same. Contains-none s there) distinct_none

  pub row_in_group-is : (q path : List ℕ) (row : FileRow) → Contains (row_in_group form rows q path) row → IsRowAt q path row
  row_in_group-is q path row h =
      ⊎_elim
      (λ t.
      let there = one_is (row_at rows path) row (subst (λ l. Contains l row) (cond-true (bytes_eq (group_name form path) q) (one_or_none (row_at rows path)) [] t) h) in
      let found = row_at-found rows path row there in
      (found.0, found.1, ap (group_name form) found.1 ∙ (bytes_eq-Decides (group_name form path) q).0 t))
      (λ n. absurd (Contains-none row (subst (λ l. Contains l row) (cond-false (bytes_eq (group_name form path) q) (one_or_none (row_at rows path)) [] n) h)))
      (cases_Bool (bytes_eq (group_name form path) q))

  pub row_in_group-has : (q path : List ℕ) (row : FileRow) → HasDistinctPaths rows → IsRowAt q path row → Contains (row_in_group form rows q path) row
  row_in_group-has q path row distinct h =
      let at : row_at rows path ≡ Some row = ap (row_at rows) (sym h.1) ∙ row_at-itself rows row distinct h.0 in
      let t : bytes_eq (group_name form path) q ≡ true = (bytes_eq-Decides (group_name form path) q).1 (ap (group_name form) (sym h.1) ∙ h.2) in
      subst (λ l. Contains l row) (sym (cond-true (bytes_eq (group_name form path) q) (one_or_none (row_at rows path)) [] t)) (subst (λ o. Contains (one_or_none o) row) (sym at) (Contains-head row []))

  pub row_in_group-distinct : (q path : List ℕ) → HasDistinctPaths (row_in_group form rows q path)
  row_in_group-distinct q path =
      ⊎_elim
      (λ t. subst HasDistinctPaths (sym (cond-true (bytes_eq (group_name form path) q) (one_or_none (row_at rows path)) [] t)) (one_distinct (row_at rows path)))
      (λ n. subst HasDistinctPaths (sym (cond-false (bytes_eq (group_name form path) q) (one_or_none (row_at rows path)) [] n)) distinct_none)
      (cases_Bool (bytes_eq (group_name form path) q))

  -- ---- the rows of one group
  at_group-is : (q : List ℕ) (row : FileRow) → Contains (rows_at_group form rows q) row → Contains rows row × (group_name form row.path ≡ q)
  at_group-is q row h =
      ⊎_elim
      (λ a. let is = row_in_group-is q q row a in (is.0, is.2))
      (λ b. let is = row_in_group-is q (47 ∷ q) row b in (is.0, is.2))
      (Contains-append_cases (row_in_group form rows q q) (row_in_group form rows q (47 ∷ q)) row h)

  at_group-distinct : (q : List ℕ) → HasDistinctPaths (rows_at_group form rows q)
  at_group-distinct q =
      distinct_append (row_in_group form rows q q) (row_in_group form rows q (47 ∷ q)) (row_in_group-distinct q q) (row_in_group-distinct q (47 ∷ q))
      (λ x y in_x in_y same.
      let longer : q ≡ 47 ∷ q = sym (row_in_group-is q q x in_x).1 ∙ same ∙ (row_in_group-is q (47 ∷ q) y in_y).1 in
      absurd (omega (arith, ap length longer)))

  -- ---- the rows of some groups
  at_paths-is : (keys : List (List ℕ)) (row : FileRow) → Contains (rows_at_paths form rows keys) row → Contains rows row × ((k : List ℕ) × Contains keys k × (group_name form row.path ≡ k))
  at_paths-is [] row h = absurd (Contains-none row h)
  at_paths-is (key ∷ keys) row h =
      ⊎_elim
      (λ a. let is = at_group-is key row a in (is.0, (key, Contains-head key keys, is.1)))
      (λ b. let is = at_paths-is keys row b in (is.0, (is.1.0, Contains-tail key keys is.1.0 is.1.1, is.1.2)))
      (Contains-append_cases (rows_at_group form rows key) (rows_at_paths form rows keys) row h)

  pub at_paths-distinct : (keys : List (List ℕ)) → IsDistinct bytes_eq keys → HasDistinctPaths (rows_at_paths form rows keys)
  at_paths-distinct [] unique = distinct_none
  at_paths-distinct (key ∷ keys) unique =
      distinct_append (rows_at_group form rows key) (rows_at_paths form rows keys) (at_group-distinct key) (at_paths-distinct keys (IsDistinct-tail bytes_eq key keys unique))
      (λ x y in_x in_y same.
      let first = at_group-is key x in_x in
      let later = at_paths-is keys y in_y in
      let apart : bytes_eq key later.1.0 ≡ false = all_at (λ k. bytes_eq key k ≡ false) keys later.1.0 (IsDistinct-head bytes_eq key keys unique) later.1.1 in
      false≢true (sym apart ∙ (bytes_eq-Decides key later.1.0).1 (sym first.1 ∙ ap (group_name form) same ∙ later.1.2)))

module _ (time : List ℕ) (rows : List FileRow) (distinct : HasDistinctPaths rows) where
  at_group-has : (row : FileRow) → Contains rows row → Contains (rows_at_group (External time) rows (group_name (External time) row.path)) row
  at_group-has row there =
      let q = group_name (External time) row.path in
      ⊎_elim
      (λ is. Contains-append_left (row_in_group (External time) rows q q) (row_in_group (External time) rows q (47 ∷ q)) row (row_in_group-has (External time) rows q q row distinct (there, is, refl)))
      (λ is. Contains-append_right (row_in_group (External time) rows q q) (row_in_group (External time) rows q (47 ∷ q)) row (row_in_group-has (External time) rows q (47 ∷ q) row distinct (there, is, refl)))
      (group_or_rooted time row.path)

  at_paths-has : (keys : List (List ℕ)) (row : FileRow) (k : List ℕ) → Contains rows row → Contains keys k → group_name (External time) row.path ≡ k → Contains (rows_at_paths (External time) rows keys) row
  at_paths-has [] row k there in_keys is = absurd (Contains-none k in_keys)
  at_paths-has (key ∷ keys) row k there in_keys is =
      ⊎_elim
      (λ same. Contains-append_left (rows_at_group (External time) rows key) (rows_at_paths (External time) rows keys) row
      (subst (λ q. Contains (rows_at_group (External time) rows q) row) (is ∙ sym same) (at_group-has row there)))
      (λ later. Contains-append_right (rows_at_group (External time) rows key) (rows_at_paths (External time) rows keys) row (at_paths-has keys row k there later is))
      (Contains-cases key keys k in_keys)

  pub at_paths-same : (groups : Groups) → SameRows (rows_at_paths (External time) rows groups.keys) (filter (λ r. has_group groups (group_name (External time) r.path)) rows)
  at_paths-same groups row = (
    λ h.
        let is = at_paths-is (External time) rows groups.keys row h in
        filter_contains (λ r. has_group groups (group_name (External time) r.path)) rows row is.0
        (any_from (bytes_eq (group_name (External time) row.path)) groups.keys is.1.0 is.1.1 ((bytes_eq-Decides (group_name (External time) row.path) is.1.0).1 is.1.2)),
    λ h.
        let both = Contains-filter (λ r. has_group groups (group_name (External time) r.path)) rows row h in
        let some = any_to (bytes_eq (group_name (External time) row.path)) groups.keys both.1 in
        at_paths-has groups.keys row some.0 both.0 some.1 ((bytes_eq-Decides (group_name (External time) row.path) some.0).0 some.2),
  )

-- ---- the answer of a search by paths
module _ (time : List ℕ) (form : Form) (named : form ≡ External time) (rows : List FileRow) (groups : Groups) where
  pub at_paths_found : {E : Type 0} (r : Result (Vec FileRow Global) E) → IfOk r (λ v. v.items ≡ rows_at_paths form rows groups.keys)
      → HasDistinctPaths rows → IfOk r (λ v. SameRows v.items (filter (λ w. has_group groups (group_name form w.path)) rows))
  at_paths_found (Ok v) is distinct =
      subst (λ f. SameRows v.items (filter (λ w. has_group groups (group_name f w.path)) rows)) (sym named)
      (subst (λ l. SameRows l (filter (λ w. has_group groups (group_name (External time) w.path)) rows)) (sym (is ∙ ap (λ f. rows_at_paths f rows groups.keys) named)) (at_paths-same time rows distinct groups))
  at_paths_found (Err e) is distinct = tt

  pub at_paths_apart : {E : Type 0} (r : Result (Vec FileRow Global) E) → IfOk r (λ v. v.items ≡ rows_at_paths form rows groups.keys)
      → IfOk r (λ _. IsDistinct bytes_eq groups.keys) → IfOk r (λ v. HasDistinctPaths v.items)
  at_paths_apart (Ok v) is unique = subst HasDistinctPaths (sym is) (at_paths-distinct form rows groups.keys unique)
  at_paths_apart (Err e) is unique = tt
