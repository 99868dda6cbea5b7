-- The index of a table's rows by their groups: how it changes, and what is found by it.
use Rattle.std.proofs.Common.{◌≡◌, ℕ, Bool, true, false, not, cond, ◌&&◌, ◌||◌, List, [], ◌∷◌, filter, Option, Some, None, Result, Ok, Err, Vec, IfOk, Contains, refl, sym, ap, subst, ◌∙◌, ◌⊎◌, inl, inr, ⊎_elim}
use Rattle.std.specs.List.{list_any, IsDistinct}
use Rattle.std.specs.Map.{KeepsOthers}
use Rattle.std.specs.Set as set
use Rattle.std.specs.Str.{bytes_eq}
use Rattle.std.specs.HashSet.{UpdatesBy}
use Rattle.std.specs.HashMap.{get_by}
use Rattle.std.specs.Map.{IsKeyTest, AreApart}
use Rattle.std.specs.declared.alloc.Global.{Global}
use Rattle.std.proofs.lemmas.Bool.{and_from, and_parts, cases_Bool, cond-false, cond-true, false≢true, or_left, or_right}
use Rattle.std.proofs.lemmas.Cmp.{nat_list_eq_equiv}
use Rattle.std.proofs.lemmas.List.Elements.{Contains-append_left, Contains-append_right, Contains-append_cases}
use Rattle.std.proofs.lemmas.Map.Keys.{IsDistinct-head, IsDistinct-tail}
use Rattle.std.proofs.lemmas.Slice.Eq.{bytes_eq-Decides}
use Rattle.table_history.specs.Rows.{HasDistinctPaths, SameRows}
use Rattle.table_history.specs.Tables.{IsAfter}
use Rattle.table_history.specs.declared.row.FileRow.{FileRow}
use Rattle.table_history.specs.declared.table.Change.{Change}
use Rattle.table_history.specs.declared.table.Table.{Table}
use Rattle.table_history.proofs.RowListLemmas.{Contains-none, Contains-head, Contains-tail, Contains-cases, Contains-filter, filter_contains, all_at}
use Rattle.hudi_groups.specs.declared.form.Form.TheVariants.{Base}
use Rattle.hudi_groups.specs.Files.{group_name}
use Rattle.hudi_groups.specs.GroupSets.{Groups, has_group, row_in_group}
use Rattle.hudi_groups.specs.declared.index.Paths.{Paths}
use Rattle.hudi_groups.specs.GroupIndex.{Index, IsIndexOf, has_path, is_among, is_path_of, is_row_of, paths_at, rows_among, rows_by_index}
use Rattle.hudi_groups.proofs.AnyLemmas.{any_from, any_to, any_none}
use Rattle.hudi_groups.proofs.GroupChangeLemmas.{distinct_append, distinct_none}
use Rattle.hudi_groups.proofs.GroupPathLemmas.{row_in_group-is, row_in_group-has, row_in_group-distinct}
use Rattle.lake_basics.proofs.Texts.{apart_from_same}
use Rattle.lake_basics.proofs.Truth.{same_tests}

-- ---- tests

pub or_swap : (k b : Bool) → (k || b) ≡ (b || k)
or_swap true true = refl
or_swap true false = refl
or_swap false true = refl
or_swap false false = refl

pub or_step : (k b a : Bool) → (k || (b || a)) ≡ ((b || k) || a)
or_step true true a = refl
or_step true false a = refl
or_step false true a = refl
or_step false false a = refl

pub and_step : (k b a : Bool) → (not k && (not b && a)) ≡ (not (b || k) && a)
and_step true true a = refl
and_step true false a = refl
and_step false true a = refl
and_step false false a = refl

-- ---- the paths of one group

other_keys : (test : List ℕ → Bool) (old new : List (List ℕ)) → set.KeepsOthers bytes_eq test old new → (other : List ℕ → Bool) → IsKeyTest bytes_eq other → AreApart test other → list_any other new ≡ list_any other old
unfolding set.KeepsOthers
other_keys test old new h = h

pub has_group-remove : (path : List ℕ) (old new : Groups) → UpdatesBy bytes_eq (bytes_eq path) old new false
    → (p : List ℕ) → has_group new p ≡ (not (bytes_eq p path) && has_group old p)
has_group-remove path old new h p =
    ⊎_elim
    (λ y. subst (λ l. has_group new l ≡ false) ((bytes_eq-Decides path p).0 y) h.1 ∙ ap (λ b. not b && has_group old p) (sym (nat_list_eq_equiv.symm p path ∙ y)))
    (λ n. other_keys (bytes_eq path) old.keys new.keys h.3 (bytes_eq p) (nat_list_eq_equiv.congr p) (λ k. apart_from_same path p k n)
    ∙ ap (λ b. not b && has_group old p) (sym (nat_list_eq_equiv.symm p path ∙ n)))
    (cases_Bool (bytes_eq path p))

-- ---- a change at one group
abbrev pub at : Index → List ℕ → Option Paths
at index q = get_by (bytes_eq q) index

others : (g : List ℕ) (old new : Index) → KeepsOthers bytes_eq (bytes_eq g) old.entries new.entries → (q : List ℕ) → bytes_eq g q ≡ false → at new q ≡ at old q
unfolding KeepsOthers
others g old new h q n = h (bytes_eq q) (nat_list_eq_equiv.congr q) (λ k. apart_from_same g q k n)

pub at_update : (g : List ℕ) (old new : Index) (w : Option Paths) → at new g ≡ w → KeepsOthers bytes_eq (bytes_eq g) old.entries new.entries
    → (q : List ℕ) → at new q ≡ cond (bytes_eq g q) w (at old q)
at_update g old new w here rest q =
    ⊎_elim
    (λ y. subst (λ l. at new l ≡ w) ((bytes_eq-Decides g q).0 y) here ∙ sym (cond-true (bytes_eq g q) w (at old q) y))
    (λ n. others g old new rest q n ∙ sym (cond-false (bytes_eq g q) w (at old q) n))
    (cases_Bool (bytes_eq g q))

-- the group is put in with these paths, whether it was there or not
pub group_put : (g : List ℕ) (old new : Index) (paths : Paths) → at new g ≡ Some paths → KeepsOthers bytes_eq (bytes_eq g) old.entries new.entries
    → (q p : List ℕ) → has_path new q p ≡ cond (bytes_eq g q) (is_among p (Some paths)) (has_path old q p)
group_put g old new paths puts rest q p =
    ⊎_elim
    (λ y. ap (is_among p) (at_update g old new (Some paths) puts rest q ∙ cond-true (bytes_eq g q) (Some paths) (at old q) y) ∙ sym (cond-true (bytes_eq g q) (is_among p (Some paths)) (has_path old q p) y))
    (λ n. ap (is_among p) (at_update g old new (Some paths) puts rest q ∙ cond-false (bytes_eq g q) (Some paths) (at old q) n) ∙ sym (cond-false (bytes_eq g q) (is_among p (Some paths)) (has_path old q p) n))
    (cases_Bool (bytes_eq g q))

-- a group that was taken out is put back with other paths
pub put_back : (g : List ℕ) (old mid new : Index) (paths : Option Paths) → at mid g ≡ None → KeepsOthers bytes_eq (bytes_eq g) old.entries mid.entries
    → ((q p : List ℕ) → has_path new q p ≡ cond (bytes_eq g q) (is_among p paths) (has_path mid q p))
    → (q p : List ℕ) → has_path new q p ≡ cond (bytes_eq g q) (is_among p paths) (has_path old q p)
put_back g old mid new paths gone rest puts q p =
    puts q p
    ∙ ⊎_elim
    (λ y. cond-true (bytes_eq g q) (is_among p paths) (has_path mid q p) y ∙ sym (cond-true (bytes_eq g q) (is_among p paths) (has_path old q p) y))
    (λ n. ap (λ o. cond (bytes_eq g q) (is_among p paths) (is_among p o)) (at_update g old mid None gone rest q ∙ cond-false (bytes_eq g q) None (at old q) n))
    (cases_Bool (bytes_eq g q))

module _ (g path : List ℕ) (old new : Index) (paths : Option Paths) (named : g ≡ group_name Base path)
    (puts : (q p : List ℕ) → has_path new q p ≡ cond (bytes_eq g q) (is_among p paths) (has_path old q p)) where
  here : (q p : List ℕ) → bytes_eq g q ≡ true → has_path new q p ≡ is_among p paths
  here q p y = puts q p ∙ cond-true (bytes_eq g q) (is_among p paths) (has_path old q p) y

  elsewhere : (q p : List ℕ) → bytes_eq g q ≡ false → has_path new q p ≡ has_path old q p
  elsewhere q p n = puts q p ∙ cond-false (bytes_eq g q) (is_among p paths) (has_path old q p) n

  in_group : (q : List ℕ) (b : Bool) → bytes_eq g q ≡ b → bytes_eq q (group_name Base path) ≡ b
  in_group q b is = ap (bytes_eq q) (sym named) ∙ nat_list_eq_equiv.symm q g ∙ is

  was_here : (q p : List ℕ) → bytes_eq g q ≡ true → is_among p (at old g) ≡ has_path old q p
  was_here q p y = ap (λ l. is_among p (at old l)) ((bytes_eq-Decides g q).0 y)

  pub has_path-with : ((p : List ℕ) → is_among p paths ≡ (bytes_eq p path || is_among p (at old g))) → (q p : List ℕ) → has_path new q p ≡ (is_path_of q p path || has_path old q p)
  has_path-with has q p =
      ⊎_elim
      (λ y. here q p y ∙ has p ∙ ap (λ b. bytes_eq p path || b) (was_here q p y) ∙ ap (λ b. (b && bytes_eq p path) || has_path old q p) (sym (in_group q true y)))
      (λ n. elsewhere q p n ∙ ap (λ b. (b && bytes_eq p path) || has_path old q p) (sym (in_group q false n)))
      (cases_Bool (bytes_eq g q))

  pub has_path-without : ((p : List ℕ) → is_among p paths ≡ (not (bytes_eq p path) && is_among p (at old g))) → (q p : List ℕ) → has_path new q p ≡ (not (is_path_of q p path) && has_path old q p)
  has_path-without has q p =
      ⊎_elim
      (λ y. here q p y ∙ has p ∙ ap (λ b. not (bytes_eq p path) && b) (was_here q p y) ∙ ap (λ b. not (b && bytes_eq p path) && has_path old q p) (sym (in_group q true y)))
      (λ n. elsewhere q p n ∙ ap (λ b. not (b && bytes_eq p path) && has_path old q p) (sym (in_group q false n)))
      (cases_Bool (bytes_eq g q))

-- ---- the index after a change
module _ (old : Table) (change : Change) (new : Table) (after : IsAfter old change new) (q p : List ℕ) where
  abbrev test : FileRow → Bool
  test = is_row_of q p

  path_is : (path : List ℕ) → is_path_of q p path ≡ true → p ≡ path
  path_is path t = (bytes_eq-Decides p path).0 (and_parts (bytes_eq q (group_name Base path)) (bytes_eq p path) t).1

  stays : (row : FileRow) → test row ≡ true → (Contains change.removed row.path → ⊥) → not (list_any (is_path_of q p) change.removed) ≡ true
  stays row t there =
      ap not (any_none (is_path_of q p) change.removed (λ path gone u. there (subst (Contains change.removed) (sym (path_is path u) ∙ path_is row.path t) gone)))

  rows_to : list_any test new.rows ≡ true → (list_any test change.added || (not (list_any (is_path_of q p) change.removed) && list_any test old.rows)) ≡ true
  rows_to h =
      let some = any_to test new.rows h in
      ⊎_elim
      (λ fresh. or_left (list_any test change.added) _ (any_from test change.added some.0 fresh some.2))
      (λ kept. or_right (list_any test change.added) _ (and_from _ _ (stays some.0 some.2 kept.1) (any_from test old.rows some.0 kept.0 some.2)))
      ((after.rows some.0).0 some.1)

  or_cases : (a b : Bool) → (a || b) ≡ true → (a ≡ true) ⊎ (b ≡ true)
  or_cases true b h = inl refl
  or_cases false b h = inr h

  rows_from : (list_any test change.added || (not (list_any (is_path_of q p) change.removed) && list_any test old.rows)) ≡ true → list_any test new.rows ≡ true
  rows_from h =
      ⊎_elim
      (λ fresh. let some = any_to test change.added fresh in any_from test new.rows some.0 ((after.rows some.0).1 (inl some.1)) some.2)
      (λ kept.
      let two = and_parts (not (list_any (is_path_of q p) change.removed)) (list_any test old.rows) kept in
      let some = any_to test old.rows two.1 in
      any_from test new.rows some.0
      ((after.rows some.0).1 (inr (some.1, λ gone. false≢true (sym (ap not (any_from (is_path_of q p) change.removed some.0.path gone some.2)) ∙ two.0))))
      some.2)
      (or_cases (list_any test change.added) _ h)

  pub rows_after_change : list_any test new.rows ≡ (list_any test change.added || (not (list_any (is_path_of q p) change.removed) && list_any test old.rows))
  rows_after_change = same_tests _ _ rows_to rows_from

-- ---- what is found
module _ (rows : List FileRow) where
  among-is : (q : List ℕ) (paths : List (List ℕ)) (row : FileRow) → Contains (rows_among rows q paths) row → Contains rows row × (group_name Base row.path ≡ q) × ((k : List ℕ) × Contains paths k × (row.path ≡ k))
  among-is q [] row h = absurd (Contains-none row h)
  among-is q (k ∷ ks) row h =
      ⊎_elim
      (λ a. let is = row_in_group-is Base rows q k row a in (is.0, is.2, (k, Contains-head k ks, is.1)))
      (λ b. let is = among-is q ks row b in (is.0, is.1, (is.2.0, Contains-tail k ks is.2.0 is.2.1, is.2.2)))
      (Contains-append_cases (row_in_group Base rows q k) (rows_among rows q ks) row h)

  among-distinct : (q : List ℕ) (paths : List (List ℕ)) → IsDistinct bytes_eq paths → HasDistinctPaths (rows_among rows q paths)
  among-distinct q [] unique = distinct_none
  among-distinct q (k ∷ ks) unique =
      distinct_append (row_in_group Base rows q k) (rows_among rows q ks) (row_in_group-distinct Base rows q k) (among-distinct q ks (IsDistinct-tail bytes_eq k ks unique))
      (λ x y in_x in_y same.
      let first = row_in_group-is Base rows q k x in_x in
      let later = (among-is q ks y in_y).2 in
      let differ : bytes_eq k later.0 ≡ false = all_at (λ l. bytes_eq k l ≡ false) ks later.0 (IsDistinct-head bytes_eq k ks unique) later.1 in
      false≢true (sym differ ∙ (bytes_eq-Decides k later.0).1 (sym first.1 ∙ same ∙ later.2)))

  among-has : (q : List ℕ) (paths : List (List ℕ)) (k : List ℕ) (row : FileRow) → HasDistinctPaths rows → Contains rows row → group_name Base row.path ≡ q → Contains paths k → row.path ≡ k
      → Contains (rows_among rows q paths) row
  among-has q [] k row distinct there group in_paths is = absurd (Contains-none k in_paths)
  among-has q (l ∷ ls) k row distinct there group in_paths is =
      ⊎_elim
      (λ same. Contains-append_left (row_in_group Base rows q l) (rows_among rows q ls) row
      (row_in_group-has Base rows q l row distinct (there, is ∙ sym same, group)))
      (λ later. Contains-append_right (row_in_group Base rows q l) (rows_among rows q ls) row (among-has q ls k row distinct there group later is))
      (Contains-cases l ls k in_paths)

  module _ (index : Index) where
    found-is : (keys : List (List ℕ)) (row : FileRow) → Contains (rows_by_index rows index keys) row → Contains rows row × ((k : List ℕ) × Contains keys k × (group_name Base row.path ≡ k))
    found-is [] row h = absurd (Contains-none row h)
    found-is (k ∷ ks) row h =
        ⊎_elim
        (λ a. let is = among-is k (paths_at index k) row a in (is.0, (k, Contains-head k ks, is.1)))
        (λ b. let is = found-is ks row b in (is.0, (is.1.0, Contains-tail k ks is.1.0 is.1.1, is.1.2)))
        (Contains-append_cases (rows_among rows k (paths_at index k)) (rows_by_index rows index ks) row h)

    pub found-distinct : (keys : List (List ℕ)) → IsDistinct bytes_eq keys → ((k : List ℕ) → Contains keys k → IsDistinct bytes_eq (paths_at index k)) → HasDistinctPaths (rows_by_index rows index keys)
    found-distinct [] unique each = distinct_none
    found-distinct (k ∷ ks) unique each =
        distinct_append (rows_among rows k (paths_at index k)) (rows_by_index rows index ks)
        (among-distinct k (paths_at index k) (each k (Contains-head k ks)))
        (found-distinct ks (IsDistinct-tail bytes_eq k ks unique) (λ l there. each l (Contains-tail k ks l there)))
        (λ x y in_x in_y same.
        let first = (among-is k (paths_at index k) x in_x).1 in
        let later = (found-is ks y in_y).1 in
        let differ : bytes_eq k later.0 ≡ false = all_at (λ l. bytes_eq k l ≡ false) ks later.0 (IsDistinct-head bytes_eq k ks unique) later.1 in
        false≢true (sym differ ∙ (bytes_eq-Decides k later.0).1 (sym first ∙ ap (group_name Base) same ∙ later.2)))

    module _ (distinct : HasDistinctPaths rows) (exact : IsIndexOf index rows) where
      in_index : (row : FileRow) → Contains rows row → (k : List ℕ) × Contains (paths_at index (group_name Base row.path)) k × (row.path ≡ k)
      in_index row there =
          let q = group_name Base row.path in
          let t : is_row_of q row.path row ≡ true = and_from _ _ ((bytes_eq-Decides q q).1 refl) ((bytes_eq-Decides row.path row.path).1 refl) in
          let has : has_path index q row.path ≡ true = exact q row.path ∙ any_from (is_row_of q row.path) rows row there t in
          let some = any_to (bytes_eq row.path) (paths_at index q) has in
          (some.0, some.1, (bytes_eq-Decides row.path some.0).0 some.2)

      found-has : (keys : List (List ℕ)) (k : List ℕ) (row : FileRow) → Contains rows row → Contains keys k → group_name Base row.path ≡ k → Contains (rows_by_index rows index keys) row
      found-has [] k row there in_keys is = absurd (Contains-none k in_keys)
      found-has (l ∷ ls) k row there in_keys is =
          ⊎_elim
          (λ same.
          let group : group_name Base row.path ≡ l = is ∙ sym same in
          let some = in_index row there in
          Contains-append_left (rows_among rows l (paths_at index l)) (rows_by_index rows index ls) row
          (among-has l (paths_at index l) some.0 row distinct there group (subst (λ q. Contains (paths_at index q) some.0) group some.1) some.2))
          (λ later. Contains-append_right (rows_among rows l (paths_at index l)) (rows_by_index rows index ls) row (found-has ls k row there later is))
          (Contains-cases l ls k in_keys)

      pub found-same : (groups : Groups) → SameRows (rows_by_index rows index groups.keys) (filter (λ r. has_group groups (group_name Base r.path)) rows)
      found-same groups row = (
        λ h.
            let is = found-is groups.keys row h in
            filter_contains (λ r. has_group groups (group_name Base r.path)) rows row is.0
            (any_from (bytes_eq (group_name Base row.path)) groups.keys is.1.0 is.1.1 ((bytes_eq-Decides (group_name Base row.path) is.1.0).1 is.1.2)),
        λ h.
            let two = Contains-filter (λ r. has_group groups (group_name Base r.path)) rows row h in
            let some = any_to (bytes_eq (group_name Base row.path)) groups.keys two.1 in
            found-has groups.keys some.0 row two.0 some.1 ((bytes_eq-Decides (group_name Base row.path) some.0).0 some.2),
      )

-- ---- the answer of a search by the index
module _ {E : Type 0} (rows : List FileRow) (index : Index) (groups : Groups) where
  pub index_found : (r : Result (Vec FileRow Global) E) → IfOk r (λ v. v.items ≡ rows_by_index rows index groups.keys) → IsIndexOf index rows
      → HasDistinctPaths rows → IfOk r (λ v. SameRows v.items (filter (λ w. has_group groups (group_name Base w.path)) rows))
  index_found (Ok v) is exact distinct = subst (λ l. SameRows l (filter (λ w. has_group groups (group_name Base w.path)) rows)) (sym is) (found-same rows index distinct exact groups)
  index_found (Err e) is exact distinct = tt

  pub index_apart : (r : Result (Vec FileRow Global) E) → IfOk r (λ v. v.items ≡ rows_by_index rows index groups.keys) → IfOk r (λ _. IsDistinct bytes_eq groups.keys)
      → IfOk r (λ _. (k : List ℕ) → Contains groups.keys k → IsDistinct bytes_eq (paths_at index k)) → IfOk r (λ v. HasDistinctPaths v.items)
  index_apart (Ok v) is unique each = subst HasDistinctPaths (sym is) (found-distinct rows index groups.keys unique each)
  index_apart (Err e) is unique each = tt
