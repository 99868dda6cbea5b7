-- The field ids that a new schema gets beside those that are known.
use Rattle.std.proofs.Common.{◌≡◌, ◌≢◌, ◌≤◌, ℕ, List, [], ◌∷◌, ◌++◌, map, length, Bool, true, false, Contains, Ok, refl, sym, ap, subst, ◌∙◌, arith, cond, inl, inr, ⊎_elim}
use Rattle.std.specs.Prelude.{◌⊎◌, ◌≤ℤ◌, ◌<ℤ◌, ℤ, Some, None, is_some}
use Rattle.std.specs.List.{zip}
use Rattle.std.proofs.lemmas.Int.{ints}
use Rattle.std.proofs.lemmas.Bool.{false≢true}
use Rattle.std.proofs.lemmas.List.Elements.{Contains-append_cases, Contains-append_right}
use Rattle.std.proofs.lemmas.Slice.Eq.{bytes_eq-Decides, slice_eq-Decides}
use Rattle.std.specs.Cmp.Lexicographic.{pointwise}
use Rattle.std.specs.Str.{bytes_eq}
use Rattle.table_history.specs.History.{column_type}
use Rattle.table_history.specs.TypeTree.{TypeTree, ColumnTrees, no_columns, column}
use Rattle.table_history.proofs.RowListLemmas.{Contains-cases, Contains-head, Contains-none, Contains-tail}
use Rattle.schema_map.specs.Paths.{Path, below, inner_paths, column_paths, known_id}
use Rattle.iceberg_field_ids.specs.Ids.{ids_for}
use Rattle.schema_map.specs.Among.{IsAmong}
use Rattle.iceberg_field_ids.specs.OwnIds.{AreDistinct}
use Rattle.iceberg_field_ids.proofs.OwnIdsGiven.{Taken, first_taken, path_same}

-- ---- the first of the ids

later_over : (known : List (Path × ℤ)) (last : ℤ) (path : Path) (paths : List Path) (ids : List ℤ) (t : Taken known last path paths ids) → last ≤ℤ t.later
later_over known last path paths ids t = elim t.how as (λ _. last ≤ℤ t.later) [ inl k ↦ (let l = k.1 in omega (arith, ints, l)) | inr k ↦ (let l = k.0 in omega (arith, ints, l)) ]

-- ---- what the ids of new paths are

-- the path is known by the id, or it isn't known, and the id is past the last one
abbrev pub IsGiven : List (Path × ℤ) → ℤ → Path × ℤ → Type 0
IsGiven known last p = (known_id known p.0 ≡ Some p.1) ⊎ ((known_id known p.0 ≡ None) × (last <ℤ p.1))

pub given : (known : List (Path × ℤ)) (last : ℤ) (paths : List Path) (ids : List ℤ) → ids_for known last paths ≡ Ok ids → (p : Path × ℤ) → Contains (zip paths ids) p → IsGiven known last p
given known last [] ids e p there = absurd (Contains-none p there)
given known last (path ∷ paths) ids e p there =
    let t = first_taken known last path paths ids (known_id known path) refl e in
    let over = later_over known last path paths ids t in
    let here : Contains (zip (path ∷ paths) (t.id ∷ t.others)) p = subst (λ xs. Contains (zip (path ∷ paths) xs) p) (sym t.whole) there in
    ⊎_elim
    (λ (same : (path, t.id) ≡ p). subst (λ q. IsGiven known last q) same (elim t.how as (λ _. IsGiven known last (path, t.id)) [ inl k ↦ inl k.0 | inr k ↦ inr (k.2, let l = k.0 in let m = k.1 in omega (arith, ints, l, m)) ]))
    (λ (more : Contains (zip paths t.others) p). ⊎_elim (λ k. inl k) (λ (n : (known_id known p.0 ≡ None) × (t.later <ℤ p.1)). inr (n.0, let l = n.1 in omega (arith, ints, l, over))) (given known t.later paths t.others t.rest p more))
    (Contains-cases (path, t.id) (zip paths t.others) p here)

-- one id for two paths, or two ids for one path
abbrev pub Differ : Path × ℤ → Path × ℤ → Type 0
Differ p q = ((p.1 ≡ q.1) × (p.0 ≢ q.0)) ⊎ ((p.0 ≡ q.0) × (p.1 ≢ q.1))

zip_path : (paths : List Path) (ids : List ℤ) (p : Path × ℤ) → Contains (zip paths ids) p → IsAmong p.0 paths
zip_path [] ids p there = absurd (Contains-none p there)
zip_path (path ∷ paths) [] p there = absurd (Contains-none p there)
zip_path (path ∷ paths) (id ∷ ids) p there = ⊎_elim (λ same. inl (ap (λ x. x.0) same)) (λ more. inr (zip_path paths ids p more)) (Contains-cases (path, id) (zip paths ids) p there)

itself : (p q : Path × ℤ) → p ≡ q → Differ p q → ⊥
itself p q same (inl d) = d.1 (ap (λ x. x.0) same)
itself p q same (inr d) = d.1 (ap (λ x. x.1) same)

turned : (p q : Path × ℤ) → Differ p q → Differ q p
turned p q (inl d) = inl (sym d.0, λ e. d.1 (sym e))
turned p q (inr d) = inr (sym d.0, λ e. d.1 (sym e))

-- The first pair differs from no later one, where both paths are new.
first_apart : (known : List (Path × ℤ)) (last : ℤ) (path : Path) (paths : List Path) (ids : List ℤ) (t : Taken known last path paths ids) (q : Path × ℤ) → (IsAmong path paths → ⊥) → known_id known path ≡ None → known_id known q.0 ≡ None → Contains (zip paths t.others) q → Differ (path, t.id) q → ⊥
first_apart known last path paths ids t q own new newer there differ =
    let q_given = given known t.later paths t.others t.rest q there in
    let id_is : t.id ≡ t.later = elim t.how as (λ _. t.id ≡ t.later) [ inl k ↦ absurd (let a = k.0 in let b : Some t.id ≡ None = sym a ∙ new in cc) | inr k ↦ k.1 ] in
    ⊎_elim
    (λ (k : known_id known q.0 ≡ Some q.1). let b : Some q.1 ≡ None = sym k ∙ newer in absurd (cc))
    (λ (n : (known_id known q.0 ≡ None) × (t.later <ℤ q.1)). elim differ as (λ _. ⊥) [
      | inl d ↦ (let l = n.1 in let m = d.0 in omega (arith, ints, l, m, id_is))
      | inr d ↦ own (subst (λ x. IsAmong x paths) (sym d.0) (zip_path paths t.others q there))
    ])
    q_given

new_apart : (known : List (Path × ℤ)) (last : ℤ) (paths : List Path) (ids : List ℤ) → AreDistinct paths → ids_for known last paths ≡ Ok ids → (p q : Path × ℤ) → Contains (zip paths ids) p → Contains (zip paths ids) q → known_id known p.0 ≡ None → known_id known q.0 ≡ None → Differ p q → ⊥
new_apart known last [] ids own e p q there_p there_q new_p new_q differ = absurd (Contains-none p there_p)
new_apart known last (path ∷ paths) ids own e p q there_p there_q new_p new_q differ =
    let t = first_taken known last path paths ids (known_id known path) refl e in
    let at : (r : Path × ℤ) → Contains (zip (path ∷ paths) ids) r → ((path, t.id) ≡ r) ⊎ Contains (zip paths t.others) r = λ r there. Contains-cases (path, t.id) (zip paths t.others) r (subst (λ xs. Contains (zip (path ∷ paths) xs) r) (sym t.whole) there) in
    ⊎_elim
    (λ (first : (path, t.id) ≡ p). ⊎_elim
    (λ (second : (path, t.id) ≡ q). itself p q (sym first ∙ second) differ)
    (λ (later : Contains (zip paths t.others) q). first_apart known last path paths ids t q own.0 (ap (λ x. known_id known x.0) first ∙ new_p) new_q later (subst (λ r. Differ r q) (sym first) differ))
    (at q there_q))
    (λ (later_p : Contains (zip paths t.others) p). ⊎_elim
    (λ (second : (path, t.id) ≡ q). first_apart known last path paths ids t p own.0 (ap (λ x. known_id known x.0) second ∙ new_q) new_p later_p (subst (λ r. Differ r p) (sym second) (turned p q differ)))
    (λ (later_q : Contains (zip paths t.others) q). new_apart known t.later paths t.others own.1 t.rest p q later_p later_q new_p new_q differ)
    (at q there_q))
    (at p there_p)

-- ---- known paths

path_itself : (p : Path) → pointwise bytes_eq p p ≡ true
path_itself p = (slice_eq-Decides bytes_eq-Decides p p (pointwise bytes_eq p p) refl).1 refl

pub known_among : (known : List (Path × ℤ)) (path : Path) (id : ℤ) → known_id known path ≡ Some id → Contains known (path, id)
known_among [] path id h = absurd (cc)
known_among (k ∷ known) path id h = at (known_among known path id) (pointwise bytes_eq k.0 path) refl h
  where
    at : (known_id known path ≡ Some id → Contains known (path, id)) → (b : Bool) → pointwise bytes_eq k.0 path ≡ b → cond b (Some k.1) (known_id known path) ≡ Some id → Contains (k ∷ known) (path, id)
    at rest true is e = subst (λ x. Contains (k ∷ known) x) (let f : k.1 ≡ id = cc in let g : k.0 ≡ path = path_same k.0 path is in (λ i. (g i, f i))) (Contains-head k known)
    at rest false is e = Contains-tail k known (path, id) (rest e)

pub known_some : (known : List (Path × ℤ)) (p : Path × ℤ) → Contains known p → known_id known p.0 ≡ None → ⊥
known_some [] p there none = Contains-none p there
known_some (k ∷ known) p there none = at (known_some known p) (pointwise bytes_eq k.0 p.0) refl none
  where
    at : (Contains known p → known_id known p.0 ≡ None → ⊥) → (b : Bool) → pointwise bytes_eq k.0 p.0 ≡ b → cond b (Some k.1) (known_id known p.0) ≡ None → ⊥
    at rest true is e = absurd (cc)
    at rest false is e =
        ⊎_elim
        (λ (same : k ≡ p). false≢true (sym is ∙ subst (λ x. pointwise bytes_eq k.0 x ≡ true) (ap (λ x. x.0) same) (path_itself k.0)))
        (λ later. rest later e)
        (Contains-cases k known p there)

-- ---- known paths and new ones

module _ (known : List (Path × ℤ)) (last : ℤ) (paths : List Path) (ids : List ℤ)
    (own : AreDistinct paths) (are : ids_for known last paths ≡ Ok ids)
    (within : (k : Path × ℤ) → Contains known k → k.1 ≤ℤ last)
    (agree : (p q : Path × ℤ) → Contains known p → Contains known q → Differ p q → ⊥) where
  -- it is known, or new
  abbrev IsOld : Path × ℤ → Type 0
  IsOld p = Contains known p ⊎ (Contains (zip paths ids) p × (known_id known p.0 ≡ None) × (last <ℤ p.1))

  sorted : (p : Path × ℤ) → Contains (known ++ zip paths ids) p → IsOld p
  sorted p there =
      ⊎_elim
      (λ old. inl old)
      (λ (more : Contains (zip paths ids) p). ⊎_elim (λ (k : known_id known p.0 ≡ Some p.1). inl (known_among known p.0 p.1 k)) (λ (n : (known_id known p.0 ≡ None) × (last <ℤ p.1)). inr (more, n.0, n.1)) (given known last paths ids are p more))
      (Contains-append_cases known (zip paths ids) p there)

  mixed : (p q : Path × ℤ) → Contains known p → known_id known q.0 ≡ None → last <ℤ q.1 → Differ p q → ⊥
  mixed p q old new over (inl d) = let w = within p old in let m = d.0 in omega (arith, ints, w, over, m)
  mixed p q old new over (inr d) = known_some known p old (ap (known_id known) d.0 ∙ new)

  pub still_agree : (p q : Path × ℤ) → Contains (known ++ zip paths ids) p → Contains (known ++ zip paths ids) q → Differ p q → ⊥
  still_agree p q there_p there_q differ =
      ⊎_elim
      (λ (old_p : Contains known p). ⊎_elim
      (λ (old_q : Contains known q). agree p q old_p old_q differ)
      (λ (new_q : Contains (zip paths ids) q × (known_id known q.0 ≡ None) × (last <ℤ q.1)). mixed p q old_p new_q.1 new_q.2 differ)
      (sorted q there_q))
      (λ (new_p : Contains (zip paths ids) p × (known_id known p.0 ≡ None) × (last <ℤ p.1)). ⊎_elim
      (λ (old_q : Contains known q). mixed q p old_q new_p.1 new_p.2 (turned p q differ))
      (λ (new_q : Contains (zip paths ids) q × (known_id known q.0 ≡ None) × (last <ℤ q.1)). new_apart known last paths ids own are p q new_p.0 new_q.0 new_p.1 new_q.1 differ)
      (sorted q there_q))
      (sorted p there_p)

-- ---- the ids of a schema's own paths

pub known_there : (paths : List Path) (ids : List ℤ) (path : Path) → length paths ≤ length ids → Contains paths path → is_some (known_id (zip paths ids) path) ≡ true
known_there [] ids path few there = absurd (Contains-none path there)
known_there (p ∷ paths) [] path few there = absurd (omega arith)
known_there (p ∷ paths) (id ∷ ids) path few there = at (known_there paths ids path (omega arith)) (pointwise bytes_eq p path) refl
  where
    at : (Contains paths path → is_some (known_id (zip paths ids) path) ≡ true) → (b : Bool) → pointwise bytes_eq p path ≡ b → is_some (cond b (Some id) (known_id (zip paths ids) path)) ≡ true
    at rest true is = refl
    at rest false is =
        ⊎_elim
        (λ (same : p ≡ path). absurd (false≢true (sym is ∙ subst (λ x. pointwise bytes_eq p x ≡ true) same (path_itself p))))
        (λ later. rest later)
        (Contains-cases p paths path there)

pub top_path : (cs : ColumnTrees) (name : List ℕ) (t : TypeTree) → column_type cs name ≡ Some t → Contains (column_paths cs) (name ∷ [])
top_path no_columns name t is = absurd (cc)
top_path (column n u b cs) name t is = at (top_path cs name t) (bytes_eq n name) refl is
  where
    at : (column_type cs name ≡ Some t → Contains (column_paths cs) (name ∷ [])) → (b : Bool) → bytes_eq n name ≡ b → cond b (Some u) (column_type cs name) ≡ Some t → Contains (below n (inner_paths u) ++ column_paths cs) (name ∷ [])
    at rest true here e = subst (λ (m : List ℕ). Contains (below n (inner_paths u) ++ column_paths cs) (m ∷ [])) ((bytes_eq-Decides n name).0 here) (Contains-head (n ∷ []) (map (λ p. n ∷ p) (inner_paths u) ++ column_paths cs))
    at rest false here e = Contains-append_right (below n (inner_paths u)) (column_paths cs) (name ∷ []) (rest e)
