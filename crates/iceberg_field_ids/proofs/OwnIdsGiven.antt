-- No two paths of a schema get one id.
use Rattle.std.proofs.Common.{◌≡◌, ℕ, List, [], ◌∷◌, ◌++◌, map, Bool, true, false, Ok, Err, refl, sym, ap, subst, ◌∙◌, arith, cond}
use Rattle.std.specs.Prelude.{◌⊎◌, ◌≤ℤ◌, ◌<ℤ◌, ◌+ℤ◌, ℤ, pos, int_lt, Option, Some, None, codes}
use Rattle.std.proofs.lemmas.Int.{ints}
use Rattle.std.proofs.lemmas.Bool.{or_left, or_right, true≢false}
use Rattle.std.proofs.lemmas.Slice.Eq.{bytes_eq-Decides, slice_eq-Decides}
use Rattle.std.specs.Cmp.Lexicographic.{pointwise}
use Rattle.std.specs.List.{AllByRecursion}
use Rattle.std.specs.Str.{bytes_eq}
use Rattle.table_history.specs.TypeTree as tree
use Rattle.table_history.specs.TypeTree.{TypeTree, ColumnTrees, no_columns, column}
use Rattle.schema_map.specs.declared.fault.MapError.TheVariants.{Limit}
use Rattle.table_history.specs.declared.limit.LimitKind.TheVariants.{Versions}
use Rattle.table_history.specs.Sound.{is_named, have_own_names, IsSoundType, AreSound, IsSound}
use Rattle.schema_map.specs.Paths.{Path, below, inner_paths, column_paths, known_id}
use Rattle.iceberg_field_ids.specs.Ids.{next_id, id_step, ids_for}
use Rattle.lake_basics.specs.Outcome.{◌>>=◌}
use Rattle.lake_basics.proofs.Truth.{false_and_true}
use Rattle.schema_map.specs.Among.{IsAmong}
use Rattle.iceberg_field_ids.specs.OwnIds.{AreDistinct, AreKnown, KeepsKnown}
use Rattle.schema_map.proofs.Bound.{bound}
use mathlib.Core.Logic.{inl, inr}

module _ {X : Type 0} where
  among_append : (x : X) (xs ys : List X) → IsAmong x (xs ++ ys) → IsAmong x xs ⊎ IsAmong x ys
  among_append x [] ys h = inr h
  among_append x (y ∷ xs) ys (inl e) = inl (inl e)
  among_append x (y ∷ xs) ys (inr h) = elim (among_append x xs ys h) as (λ _. IsAmong x (y ∷ xs) ⊎ IsAmong x ys) [ inl a ↦ inl (inr a) | inr b ↦ inr b ]

  distinct_append : (xs ys : List X) → AreDistinct xs → AreDistinct ys → ((x : X) → IsAmong x xs → IsAmong x ys → ⊥) → AreDistinct (xs ++ ys)
  distinct_append [] ys dx dy apart = dy
  distinct_append (x ∷ xs) ys dx dy apart = (
    λ h. elim (among_append x xs ys h) as (λ _. ⊥) [ inl a ↦ dx.0 a | inr b ↦ apart x (inl refl) b ],
    distinct_append xs ys dx.1 dy (λ z a b. apart z (inr a) b),
  )

-- ---- paths

unfoldable Tail : List ℕ → Path → List Path → Type 0
Tail n p ps = (q : Path) × IsAmong q ps × (n ∷ q ≡ p)

cons_among : (n : List ℕ) (p : Path) (ps : List Path) → IsAmong p (map (λ q. n ∷ q) ps) → Tail n p ps
unfolding Tail
cons_among n p [] h = absurd h
cons_among n p (q ∷ ps) (inl e) = (q, inl refl, e)
cons_among n p (q ∷ ps) (inr h) = let t = cons_among n p ps h in (t.0, inr t.1, t.2)

pub cons_distinct : (n : List ℕ) (ps : List Path) → AreDistinct ps → AreDistinct (map (λ q. n ∷ q) ps)
unfolding Tail
cons_distinct n [] d = tt
cons_distinct n (q ∷ ps) d = (λ h. let t = cons_among n (n ∷ q) ps h in let e : t.0 ≡ q = let f : n ∷ t.0 ≡ n ∷ q = t.2 in cc in d.0 (subst (λ r. IsAmong r ps) e t.1), cons_distinct n ps d.1)

pub not_empty_map : (n : List ℕ) (ps : List Path) → IsAmong [] (map (λ q. n ∷ q) ps) → ⊥
not_empty_map n [] h = h
not_empty_map n (q ∷ ps) (inl e) = absurd (cc)
not_empty_map n (q ∷ ps) (inr h) = not_empty_map n ps h

below_distinct : (n : List ℕ) (ps : List Path) → (IsAmong [] ps → ⊥) → AreDistinct ps → AreDistinct (below n ps)
unfolding Tail
below_distinct n ps full d = (λ h. let t = cons_among n (n ∷ []) ps h in let e : t.0 ≡ [] = let f : n ∷ t.0 ≡ n ∷ [] = t.2 in cc in full (subst (λ r. IsAmong r ps) e t.1), cons_distinct n ps d)

below_full : (n : List ℕ) (ps : List Path) → IsAmong [] (below n ps) → ⊥
below_full n ps (inl e) = absurd (cc)
below_full n ps (inr h) = not_empty_map n ps h

-- a path below a name begins with it
unfoldable Begins : List ℕ → Path → Type 0
Begins n p = (q : Path) × (n ∷ q ≡ p)

below_begins : (n : List ℕ) (p : Path) (ps : List Path) → IsAmong p (below n ps) → Begins n p
unfolding Tail Begins
below_begins n p ps (inl e) = ([], e)
below_begins n p ps (inr h) = let t = cons_among n p ps h in (t.0, t.2)

mutual
  inner_full : (t : TypeTree) → IsAmong [] (inner_paths t) → ⊥
  inner_full (tree.struct_of cs) h = column_full cs h
  inner_full (tree.list_of t b) h = below_full _ _ h
  inner_full (tree.map_of k v b) h = elim (among_append [] (below (codes "key") (inner_paths k)) (below (codes "value") (inner_paths v)) h) as (λ _. ⊥) [ inl a ↦ below_full _ _ a | inr c ↦ below_full _ _ c ]
  inner_full tree.boolean h = h
  inner_full tree.byte h = h
  inner_full tree.short h = h
  inner_full tree.int h = h
  inner_full tree.long h = h
  inner_full tree.float h = h
  inner_full tree.double h = h
  inner_full (tree.decimal p s) h = h
  inner_full tree.text h = h
  inner_full tree.binary h = h
  inner_full tree.date h = h
  inner_full tree.timestamp h = h
  inner_full tree.timestamp_ntz h = h

  column_full : (cs : ColumnTrees) → IsAmong [] (column_paths cs) → ⊥
  column_full no_columns h = h
  column_full (column n t b cs) h = elim (among_append [] (below n (inner_paths t)) (column_paths cs) h) as (λ _. ⊥) [ inl a ↦ below_full _ _ a | inr c ↦ column_full cs c ]

-- a path of these columns begins with the name of one
unfoldable Named : ColumnTrees → Path → Type 0
Named cs p = (m : List ℕ) × Begins m p × (is_named m cs ≡ true)

column_begins : (cs : ColumnTrees) (p : Path) → IsAmong p (column_paths cs) → Named cs p
unfolding Named
column_begins no_columns p h = absurd h
column_begins (column n t b cs) p h =
    elim (among_append p (below n (inner_paths t)) (column_paths cs) h) as (λ _. Named (column n t b cs) p) [
      | inl a ↦ (n, below_begins n p _ a, or_left (bytes_eq n n) _ ((bytes_eq-Decides n n).1 refl))
      | inr c ↦ let m = column_begins cs p c in (m.0, m.1, or_right (bytes_eq n m.0) _ m.2)
    ]

same_begin : (n m : List ℕ) (p : Path) → Begins n p → Begins m p → n ≡ m
unfolding Begins
same_begin n m p a b = let e : n ∷ a.0 ≡ m ∷ b.0 = a.1 ∙ sym b.1 in cc

mutual
  unfolding Named

  own_inner : (t : TypeTree) → IsSoundType t → AreDistinct (inner_paths t)
  own_inner (tree.struct_of cs) sound = own_columns cs sound.0 sound.1
  own_inner (tree.list_of t b) sound = below_distinct (codes "element") (inner_paths t) (inner_full t) (own_inner t sound)
  own_inner (tree.map_of k v b) sound =
      distinct_append (below (codes "key") (inner_paths k)) (below (codes "value") (inner_paths v))
      (below_distinct (codes "key") (inner_paths k) (inner_full k) (own_inner k sound.0)) (below_distinct (codes "value") (inner_paths v) (inner_full v) (own_inner v sound.1))
      (λ p a c. let e = same_begin (codes "key") (codes "value") p (below_begins (codes "key") p (inner_paths k) a) (below_begins (codes "value") p (inner_paths v) c) in true≢false (sym ((bytes_eq-Decides (codes "key") (codes "value")).1 e)))
  own_inner tree.boolean sound = tt
  own_inner tree.byte sound = tt
  own_inner tree.short sound = tt
  own_inner tree.int sound = tt
  own_inner tree.long sound = tt
  own_inner tree.float sound = tt
  own_inner tree.double sound = tt
  own_inner (tree.decimal p s) sound = tt
  own_inner tree.text sound = tt
  own_inner tree.binary sound = tt
  own_inner tree.date sound = tt
  own_inner tree.timestamp sound = tt
  own_inner tree.timestamp_ntz sound = tt

  own_columns : (cs : ColumnTrees) → have_own_names cs ≡ true → AreSound cs → AreDistinct (column_paths cs)
  own_columns no_columns own sound = tt
  own_columns (column n t b cs) own sound =
      let parts = false_and_true (is_named n cs) (have_own_names cs) own in
      distinct_append (below n (inner_paths t)) (column_paths cs) (below_distinct n (inner_paths t) (inner_full t) (own_inner t sound.0)) (own_columns cs parts.1 sound.1)
      (λ p a c. let m = column_begins cs p c in let e = same_begin m.0 n p m.1 (below_begins n p (inner_paths t) a) in true≢false (sym (subst (λ x. is_named x cs ≡ true) e m.2) ∙ parts.0))

pub own_paths : (cs : ColumnTrees) → IsSound cs → AreDistinct (column_paths cs)
own_paths cs sound = own_columns cs sound.0 sound.1

-- ---- ids

known_among : (known : List (Path × ℤ)) (p : Path) (i : ℤ) → known_id known p ≡ Some i → IsAmong i (map (λ k. k.1) known)
known_among [] p i e = absurd (cc)
known_among (k ∷ known) p i e = at (known_among known p i) (pointwise bytes_eq k.0 p) e
  where
    at : (known_id known p ≡ Some i → IsAmong i (map (λ k. k.1) known)) → (b : Bool) → cond b (Some k.1) (known_id known p) ≡ Some i → IsAmong i (map (λ k. k.1) (k ∷ known))
    at more true h = inl (cc)
    at more false h = inr (more h)

pub path_same : (p q : Path) → pointwise bytes_eq p q ≡ true → p ≡ q
path_same p q e = (slice_eq-Decides bytes_eq-Decides p q (pointwise bytes_eq p q) refl).0 e

one_path : (known : List (Path × ℤ)) (p q : Path) (i : ℤ) → AreDistinct (map (λ k. k.1) known) → known_id known p ≡ Some i → known_id known q ≡ Some i → p ≡ q
one_path [] p q i d e f = absurd (cc)
one_path (k ∷ known) p q i d e f = at (one_path known p q i d.1) _ _ refl refl e f
  where
    at : (known_id known p ≡ Some i → known_id known q ≡ Some i → p ≡ q) → (b c : Bool) → pointwise bytes_eq k.0 p ≡ b → pointwise bytes_eq k.0 q ≡ c → cond b (Some k.1) (known_id known p) ≡ Some i → cond c (Some k.1) (known_id known q) ≡ Some i → p ≡ q
    at more true true x y g h = sym (path_same k.0 p x) ∙ path_same k.0 q y
    at more true false x y g h = let s : k.1 ≡ i = cc in absurd (d.0 (subst (λ j. IsAmong j (map (λ k. k.1) known)) (sym s) (known_among known q i h)))
    at more false true x y g h = let s : k.1 ≡ i = cc in absurd (d.0 (subst (λ j. IsAmong j (map (λ k. k.1) known)) (sym s) (known_among known p i g)))
    at more false false x y g h = more g h

known_within : (known : List (Path × ℤ)) (last : ℤ) (p : Path) (i : ℤ) → AllByRecursion (λ k. k.1 ≤ℤ last) known → known_id known p ≡ Some i → i ≤ℤ last
known_within [] last p i all e = absurd (cc)
known_within (k ∷ known) last p i all e = at (known_within known last p i all.1) (pointwise bytes_eq k.0 p) e
  where
    at : (known_id known p ≡ Some i → i ≤ℤ last) → (b : Bool) → cond b (Some k.1) (known_id known p) ≡ Some i → i ≤ℤ last
    at more true h = let s : k.1 ≡ i = cc in subst (λ j. j ≤ℤ last) s all.0
    at more false h = more h

-- the first path's id, and what is left
pub record Taken (known : List (Path × ℤ)) (last : ℤ) (path : Path) (paths : List Path) (ids : List ℤ) : Type 0 where
  pub id : ℤ
  pub later : ℤ
  pub others : List ℤ
  pub whole : id ∷ others ≡ ids
  pub rest : ids_for known later paths ≡ Ok others
  pub how : ((known_id known path ≡ Some id) × (later ≡ last)) ⊎ ((later ≡ last +ℤ pos 1) × (id ≡ later) × (known_id known path ≡ None))

next_found : (last : ℤ) (b : Bool) (id : ℤ) → int_lt last (pos 2147483647) ≡ b → next_id last ≡ Ok id → last +ℤ pos 1 ≡ id
next_found last b id is e = at b id (rw is at e)
  where
    at : (b : Bool) (id : ℤ) → cond b (Ok (last +ℤ pos 1)) (Err (Limit Versions)) ≡ Ok id → last +ℤ pos 1 ≡ id
    at true id h = cc
    at false id h = absurd (cc)

pub first_taken : (known : List (Path × ℤ)) (last : ℤ) (path : Path) (paths : List Path) (ids : List ℤ) (o : Option ℤ) → known_id known path ≡ o → ids_for known last (path ∷ paths) ≡ Ok ids → Taken known last path paths ids
first_taken known last path paths ids (Some i) is e =
    let f : (ids_for known last paths >>= λ others. Ok (i ∷ others)) ≡ Ok ids = rw is at e in
    let others = bound (ids_for known last paths) _ ids f in
    record { id = i; later = last; others = others.value; whole = let g = others.behind in cc; rest = others.first; how = inl (is, refl) }
first_taken known last path paths ids None is e =
    let f : (id_step last None >>= λ t. ids_for known t.1 paths >>= λ others. Ok (t.0 ∷ others)) ≡ Ok ids = rw is at e in
    let t = bound (id_step last None) _ ids f in
    let next = bound (next_id last) _ t.value t.first in
    let others = bound (ids_for known t.value.1 paths) _ ids t.behind in
    let new = next_found last (int_lt last (pos 2147483647)) next.value refl next.first in
    let both : (next.value, next.value) ≡ t.value = let g = next.behind in cc in
    record { id = t.value.0; later = t.value.1; others = others.value; whole = let g = others.behind in cc; rest = others.first; how = inr (sym (ap (λ p. p.1) both) ∙ sym new, sym (ap (λ p. p.0) both) ∙ ap (λ p. p.1) both, is) }

-- what an id is: that of a known path, or one over the last
unfoldable Given : List (Path × ℤ) → ℤ → List Path → ℤ → Type 0
Given known last paths x = ((p : Path) × IsAmong p paths × (known_id known p ≡ Some x)) ⊎ (last <ℤ x)

given_ids : (known : List (Path × ℤ)) (last : ℤ) (paths : List Path) (ids : List ℤ) → ids_for known last paths ≡ Ok ids → (x : ℤ) → IsAmong x ids → Given known last paths x
unfolding Given
given_ids known last [] ids e x h = let none : ids ≡ [] = cc in absurd (subst (λ xs. IsAmong x xs) none h)
given_ids known last (path ∷ paths) ids e x h =
    let t = first_taken known last path paths ids (known_id known path) refl e in
    let rest = given_ids known t.later paths t.others t.rest x in
    let among : IsAmong x (t.id ∷ t.others) = subst (λ xs. IsAmong x xs) (sym t.whole) h in
    elim t.how as (λ _. Given known last (path ∷ paths) x) [
      | inl k ↦ elim among as (λ _. Given known last (path ∷ paths) x) [
        | inl same ↦ inl (path, inl refl, k.0 ∙ ap Some same)
        | inr more ↦ elim (rest more) as (λ _. Given known last (path ∷ paths) x) [ inl g ↦ inl (g.0, inr g.1, g.2) | inr over ↦ inr (let l = k.1 in omega (arith, ints, over, l)) ]
      ]
      | inr k ↦ elim among as (λ _. Given known last (path ∷ paths) x) [
        | inl same ↦ inr (let l = k.0 in let m = k.1 in omega (arith, ints, same, l, m))
        | inr more ↦ elim (rest more) as (λ _. Given known last (path ∷ paths) x) [ inl g ↦ inl (g.0, inr g.1, g.2) | inr over ↦ inr (let l = k.0 in omega (arith, ints, over, l)) ]
      ]
    ]

own_ids : (known : List (Path × ℤ)) (bound_last last : ℤ) (paths : List Path) (ids : List ℤ) → AreKnown known bound_last → bound_last ≤ℤ last → AreDistinct paths → ids_for known last paths ≡ Ok ids → AreDistinct ids
unfolding Given
own_ids known top last [] ids are over own e = let none : [] ≡ ids = cc in subst (λ xs. AreDistinct xs) none tt
own_ids known top last (path ∷ paths) ids are over own e =
    let t = first_taken known last path paths ids (known_id known path) refl e in
    let given = given_ids known t.later paths t.others t.rest t.id in
    let later : top ≤ℤ t.later = elim t.how as (λ _. top ≤ℤ t.later) [ inl k ↦ (let l = k.1 in omega (arith, ints, over, l)) | inr k ↦ (let l = k.0 in omega (arith, ints, over, l)) ] in
    let apart : IsAmong t.id t.others → ⊥ = λ h. elim t.how as (λ _. ⊥) [
      | inl k ↦ elim (given h) as (λ _. ⊥) [
        | inl g ↦ own.0 (subst (λ p. IsAmong p paths) (one_path known g.0 path t.id are.ids g.2 k.0) g.1)
        | inr more ↦ (let w = known_within known top path t.id are.within k.0 in omega (arith, ints, w, more, later))
      ]
      | inr k ↦ elim (given h) as (λ _. ⊥) [
        | inl g ↦ (let w = known_within known top g.0 t.id are.within g.2 in let l = k.0 in let m = k.1 in omega (arith, ints, w, l, m, over))
        | inr more ↦ (let m = k.1 in omega (arith, ints, more, m))
      ]
    ] in
    subst (λ xs. AreDistinct xs) t.whole (apart, own_ids known top t.later paths t.others are later own.1 t.rest)

pub own_schema_ids : (known : List (Path × ℤ)) (last : ℤ) (cs : ColumnTrees) (ids : List ℤ) → AreKnown known last → IsSound cs → ids_for known last (column_paths cs) ≡ Ok ids → AreDistinct ids
own_schema_ids known last cs ids are sound e = own_ids known last last (column_paths cs) ids are (omega (arith, ints)) (own_columns cs sound.0 sound.1) e

pub kept_ids : (known : List (Path × ℤ)) (last : ℤ) (paths : List Path) (ids : List ℤ) → ids_for known last paths ≡ Ok ids → KeepsKnown known paths ids
kept_ids known last [] ids e = let none : [] ≡ ids = cc in subst (λ xs. KeepsKnown known [] xs) none tt
kept_ids known last (path ∷ paths) ids e =
    let t = first_taken known last path paths ids (known_id known path) refl e in
    let first : (known_as : ℤ) → known_id known path ≡ Some known_as → t.id ≡ known_as = λ j is. elim t.how as (λ _. t.id ≡ j) [
      | inl k ↦ (let a = k.0 in cc)
      | inr k ↦ absurd (let a = k.2 in cc)
    ] in
    subst (λ xs. KeepsKnown known (path ∷ paths) xs) t.whole (first, kept_ids known t.later paths t.others t.rest)
