-- How the newest shapes are kept, path by path.
use Rattle.std.proofs.Common.{◌≡◌, ◌≢◌, ⊎_elim, ℕ, ◌<◌, ◌+◌, Bool, true, false, cond, List, [], ◌∷◌, length, get_or, drop, map, Contains, Option, Some, None, refl, sym, ap, subst, ◌∙◌, arith}
use Rattle.std.specs.Prelude.{ℤ, int_lt, IfOk, Result, Vec}
use Rattle.std.specs.Cmp.Lexicographic.{pointwise}
use Rattle.std.specs.List.{zip}
use Rattle.std.specs.Str.{bytes_eq}
use Rattle.std.specs.declared.alloc.Global.{Global}
use Rattle.std.specs.Map.{AreApart, IsKeyTest, KeepsOthers, lookup}
use Rattle.std.proofs.lemmas.Bool.{cases_Bool, cond-false, cond-true, false≢true}
use Rattle.std.proofs.lemmas.Int.{ints}
use Rattle.std.proofs.lemmas.List.{drop_more}
use Rattle.std.proofs.lemmas.List.Elements.{Contains-append_cases}
use Rattle.indexmap.specs.IndexMap.{IndexMap, UpdatesBy}
use Rattle.schema_map.specs.Paths.{Path, below, column_paths, inner_paths}
use Rattle.table_history.specs.TypeTree.{ColumnTrees, TypeTree, column, no_columns}
use Rattle.table_history.proofs.RowListLemmas.{Contains-cases, Contains-none}
use Rattle.target_iceberg.specs.Fitting.{IdSchema, type_in}
use Rattle.target_iceberg.specs.Newest.{HeldShape, IsTop, is_changed, is_older, later, shape_at, with_schema, with_schemas, with_type}
use Rattle.target_iceberg.specs.Shapes.{shape_of}
use Rattle.target_iceberg.specs.declared.shape.Shape.{Shape}
use Rattle.iceberg_metadata.proofs.PathLemmas.{path_Decides}

-- ---- one path

other_path : (p q : Path) → (p ≡ q → ⊥) → pointwise bytes_eq p q ≡ false
other_path p q apart = ⊎_elim (λ one. absurd (apart ((path_Decides p q).0 one))) (λ no. no) (cases_Bool (pointwise bytes_eq p q))

abbrev Key : Type 0
Key = Vec (List ℕ) Global

abbrev key_eq : Key → Key → Bool
key_eq x y = pointwise bytes_eq x.items y.items

abbrev by : Path → Key → Bool
by path key = pointwise bytes_eq path key.items

key_test : (path : Path) → IsKeyTest key_eq (by path)
key_test path x y here = ap (λ (p : Path). pointwise bytes_eq p y.items) ((path_Decides path x.items).0 here)

apart_from : (key path : Path) → (key ≡ path → ⊥) → (test : Key → Bool) → ((k : Key) → test k ≡ true → key ≡ k.items) → AreApart test (by path)
apart_from key path apart test at k here = other_path path k.items (λ (same : path ≡ k.items). apart (at k here ∙ sym same))

same_elsewhere : (old new : List (Key × HeldShape)) (test other : Key → Bool) → KeepsOthers key_eq test old new → IsKeyTest key_eq other → AreApart test other → lookup other new ≡ lookup other old
unfolding KeepsOthers
same_elsewhere old new test other keeps is apart = keeps other is apart

pub kept_at : {S : Type 0} (m n : IndexMap Key HeldShape S) (key : Key) (shape : HeldShape) → UpdatesBy key_eq (key_eq key) m n (Some shape) → (path : Path)
    → shape_at n path ≡ cond (pointwise bytes_eq key.items path) (Some shape) (shape_at m path)
kept_at m n key shape updates path = ⊎_elim
    (λ (here : pointwise bytes_eq key.items path ≡ true).
    let same : key.items ≡ path = (path_Decides key.items path).0 here in
    subst (λ (p : Path). shape_at n p ≡ Some shape) same updates.1 ∙ sym (cond-true (pointwise bytes_eq key.items path) (Some shape) (shape_at m path) here))
    (λ (off : pointwise bytes_eq key.items path ≡ false).
    let apart : key.items ≡ path → ⊥ = λ same. false≢true (sym off ∙ (path_Decides key.items path).1 same) in
    same_elsewhere m.entries n.entries (key_eq key) (by path) updates.3 (key_test path) (apart_from key.items path apart (key_eq key) (λ k here. (path_Decides key.items k.items).0 here))
    ∙ sym (cond-false (pointwise bytes_eq key.items path) (Some shape) (shape_at m path) off))
    (cases_Bool (pointwise bytes_eq key.items path))

-- ---- one schema

not_before : (id : ℤ) → int_lt id id ≡ false
not_before id = grind (arith, ints)

settled : (held : Option HeldShape) (id : ℤ) (shape other : Shape) → later (later held (id, shape)) (id, other) ≡ later held (id, shape)
settled None id shape other = ap (λ b. cond b (Some (id, other)) (Some (id, shape))) (not_before id)
settled (Some h) id shape other = ⊎_elim
    (λ (older : int_lt h.0 id ≡ true).
    let now : later (Some h) (id, shape) ≡ Some (id, shape) = cond-true (int_lt h.0 id) (Some (id, shape)) (Some h) older in
    ap (λ o. later o (id, other)) now ∙ ap (λ b. cond b (Some (id, other)) (Some (id, shape))) (not_before id) ∙ sym now)
    (λ (newer : int_lt h.0 id ≡ false).
    let now : later (Some h) (id, shape) ≡ Some h = cond-false (int_lt h.0 id) (Some (id, shape)) (Some h) newer in
    ap (λ o. later o (id, other)) now ∙ cond-false (int_lt h.0 id) (Some (id, other)) (Some h) newer ∙ sym now)
    (cases_Bool (int_lt h.0 id))

-- what is kept at a path behind these pairs
abbrev pub with_pairs : ℤ → Path → Option HeldShape → List (Path × Shape) → Option HeldShape
with_pairs id path held [] = held
with_pairs id path held (p ∷ ps) = with_pairs id path (cond (pointwise bytes_eq p.0 path) (later held (id, p.1)) held) ps

pub as_typed : (id : ℤ) (path : Path) (held : Option HeldShape) (paths : List Path) (types : List TypeTree) → with_pairs id path held (zip paths (map shape_of types)) ≡ with_type held id (type_in (zip paths types) path)
as_typed id path held [] types = refl
as_typed id path held (p ∷ paths) [] = refl
as_typed id path held (p ∷ paths) (t ∷ types) = ⊎_elim
    (λ (here : pointwise bytes_eq p path ≡ true).
    ap (λ b. with_pairs id path (cond b (later held (id, shape_of t)) held) (zip paths (map shape_of types))) here
    ∙ as_typed id path (later held (id, shape_of t)) paths types
    ∙ stays (type_in (zip paths types) path)
    ∙ ap (λ b. with_type held id (cond b (Some t) (type_in (zip paths types) path))) (sym here))
    (λ (off : pointwise bytes_eq p path ≡ false).
    ap (λ b. with_pairs id path (cond b (later held (id, shape_of t)) held) (zip paths (map shape_of types))) off
    ∙ as_typed id path held paths types
    ∙ ap (λ b. with_type held id (cond b (Some t) (type_in (zip paths types) path))) (sym off))
    (cases_Bool (pointwise bytes_eq p path))
  where
    stays : (o : Option TypeTree) → with_type (later held (id, shape_of t)) id o ≡ later held (id, shape_of t)
    stays None = refl
    stays (Some u) = settled held id (shape_of t) (shape_of u)

-- ---- all schemas

pub one_schema_more : {X : Type 0} (f : X → IdSchema) (schemas : List X) (i : ℕ) (schema : X) (held next : Option HeldShape) (path : Path) → i < length schemas → schema ≡ get_or schemas i schema → next ≡ with_schema held (f schema) path
    → with_schemas next (map f (drop (i + 1) schemas)) path ≡ with_schemas held (map f (drop i schemas)) path
one_schema_more f schemas i schema held next path within at step =
    ap (λ o. with_schemas o (map f (drop (i + 1) schemas)) path) step ∙ ap (λ (l : List _). with_schemas held (map f l) path) (sym (drop_more schemas i schema within ∙ ap (λ y. y ∷ drop (i + 1) schemas) (sym at)))

-- ---- one pair more

pub newer_kept : {S : Type 0} (m n : IndexMap Key HeldShape S) (key : Key) (id : ℤ) (shape : Shape) → UpdatesBy key_eq (key_eq key) m n (Some (id, shape)) → is_older (shape_at m key.items) id ≡ true
    → (other : Path) → shape_at n other ≡ cond (pointwise bytes_eq key.items other) (later (shape_at m other) (id, shape)) (shape_at m other)
newer_kept m n key id shape updates older other =
    kept_at m n key (id, shape) updates other
    ∙ ⊎_elim
    (λ (here : pointwise bytes_eq key.items other ≡ true).
    let same : key.items ≡ other = (path_Decides key.items other).0 here in
    let now : later (shape_at m other) (id, shape) ≡ Some (id, shape) = ap (λ b. cond b (Some (id, shape)) (shape_at m other)) (ap (λ (p : Path). is_older (shape_at m p) id) (sym same) ∙ older) in
    ap (λ o. cond (pointwise bytes_eq key.items other) o (shape_at m other)) (sym now))
    (λ (off : pointwise bytes_eq key.items other ≡ false).
    cond-false (pointwise bytes_eq key.items other) (Some (id, shape)) (shape_at m other) off ∙ sym (cond-false (pointwise bytes_eq key.items other) (later (shape_at m other) (id, shape)) (shape_at m other) off))
    (cases_Bool (pointwise bytes_eq key.items other))

pub older_left : {S : Type 0} (m : IndexMap Key HeldShape S) (path : Path) (id : ℤ) (shape : Shape) → is_older (shape_at m path) id ≡ false → (other : Path) → shape_at m other ≡ cond (pointwise bytes_eq path other) (later (shape_at m other) (id, shape)) (shape_at m other)
older_left m path id shape newer other = ⊎_elim
    (λ (here : pointwise bytes_eq path other ≡ true).
    let same : path ≡ other = (path_Decides path other).0 here in
    let now : later (shape_at m other) (id, shape) ≡ shape_at m other = ap (λ b. cond b (Some (id, shape)) (shape_at m other)) (ap (λ (p : Path). is_older (shape_at m p) id) (sym same) ∙ newer) in
    sym (cond-true (pointwise bytes_eq path other) (later (shape_at m other) (id, shape)) (shape_at m other) here ∙ now))
    (λ (off : pointwise bytes_eq path other ≡ false). sym (cond-false (pointwise bytes_eq path other) (later (shape_at m other) (id, shape)) (shape_at m other) off))
    (cases_Bool (pointwise bytes_eq path other))

pub none_kept : {S : Type 0} (m : IndexMap Key HeldShape S) → m.entries ≡ [] → (path : Path) → shape_at m path ≡ None
none_kept m empty path = ap (lookup (λ (k : Key). pointwise bytes_eq path k.items)) empty

abbrev no_shapes : List Shape
no_shapes = []

abbrev no_pairs : List (Path × Shape)
no_pairs = []

zip_none : (xs : List Path) → zip xs no_shapes ≡ no_pairs
zip_none [] = refl
zip_none (x ∷ xs) = refl

pub pairs_step : (id : ℤ) (path : Path) (held next goal : Option HeldShape) (rest behind_rest : List Path) (left behind_left : List Shape) (p q : Path) (s : Shape) → rest ≡ p ∷ behind_rest → left ≡ s ∷ behind_left → q ≡ p
    → next ≡ cond (pointwise bytes_eq q path) (later held (id, s)) held → with_pairs id path held (zip rest left) ≡ goal → with_pairs id path next (zip behind_rest behind_left) ≡ goal
pairs_step id path held next goal rest behind_rest left behind_left p q s rest_is left_is q_is step so_far =
    ap (λ o. with_pairs id path o (zip behind_rest behind_left)) (step ∙ ap (λ (r : Path). cond (pointwise bytes_eq r path) (later held (id, s)) held) q_is)
    ∙ sym (ap (λ (l : List Path). with_pairs id path held (zip l left)) rest_is ∙ ap (λ (l : List Shape). with_pairs id path held (zip (p ∷ behind_rest) l)) left_is)
    ∙ so_far

pub no_paths_left : (id : ℤ) (path : Path) (held goal : Option HeldShape) (rest : List Path) (left : List Shape) → rest ≡ [] → with_pairs id path held (zip rest left) ≡ goal → held ≡ goal
no_paths_left id path held goal rest left none so_far = sym (ap (λ (l : List Path). with_pairs id path held (zip l left)) none) ∙ so_far

pub no_shapes_left : (id : ℤ) (path : Path) (held goal : Option HeldShape) (rest : List Path) (left : List Shape) → left ≡ [] → with_pairs id path held (zip rest left) ≡ goal → held ≡ goal
no_shapes_left id path held goal rest left none so_far = sym (ap (λ (l : List Shape). with_pairs id path held (zip rest l)) none ∙ ap (with_pairs id path held) (zip_none rest)) ∙ so_far

-- ---- the first of the paths

-- paths whose shapes are the same have the same first change
pub top_alike : {E : Type 0} (before after other : Path → Option HeldShape) → ((path : Path) → after path ≡ other path) → (paths others : List Path) → paths ≡ others → (r : Result (Option (List ℕ)) E)
    → IfOk r (IsTop (λ path. is_changed (before path) (after path)) paths) → IfOk r (IsTop (λ path. is_changed (before path) (other path)) others)
top_alike before after other same paths others is r top =
    subst (λ (l : List Path). IfOk r (IsTop (λ path. is_changed (before path) (other path)) l)) is (subst (λ (f : Path → Option HeldShape). IfOk r (IsTop (λ path. is_changed (before path) (f path)) paths)) (λ i path. same path i) top)

-- a column path is never empty
some_below : (name : List ℕ) (paths : List Path) (path : Path) → Contains (map (λ p. name ∷ p) paths) path → path ≢ []
some_below name [] path there = absurd (Contains-none path there)
some_below name (p ∷ paths) path there = ⊎_elim (λ (here : name ∷ p ≡ path). λ none. cc) (λ later. some_below name paths path later) (Contains-cases (name ∷ p) (map (λ p. name ∷ p) paths) path there)

pub some_path : (columns : ColumnTrees) (path : Path) → Contains (column_paths columns) path → path ≢ []
some_path no_columns path there = absurd (Contains-none path there)
some_path (column name kind nullable columns) path there = ⊎_elim
    (λ (here : Contains (below name (inner_paths kind)) path). ⊎_elim (λ (top : name ∷ [] ≡ path). λ none. cc) (λ inside. some_below name (inner_paths kind) path inside) (Contains-cases (name ∷ []) (map (λ p. name ∷ p) (inner_paths kind)) path here))
    (λ later. some_path columns path later)
    (Contains-append_cases (below name (inner_paths kind)) (column_paths columns) path there)
