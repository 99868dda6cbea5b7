-- Which type a column path has newest among held schemas, and which types it may get.
use Rattle.std.proofs.Common.{◌≡◌, ◌⊎◌, inl, inr, ⊎_elim, ℕ, Bool, true, false, List, [], ◌∷◌, ◌++◌, Contains, Option, Some, None, refl, sym, ap, subst, ◌∙◌, append_assoc, arith}
use Rattle.std.specs.Prelude.{ℤ, pos, ◌≤ℤ◌, ◌==◌, ◌&&◌, int_lt, nat_le, not}
use Rattle.std.proofs.lemmas.Bool.{cases_Bool, cond-false, cond-true, false≢true}
use Rattle.std.proofs.lemmas.Bool.Decides.{Decides-eqb, nat_tests}
use Rattle.std.proofs.lemmas.Int.{ints}
use Rattle.std.proofs.lemmas.List.{append-nil}
use Rattle.std.proofs.lemmas.List.Elements.{Contains-append_cases, Contains-append_left, Contains-append_right}
use Rattle.schema_map.specs.Paths.{Path, column_paths}
use Rattle.schema_map.specs.Image.{wide_columns}
use Rattle.iceberg_field_ids.proofs.IcebergGiven.{column_paths_wide}
use Rattle.table_history.specs.TypeTree as tree
use Rattle.table_history.specs.TypeTree.{ColumnTrees, TypeTree}
use Rattle.table_history.proofs.RowListLemmas.{Contains-cases, Contains-head, Contains-none}
use Rattle.target_iceberg.specs.Fitting.{ChangesType, IdSchema, IsFirstTypeChange, may_become, type_at}
use Rattle.target_iceberg.specs.Following.{AreFirst}
use Rattle.target_iceberg.specs.Newest.{HeldShape, IsTop, is_changed, with_schema, with_schemas, with_type}
use Rattle.target_iceberg.specs.Shapes.{shape_of, widens}

-- ---- types and their shapes

pub as_shapes : (t u : TypeTree) → may_become t u ≡ widens (shape_of t) (shape_of u)
as_shapes tree.boolean tree.boolean = refl
as_shapes tree.byte tree.byte = refl
as_shapes tree.short tree.short = refl
as_shapes tree.int tree.int = refl
as_shapes tree.long tree.long = refl
as_shapes tree.float tree.float = refl
as_shapes tree.double tree.double = refl
as_shapes (tree.decimal p s) (tree.decimal q t) = refl
as_shapes tree.text tree.text = refl
as_shapes tree.binary tree.binary = refl
as_shapes tree.date tree.date = refl
as_shapes tree.timestamp tree.timestamp = refl
as_shapes tree.timestamp_ntz tree.timestamp_ntz = refl
as_shapes (tree.struct_of cs) (tree.struct_of ds) = refl
as_shapes (tree.list_of t b) (tree.list_of u c) = refl
as_shapes (tree.map_of k v b) (tree.map_of l w c) = refl
as_shapes _ _ = refl

decimal_self : (p s : ℕ) → ((s == s) && nat_le p p) ≡ true
decimal_self p s =
    let scale : (s == s) ≡ true = (Decides-eqb s s).1 refl in
    let precision : nat_le p p ≡ true = grind (arith, nat_tests) in
    λ i. scale i && precision i

-- a column may stay of its type
pub become_self : (t : TypeTree) → may_become t t ≡ true
become_self tree.boolean = refl
become_self tree.byte = refl
become_self tree.short = refl
become_self tree.int = refl
become_self tree.long = refl
become_self tree.float = refl
become_self tree.double = refl
become_self (tree.decimal p s) = decimal_self p s
become_self tree.text = refl
become_self tree.binary = refl
become_self tree.date = refl
become_self tree.timestamp = refl
become_self tree.timestamp_ntz = refl
become_self (tree.struct_of cs) = refl
become_self (tree.list_of t b) = refl
become_self (tree.map_of k v b) = refl

-- ---- the newest type

-- Of these schemas this one has the path, with this type, and no newer one has it.
record Newest (held : List IdSchema) (path : Path) (h : HeldShape) : Type 0 where
  schema : IdSchema
  holds : Contains held schema
  type : TypeTree
  at : type_at schema.1 path ≡ Some type
  is : h ≡ (schema.0, shape_of type)
  newest : (other : IdSchema) (u : TypeTree) → Contains held other → type_at other.1 path ≡ Some u → other.0 ≤ℤ schema.0

abbrev Best : List IdSchema → Path → Option HeldShape → Type 0
Best held path None = (schema : IdSchema) (t : TypeTree) → Contains held schema → type_at schema.1 path ≡ Some t → ⊥
Best held path (Some h) = Newest held path h

two_types : (o : Option TypeTree) (t : TypeTree) → o ≡ None → o ≡ Some t → ⊥
two_types o t none some = let both : None ≡ Some t = sym none ∙ some in absurd (cc)

pub same_type : (o : Option TypeTree) (t u : TypeTree) → o ≡ Some t → o ≡ Some u → t ≡ u
same_type o t u one other = let both : Some t ≡ Some u = sym one ∙ other in cc

before_it : (a b : ℤ) → int_lt a b ≡ true → a ≤ℤ b
before_it a b is = grind (arith, ints)

not_before_it : (a b : ℤ) → int_lt a b ≡ false → b ≤ℤ a
not_before_it a b is = grind (arith, ints)

at_most : (a b c : ℤ) → a ≤ℤ b → b ≤ℤ c → a ≤ℤ c
at_most a b c one other = omega (arith, ints, one, other)

itself : (a : ℤ) → a ≤ℤ a
itself a = omega (arith, ints)

module _ (held : List IdSchema) (schema : IdSchema) (path : Path) where
  pub of_both : (other : IdSchema) → Contains (held ++ schema ∷ []) other → Contains held other ⊎ (schema ≡ other)
  of_both other there = ⊎_elim inl (λ last. ⊎_elim inr (λ none. absurd (Contains-none other none)) (Contains-cases schema [] other last)) (Contains-append_cases held (schema ∷ []) other there)

  pub here : Contains (held ++ schema ∷ []) schema
  here = Contains-append_right held (schema ∷ []) schema (Contains-head schema [])

  best_step : (o : Option HeldShape) (t : Option TypeTree) → type_at schema.1 path ≡ t → Best held path o → Best (held ++ schema ∷ []) path (with_type o schema.0 t)
  best_step None None none best = λ other u there at. ⊎_elim
      (λ within. best other u within at)
      (λ (same : schema ≡ other). two_types (type_at schema.1 path) u none (ap (λ (s : IdSchema). type_at s.1 path) same ∙ at))
      (of_both other there)
  best_step (Some h) None none best = record {
    schema = best.schema;
    holds = Contains-append_left held (schema ∷ []) best.schema best.holds;
    type = best.type;
    at = best.at;
    is = best.is;
    newest = λ other u there at. ⊎_elim
        (λ within. best.newest other u within at)
        (λ (same : schema ≡ other). absurd (two_types (type_at schema.1 path) u none (ap (λ (s : IdSchema). type_at s.1 path) same ∙ at)))
        (of_both other there);
  }
  best_step None (Some t) some best = record {
    schema = schema;
    holds = here;
    type = t;
    at = some;
    is = refl;
    newest = λ other u there at. ⊎_elim
        (λ within. absurd (best other u within at))
        (λ (same : schema ≡ other). subst (λ (s : IdSchema). s.0 ≤ℤ schema.0) same (itself schema.0))
        (of_both other there);
  }
  best_step (Some h) (Some t) some best = ⊎_elim
      (λ (older : int_lt h.0 schema.0 ≡ true). subst (λ (o : Option HeldShape). Best (held ++ schema ∷ []) path o) (sym (cond-true (int_lt h.0 schema.0) (Some (schema.0, shape_of t)) (Some h) older)) (record {
        schema = schema;
        holds = here;
        type = t;
        at = some;
        is = refl;
        newest = λ other u there at. ⊎_elim
            (λ within. at_most other.0 best.schema.0 schema.0 (best.newest other u within at) (subst (λ (z : ℤ). z ≤ℤ schema.0) (ap (λ (x : HeldShape). x.0) best.is) (before_it h.0 schema.0 older)))
            (λ (same : schema ≡ other). subst (λ (s : IdSchema). s.0 ≤ℤ schema.0) same (itself schema.0))
            (of_both other there);
      }))
      (λ (newer : int_lt h.0 schema.0 ≡ false). subst (λ (o : Option HeldShape). Best (held ++ schema ∷ []) path o) (sym (cond-false (int_lt h.0 schema.0) (Some (schema.0, shape_of t)) (Some h) newer)) (record {
        schema = best.schema;
        holds = Contains-append_left held (schema ∷ []) best.schema best.holds;
        type = best.type;
        at = best.at;
        is = best.is;
        newest = λ other u there at. ⊎_elim
            (λ within. best.newest other u within at)
            (λ (same : schema ≡ other). subst (λ (s : IdSchema). s.0 ≤ℤ best.schema.0) same (subst (λ (z : ℤ). schema.0 ≤ℤ z) (ap (λ (x : HeldShape). x.0) best.is) (not_before_it h.0 schema.0 newer)))
            (of_both other there);
      }))
      (cases_Bool (int_lt h.0 schema.0))

best_all : (held schemas : List IdSchema) (path : Path) (o : Option HeldShape) → Best held path o → Best (held ++ schemas) path (with_schemas o schemas path)
best_all held [] path o best = subst (λ (l : List IdSchema). Best l path o) (sym (append-nil held)) best
best_all held (s ∷ schemas) path o best =
    subst (λ (l : List IdSchema). Best l path (with_schemas (with_schema o s path) schemas path)) (append_assoc held (s ∷ []) schemas)
    (best_all (held ++ s ∷ []) schemas path (with_schema o s path) (best_step held s path o (type_at s.1 path) refl best))

best_of : (held : List IdSchema) (path : Path) → Best held path (with_schemas None held path)
best_of held path = best_all [] held path None (λ schema t none. absurd (Contains-none schema none))

-- ---- a path that changes its type

module _ (held : List IdSchema) (first : AreFirst held) (stated : ColumnTrees) where
  abbrev pub changed : Path → Bool
  changed path = is_changed (with_schemas None held path) (with_schema None (pos 0, wide_columns stated) path)

  other_type : (t u : TypeTree) → not (widens (shape_of t) (shape_of u)) ≡ true → may_become t u ≡ false
  other_type t u is = ⊎_elim (λ (yes : widens (shape_of t) (shape_of u) ≡ true). absurd (false≢true (sym (ap not yes) ∙ is))) (λ (no : widens (shape_of t) (shape_of u) ≡ false). as_shapes t u ∙ no) (cases_Bool (widens (shape_of t) (shape_of u)))

  found : (path : Path) (o : Option HeldShape) (t : Option TypeTree) → Best held path o → type_at (wide_columns stated) path ≡ t → is_changed o (with_type None (pos 0) t) ≡ true → ChangesType held stated path
  found path None t best at is = absurd (false≢true is)
  found path (Some h) None best at is = absurd (false≢true is)
  found path (Some h) (Some u) best at is = record {
    before = best.type;
    was = record { schema = best.schema; holds = best.holds; at = best.at; newest = best.newest };
    after = u;
    is = at;
    other = other_type best.type u (ap (λ (x : HeldShape). not (widens x.1 (shape_of u))) (sym best.is) ∙ is);
  }

  pub is_found : (path : Path) → changed path ≡ true → ChangesType held stated path
  is_found path is = found path (with_schemas None held path) (type_at (wide_columns stated) path) (best_of held path) refl is

  equal_ids : (a b : ℤ) → a ≤ℤ b → b ≤ℤ a → a ≡ b
  equal_ids a b one other = grind (arith, ints)

  none : (path : Path) (o : Option HeldShape) (t : Option TypeTree) → Best held path o → type_at (wide_columns stated) path ≡ t → is_changed o (with_type None (pos 0) t) ≡ false → ChangesType held stated path → ⊥
  none path None t best at is change = best change.was.schema change.before change.was.holds change.was.at
  none path (Some h) None best at is change = two_types (type_at (wide_columns stated) path) change.after at change.is
  none path (Some h) (Some u) best at is change =
      let id : best.schema.0 ≡ change.was.schema.0 = equal_ids best.schema.0 change.was.schema.0 (change.was.newest best.schema best.type best.holds best.at) (best.newest change.was.schema change.before change.was.holds change.was.at) in
      let one : best.schema ≡ change.was.schema = first.single best.schema change.was.schema best.holds change.was.holds id in
      let before : best.type ≡ change.before = same_type (type_at change.was.schema.1 path) best.type change.before (ap (λ (s : IdSchema). type_at s.1 path) (sym one) ∙ best.at) change.was.at in
      let after : u ≡ change.after = same_type (type_at (wide_columns stated) path) u change.after at change.is in
      let no : widens (shape_of best.type) (shape_of u) ≡ false = sym (as_shapes best.type u) ∙ (λ i. may_become (before i) (after i)) ∙ change.other in
      false≢true (sym is ∙ ap (λ (x : HeldShape). not (widens x.1 (shape_of u))) best.is ∙ ap not no)

  pub is_none : (path : Path) → changed path ≡ false → ChangesType held stated path → ⊥
  is_none path is = none path (with_schemas None held path) (type_at (wide_columns stated) path) (best_of held path) refl is

  -- ---- the first of them

  pub no_change : IsTop changed (column_paths (wide_columns stated)) None → (name : List ℕ) → IsFirstTypeChange held stated name → ⊥
  no_change top name change =
      is_none change.path
      (top change.path (subst (λ (l : List Path). Contains l change.path) (sym (column_paths_wide stated ∙ change.split)) (Contains-append_right change.front (change.path ∷ change.behind) change.path (Contains-head change.path change.behind))))
      change.here

  pub first_change : (name : List ℕ) → IsTop changed (column_paths (wide_columns stated)) (Some name) → IsFirstTypeChange held stated name
  first_change name top = record {
    front = top.front;
    path = top.path;
    behind = top.behind;
    split = sym (column_paths_wide stated) ∙ top.split;
    here = is_found top.path top.here;
    none = λ other there. is_none other (top.none other there);
    below = top.below;
    is = top.is;
  }
