-- The columns that the fields of a spec are made of.
use Rattle.std.proofs.Common.{◌≡◌, inl, ⊎_elim, ℕ, suc, ℤ, ◌+◌, List, [], ◌∷◌, length, Bool, true, false, cond, Contains, Some, refl, sym, ap, subst, ◌∙◌}
use Rattle.std.specs.Prelude.{option_and_then}
use Rattle.std.specs.Cmp.Lexicographic.{pointwise}
use Rattle.std.specs.List.{AllByRecursion, IsDistinct}
use Rattle.std.specs.Ordering.{int_eq}
use Rattle.std.specs.Str.{bytes_eq}
use Rattle.std.proofs.lemmas.Bool.{cases_Bool, false≢true}
use Rattle.std.proofs.lemmas.Bool.Decides.{Decides-int_eq}
use Rattle.std.proofs.lemmas.Map.Keys.{IsDistinct-cons, IsDistinct-head, IsDistinct-tail}
use Rattle.std.proofs.lemmas.Slice.Eq.{bytes_eq-Decides, slice_eq-Decides}
use Rattle.partition_map.specs.Columns.{column_kind}
use Rattle.schema_map.specs.Paths.{Path, known_id}
use Rattle.table_history.proofs.RowListLemmas.{Contains-cases, Contains-head, Contains-none, Contains-tail}
use Rattle.iceberg_metadata.specs.Paths.{IsRenamed, PathId, path_ids, path_of, source_kind, sources, top_kind}
use Rattle.iceberg_metadata.specs.Schemas.{HeldSchema}
use Rattle.iceberg_metadata.specs.declared.metadata.SpecField.{SpecField}
use Rattle.iceberg_metadata.proofs.ListLemmas.{distinct_Decides}
use Rattle.iceberg_version.specs.Schemas.{AreSpecFields, IsSpecField}
use Rattle.iceberg_version.proofs.IdLemmas.{known_among}

path_same : (p q : Path) → (pointwise bytes_eq p q ≡ true → p ≡ q) × (p ≡ q → pointwise bytes_eq p q ≡ true)
path_same p q = slice_eq-Decides bytes_eq-Decides p q (pointwise bytes_eq p q) refl

module _ (all : List PathId) (kept : IsRenamed all → ⊥) (path : Path) (id : ℤ) (there : Contains all (path, id)) where
  -- the first pair of an id has its one path
  one_path : (p : PathId) → Contains all p → p.1 ≡ id → p.0 ≡ path
  one_path p held at = by (pointwise bytes_eq p.0 path) refl
    where
      by : (b : Bool) → pointwise bytes_eq p.0 path ≡ b → p.0 ≡ path
      by true is = (path_same p.0 path).0 is
      by false is = absurd (kept (record { one = p; other = (path, id); has_one = held; has_other = there; differ = inl (at, λ same. false≢true (sym is ∙ (path_same p.0 path).1 same)) }))

  path_by : (p : PathId) (ps : List PathId) (b : Bool) → int_eq p.1 id ≡ b → Contains all p → (b ≡ false → path_of ps id ≡ Some path) → cond b (Some p.0) (path_of ps id) ≡ Some path
  path_by p ps true at held rest = ap (λ (q : Path). Some q) (one_path p held ((Decides-int_eq p.1 id).0 at))
  path_by p ps false at held rest = rest refl

  path_back : (ps : List PathId) → ((p : PathId) → Contains ps p → Contains all p) → Contains ps (path, id) → path_of ps id ≡ Some path
  path_back [] within here = absurd (Contains-none (path, id) here)
  path_back (p ∷ ps) within here =
      path_by p ps (int_eq p.1 id) refl (within p (Contains-head p ps)) (λ other.
      path_back ps (λ q later. within q (Contains-tail p ps q later))
      (⊎_elim (λ (same : p ≡ (path, id)). absurd (false≢true (sym other ∙ (Decides-int_eq p.1 id).1 (ap (λ (q : PathId). q.1) same)))) (λ later. later) (Contains-cases p ps (path, id) here)))

-- a field of the spec, with its column
pub record HasColumn (schema : HeldSchema) (names : List (List ℕ)) (f : SpecField) : Type 0 where
  pub name : List ℕ
  pub named : Contains names name
  pub number : ℕ
  pub is : IsSpecField (path_ids schema) number name f

pub field_of : (schema : HeldSchema) (k : ℕ) (names : List (List ℕ)) (fields : List SpecField) (f : SpecField) → AreSpecFields schema k names fields → Contains fields f → HasColumn schema names f
field_of schema k [] [] f are there = absurd (Contains-none f there)
field_of schema k [] (g ∷ fields) f are there = absurd are
field_of schema k (n ∷ names) [] f are there = absurd are
field_of schema k (n ∷ names) (g ∷ fields) f are there =
    ⊎_elim
    (λ (same : g ≡ f). record { name = n; named = Contains-head n names; number = k; is = subst (λ (x : SpecField). IsSpecField (path_ids schema) k n x) same are.0 })
    (λ later. let rest = field_of schema (k + 1) names fields f are.1 later in record { name = rest.name; named = Contains-tail n names rest.name rest.named; number = rest.number; is = rest.is })
    (Contains-cases g fields f there)

pub fields_length : (schema : HeldSchema) (k : ℕ) (names : List (List ℕ)) (fields : List SpecField) → AreSpecFields schema k names fields → length fields ≡ length names
fields_length schema k [] [] are = refl
fields_length schema k [] (g ∷ fields) are = absurd are
fields_length schema k (n ∷ names) [] are = absurd are
fields_length schema k (n ∷ names) (g ∷ fields) are = ap suc (fields_length schema (k + 1) names fields are.1)

module _ (schema : HeldSchema) (kept : IsRenamed (path_ids schema) → ⊥) where
  -- the path of a field's column is found by its id
  pub source_path : (name : List ℕ) (id : ℤ) → known_id (path_ids schema) (name ∷ []) ≡ Some id → path_of (path_ids schema) id ≡ Some (name ∷ [])
  source_path name id is =
      let there = known_among (path_ids schema) (name ∷ []) id is in
      path_back (path_ids schema) kept (name ∷ []) id there (path_ids schema) (λ p in_all. in_all) there

  pub source_is : (name : List ℕ) (id : ℤ) → known_id (path_ids schema) (name ∷ []) ≡ Some id → source_kind schema id ≡ column_kind schema.1 name
  source_is name id is = ap (option_and_then (top_kind schema.1)) (source_path name id is)

  apart_ids : (k : ℕ) (names : List (List ℕ)) (fields : List SpecField) (name : List ℕ) (id : ℤ) → AreSpecFields schema k names fields → known_id (path_ids schema) (name ∷ []) ≡ Some id → AllByRecursion (λ y. bytes_eq name y ≡ false) names → AllByRecursion (λ y. int_eq id y ≡ false) (sources fields)
  apart_ids k [] [] name id are is apart = tt
  apart_ids k [] (g ∷ fields) name id are is apart = absurd are
  apart_ids k (n ∷ names) [] name id are is apart = absurd are
  apart_ids k (n ∷ names) (g ∷ fields) name id are is apart = (
    ⊎_elim
        (λ (yes : int_eq id g.source_id ≡ true).
        let same : id ≡ g.source_id = (Decides-int_eq id g.source_id).0 yes in
        let one = source_path name id is in
        let two = source_path n g.source_id are.0.source in
        let paths : Some (name ∷ []) ≡ Some (n ∷ []) = sym one ∙ ap (path_of (path_ids schema)) same ∙ two in
        absurd (false≢true (sym apart.0 ∙ (bytes_eq-Decides name n).1 (let e : name ≡ n = cc paths in e))))
        (λ no. no)
        (cases_Bool (int_eq id g.source_id)),
    apart_ids (k + 1) names fields name id are.1 is apart.1,
  )

  pub own_sources : (k : ℕ) (names : List (List ℕ)) (fields : List SpecField) → AreSpecFields schema k names fields → IsDistinct bytes_eq names → IsDistinct int_eq (sources fields)
  own_sources k [] [] are own = (distinct_Decides []).0 refl
  own_sources k [] (g ∷ fields) are own = absurd are
  own_sources k (n ∷ names) [] are own = absurd are
  own_sources k (n ∷ names) (g ∷ fields) are own =
      IsDistinct-cons int_eq g.source_id (sources fields) (apart_ids (k + 1) names fields n g.source_id are.1 are.0.source (IsDistinct-head bytes_eq n names own)) (own_sources (k + 1) names fields are.1 (IsDistinct-tail bytes_eq n names own))
