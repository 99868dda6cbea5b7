-- The fields of a record and the branches of a union, one by one.
use Rattle.std.proofs.Common.{◌≡◌, ℕ, false, ◌+◌, ◌<◌, ◌≤◌, List, [], ◌∷◌, length, get_or, drop, map, ◌++◌, Option, Some, None, Result, Ok, Err, refl, sym, ap, subst, ◌∙◌, arith, add-one, drop-cons}
use Rattle.avro_schema.specs.declared.schema.Field.{Field}
use Rattle.avro_schema.specs.declared.schema.Schema.{Schema}
use Rattle.avro_schema.specs.Tree as avro
use Rattle.avro_schema.specs.Tree.{FieldTree, FieldTrees, field, SchemaTree, schema_tree, BranchTrees, tree_of, field_of, fields_of, branches_of}
use Rattle.table_history.specs.TypeTree.{ColumnTree}
use Rattle.table_history.specs.SchemaView.{column_view}
use Rattle.table_history.specs.declared.schema.Column.{Column}
use Rattle.lake_basics.specs.Outcome.{with_front}
use Rattle.lake_basics.proofs.Lists.{pushed_behind}
use Rattle.schema_avro.specs.declared.fault.TypeFault.TheVariants.{NoRow}
use Rattle.schema_avro.specs.Avro.{avro_union, avro_front, avro_part, avro_type, nullable_if}

pub fields_drop : (fs : List Field) (i : ℕ) (f : Field) → i < length fs → f ≡ get_or fs i f → fields_of (map field_of (drop i fs)) ≡ field (field_of f).0 (field_of f).1 (field_of f).2 (fields_of (map field_of (drop (i + 1) fs)))
fields_drop fs i f within is = ap (λ gs. fields_of (map field_of gs)) (drop-cons fs i f within) ∙ rw (add-one, ← is)

pub few_branches : (bs : List Schema) → length bs < 1 → avro_union (branches_of (map tree_of bs)) ≡ Err NoRow
few_branches [] few = refl
few_branches (b ∷ bs) few = absurd (omega (arith, few))

pub many_branches : (bs : List Schema) → 3 ≤ length bs → avro_union (branches_of (map tree_of bs)) ≡ Err NoRow
many_branches [] many = absurd (omega (arith, many))
many_branches (a ∷ []) many = absurd (omega (arith, many))
many_branches (a ∷ b ∷ []) many = absurd (omega (arith, many))
many_branches (a ∷ b ∷ c ∷ bs) many = refl

map_pushed : (cs : List Column) (c : Column) → map column_view (cs ++ c ∷ []) ≡ map column_view cs ++ column_view c ∷ []
map_pushed [] c = refl
map_pushed (d ∷ cs) c = ap (λ (ds : List ColumnTree). column_view d ∷ ds) (map_pushed cs c)

front_pushed : {E : Type 0} (xs : List ColumnTree) (c : ColumnTree) (first : Result ColumnTree E) (others : Result (List ColumnTree) E) → first ≡ Ok c → with_front (xs ++ c ∷ []) others ≡ with_front xs (avro_front first others)
front_pushed xs c first (Ok ys) is = rw is (ap Ok (pushed_behind xs c ys))
front_pushed xs c first (Err e) is = rw is

-- One more field is read, and its column is pushed.
pub field_pushed : {E : Type 0} (read : FieldTrees → Result (List ColumnTree) E) (one : FieldTree → Result ColumnTree E)
    → ((f : FieldTree) (fs : FieldTrees) → read (field f.0 f.1 f.2 fs) ≡ avro_front (one f) (read fs))
    → (fs ys : List Field) (i : ℕ) (x : Field) (old new : List Column) (c : Column) (whole : Result (List ColumnTree) E)
    → ys ≡ fs → i < length ys → x ≡ get_or ys i x → one (field_of x) ≡ Ok (column_view c) → new ≡ old ++ c ∷ []
    → with_front (map column_view old) (read (fields_of (map field_of (drop i fs)))) ≡ whole
    → with_front (map column_view new) (read (fields_of (map field_of (drop (i + 1) fs)))) ≡ whole
field_pushed read one step fs ys i x old new c whole same within at is pushed before =
    let within_fs : i < length fs = subst (λ (zs : List Field). i < length zs) same within in
    let at_fs : x ≡ get_or fs i x = at ∙ ap (λ (zs : List Field). get_or zs i x) same in
    let rest : FieldTrees = fields_of (map field_of (drop (i + 1) fs)) in
    ap (λ (cs : List ColumnTree). with_front cs (read rest)) (ap (λ (cs : List Column). map column_view cs) pushed ∙ map_pushed old c)
    ∙ front_pushed (map column_view old) (column_view c) (one (field_of x)) (read rest) is
    ∙ ap (λ (r : Result (List ColumnTree) _). with_front (map column_view old) r) (sym (step (field_of x) rest))
    ∙ ap (λ (gs : FieldTrees). with_front (map column_view old) (read gs)) (sym (fields_drop fs i x within_fs at_fs))
    ∙ before

-- ---- unions and other types

abbrev pub union_in : SchemaTree → Option BranchTrees
union_in (schema_tree (avro.union_of branches) logical precision scale) = Some branches
union_in (schema_tree shape logical precision scale) = None

pub union_read : (t : SchemaTree) (bs : BranchTrees) → union_in t ≡ Some bs → avro_part t ≡ avro_union bs
union_read (schema_tree avro.null l p s) bs is = absurd cc
union_read (schema_tree avro.boolean l p s) bs is = absurd cc
union_read (schema_tree avro.int l p s) bs is = absurd cc
union_read (schema_tree avro.long l p s) bs is = absurd cc
union_read (schema_tree avro.float l p s) bs is = absurd cc
union_read (schema_tree avro.double l p s) bs is = absurd cc
union_read (schema_tree avro.bytes l p s) bs is = absurd cc
union_read (schema_tree avro.text l p s) bs is = absurd cc
union_read (schema_tree (avro.fixed_of m z) l p s) bs is = absurd cc
union_read (schema_tree (avro.enum_of m z) l p s) bs is = absurd cc
union_read (schema_tree (avro.array_of m z) l p s) bs is = absurd cc
union_read (schema_tree (avro.map_of m z w) l p s) bs is = absurd cc
union_read (schema_tree (avro.record_of m z) l p s) bs is = absurd cc
union_read (schema_tree (avro.union_of cs) l p s) bs is = let same : cs ≡ bs = cc in ap avro_union same

pub plain_read : (t : SchemaTree) → union_in t ≡ None → avro_part t ≡ nullable_if false (avro_type t)
plain_read (schema_tree avro.null l p s) is = refl
plain_read (schema_tree avro.boolean l p s) is = refl
plain_read (schema_tree avro.int l p s) is = refl
plain_read (schema_tree avro.long l p s) is = refl
plain_read (schema_tree avro.float l p s) is = refl
plain_read (schema_tree avro.double l p s) is = refl
plain_read (schema_tree avro.bytes l p s) is = refl
plain_read (schema_tree avro.text l p s) is = refl
plain_read (schema_tree (avro.fixed_of m z) l p s) is = refl
plain_read (schema_tree (avro.enum_of m z) l p s) is = refl
plain_read (schema_tree (avro.array_of m z) l p s) is = refl
plain_read (schema_tree (avro.map_of m z w) l p s) is = refl
plain_read (schema_tree (avro.record_of m z) l p s) is = refl
plain_read (schema_tree (avro.union_of cs) l p s) is = absurd cc
