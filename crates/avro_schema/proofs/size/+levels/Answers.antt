use Rattle.std.proofs.Common.{◌≡◌, ℕ, suc, ◌+◌, ◌-◌, ◌<◌, ◌≤◌, ◌↔◌, Bool, IsTrue, List, length, get_or, drop, map, max, Option, Box, Vec, Global, ℤ, ap, sym, ◌∙◌, add-one, arith, rules, drop-cons}
use Rattle.std.proofs.lemmas.Bool.{false≢true}
use Rattle.avro_schema.specs.declared.schema.Schema.{Schema, out-Schema, the_lemmas}
use Rattle.avro_schema.specs.declared.schema.Field.{Field}
use Rattle.avro_schema.specs.declared.schema.Shape.{Shape, Array, Map, Fields}
use Rattle.avro_schema.specs.Tree.{FieldTree, tree_of, shape_of, field_of, branches_of, fields_of}
use Rattle.avro_schema.specs.Sizes.{level_count, shape_level_count, branch_level_count, field_level_count}
use Rattle.avro_schema.proofs.FieldTrees.{field_is}
use Rattle.avro_schema.proofs.size.+levels.Goals as goal

-- ---- the levels of a type and of its parts

levels_in : (s : Schema) → level_count (tree_of s) ≡ shape_level_count (shape_of (out-Schema s).shape)
levels_in s = search (rules, the_lemmas)

in_array : (items : Box Schema Global) (id : Option ℤ) → shape_level_count (shape_of (Array items id)) ≡ level_count (tree_of items.value) + 1
in_array items id = search (rules, the_lemmas)

in_map : (values : Box Schema Global) (key value : Option ℤ) → shape_level_count (shape_of (Map values key value)) ≡ level_count (tree_of values.value) + 1
in_map values key value = search (rules, the_lemmas)

in_fields : (name : List ℕ) (fields : Vec Field Global) → shape_level_count (shape_of (Fields name fields)) ≡ field_level_count (fields_of (map field_of fields.items)) + 1
in_fields name fields = search (rules, the_lemmas)

levels_at : (s : Schema) (x : Shape) (n : ℕ) → (out-Schema s).shape ≡ x → shape_level_count (shape_of x) ≡ n → level_count (tree_of s) ≡ n
levels_at s x n at parts = levels_in s ∙ ap (λ (y : Shape). shape_level_count (shape_of y)) at ∙ parts

one_less : (r : Bool) (limit parts all : ℕ) → (limit ≡ 0 → ⊥) → all ≡ parts + 1 → (IsTrue r ↔ parts ≤ limit - 1) → IsTrue r ↔ all ≤ limit
one_less r limit parts all some more h = (λ t. let p = h.0 t in omega (arith, p), λ le. h.1 (omega (arith, le)))

pub has_levels_within-returns-in-Array : goal.has_levels_within-returns-in-Array
has_levels_within-returns-in-Array t c =
    one_less _ _ _ _ c.if-limit-eq0.false (levels_at c.args.schema.now _ _ c.in-Array.is (in_array c.in-Array.items c.in-Array.element_id ∙ ap (λ (s : Schema). level_count (tree_of s) + 1) (sym c.deref.ensures))) c.has_levels_within.ensures

pub has_levels_within-returns-in-Map : goal.has_levels_within-returns-in-Map
has_levels_within-returns-in-Map t c =
    one_less _ _ _ _ c.if-limit-eq0.false (levels_at c.args.schema.now _ _ c.in-Map.is (in_map c.in-Map.values c.in-Map.key_id c.in-Map.value_id ∙ ap (λ (s : Schema). level_count (tree_of s) + 1) (sym c.deref-in-Map.ensures))) c.has_levels_within-in-Map.ensures

pub has_levels_within-returns-in-Fields : goal.has_levels_within-returns-in-Fields
has_levels_within-returns-in-Fields t c =
    one_less _ _ _ _ c.if-limit-eq0.false (levels_at c.args.schema.now _ _ c.in-Fields.is (in_fields c.in-Fields.name c.in-Fields.fields)) c.fields_within.ensures

-- ---- one after another

branches_from : (bs items : List Schema) (i : ℕ) (b : Schema) → items ≡ bs → i < length items → b ≡ get_or items i b → branch_level_count (branches_of (map tree_of (drop i bs))) ≡ max (level_count (tree_of b)) (branch_level_count (branches_of (map tree_of (drop (i + 1) bs))))
branches_from bs items i b e lt at =
    let here : branch_level_count (branches_of (map tree_of (drop i items))) ≡ max (level_count (tree_of b)) (branch_level_count (branches_of (map tree_of (drop (suc i) items)))) = ap (λ (l : List Schema). branch_level_count (branches_of (map tree_of l))) (drop-cons items i b lt) ∙ ap (λ (g : Schema). max (level_count (tree_of g)) (branch_level_count (branches_of (map tree_of (drop (suc i) items))))) (sym at) in
    rw (← e, add-one) here

pub branches_within-returns-then-not-has_levels_within : goal.branches_within-returns-then-not-has_levels_within
branches_within-returns-then-not-has_levels_within t c =
    let here = branches_from c.args.branches.now.items _ c.loop-branch.branch-index c.branch-item.result c.deref-branch-items.ensures.value c.loop-branch-test.true c.branch-item.is in
    (λ h. absurd (false≢true h), λ le. let low = c.loop-branch.invariant.1 le in absurd (false≢true (sym c.if-not-has_levels_within.true ∙ c.has_levels_within.ensures.1 (omega (arith, here, low)))))

pub branches_within-loop-branch-preserved : goal.branches_within-loop-branch-preserved
branches_within-loop-branch-preserved t c =
    let here = branches_from c.args.branches.now.items _ c.loop-branch.branch-index c.branch-item.result c.deref-branch-items.ensures.value c.loop-branch-test.true c.branch-item.is in
    let one = c.has_levels_within.ensures.0 c.if-not-has_levels_within.false in
    (λ le. c.loop-branch.invariant.0 (omega (arith, here, one, le)), λ le. let low = c.loop-branch.invariant.1 le in omega (arith, here, low))

fields_from : (fs items : List Field) (i : ℕ) (f : Field) → items ≡ fs → i < length items → f ≡ get_or items i f → field_level_count (fields_of (map field_of (drop i fs))) ≡ max (level_count (tree_of f.schema)) (field_level_count (fields_of (map field_of (drop (i + 1) fs))))
fields_from fs items i f e lt at =
    let here : field_level_count (fields_of (map field_of (drop i items))) ≡ max (level_count (tree_of f.schema)) (field_level_count (fields_of (map field_of (drop (suc i) items)))) = ap (λ (l : List Field). field_level_count (fields_of (map field_of l))) (drop-cons items i f lt) ∙ ap (λ (g : Field). max (level_count (field_of g).1) (field_level_count (fields_of (map field_of (drop (suc i) items))))) (sym at) ∙ ap (λ (g : FieldTree). max (level_count g.1) (field_level_count (fields_of (map field_of (drop (suc i) items))))) (field_is f) in
    rw (← e, add-one) here

pub fields_within-returns-then-not-has_levels_within : goal.fields_within-returns-then-not-has_levels_within
fields_within-returns-then-not-has_levels_within t c =
    let here = fields_from c.args.fields.now.items _ c.loop-field.field-index c.field-item.result c.deref-field-items.ensures.value c.loop-field-test.true c.field-item.is in
    (λ h. absurd (false≢true h), λ le. let low = c.loop-field.invariant.1 le in absurd (false≢true (sym c.if-not-has_levels_within.true ∙ c.has_levels_within.ensures.1 (omega (arith, here, low)))))

pub fields_within-loop-field-preserved : goal.fields_within-loop-field-preserved
fields_within-loop-field-preserved t c =
    let here = fields_from c.args.fields.now.items _ c.loop-field.field-index c.field-item.result c.deref-field-items.ensures.value c.loop-field-test.true c.field-item.is in
    let one = c.has_levels_within.ensures.0 c.if-not-has_levels_within.false in
    (λ le. c.loop-field.invariant.0 (omega (arith, here, one, le)), λ le. let low = c.loop-field.invariant.1 le in omega (arith, here, low))
