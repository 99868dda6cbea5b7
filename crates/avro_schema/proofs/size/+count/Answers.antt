use Rattle.std.proofs.Common.{◌≡◌, ℕ, suc, ◌+◌, ◌-◌, ◌<◌, ◌≤◌, List, length, get_or, drop, map, Option, Some, None, MatchOption, Box, Vec, Global, ℤ, ap, sym, ◌∙◌, add-one, arith, rules, drop-cons}
use Rattle.std.proofs.Math.ListN.{drop_of_length-le}
use Rattle.avro_schema.specs.declared.schema.Schema.{Schema, out-Schema, the_lemmas}
use Rattle.avro_schema.specs.declared.schema.Field.{Field}
use Rattle.avro_schema.specs.declared.schema.Shape.{Shape, Array, Map, Union, Fields}
use Rattle.avro_schema.specs.Tree.{FieldTree, tree_of, shape_of, field_of, branches_of, fields_of}
use Rattle.avro_schema.specs.Sizes.{type_count, shape_type_count, branch_type_count, field_type_count}
use Rattle.avro_schema.proofs.FieldTrees.{field_is}
use Rattle.avro_schema.proofs.size.+count.Goals as goal

-- ---- a type counts one more than its parts

count_in : (s : Schema) → type_count (tree_of s) ≡ shape_type_count (shape_of (out-Schema s).shape) + 1
count_in s = search (rules, the_lemmas)

in_array : (items : Box Schema Global) (id : Option ℤ) → shape_type_count (shape_of (Array items id)) ≡ type_count (tree_of items.value)
in_array items id = search (rules, the_lemmas)

in_map : (values : Box Schema Global) (key value : Option ℤ) → shape_type_count (shape_of (Map values key value)) ≡ type_count (tree_of values.value)
in_map values key value = search (rules, the_lemmas)

in_union : (branches : Vec Schema Global) → shape_type_count (shape_of (Union branches)) ≡ branch_type_count (branches_of (map tree_of branches.items))
in_union branches = search (rules, the_lemmas)

in_fields : (name : List ℕ) (fields : Vec Field Global) → shape_type_count (shape_of (Fields name fields)) ≡ field_type_count (fields_of (map field_of fields.items))
in_fields name fields = search (rules, the_lemmas)

count_at : (s : Schema) (x : Shape) (n : ℕ) → (out-Schema s).shape ≡ x → shape_type_count (shape_of x) ≡ n → type_count (tree_of s) ≡ n + 1
count_at s x n at parts = count_in s ∙ ap (λ (y : Shape). shape_type_count (shape_of y) + 1) at ∙ ap (λ (k : ℕ). k + 1) parts

one_more : (r : Option ℕ) (budget parts all : ℕ) → (budget ≡ 0 → ⊥) → all ≡ parts + 1 → MatchOption r (budget - 1 < parts) (λ left. left + parts ≡ budget - 1) → MatchOption r (budget < all) (λ left. left + all ≡ budget)
one_more None budget parts all some more h = omega arith
one_more (Some left) budget parts all some more h = omega arith

pub budget_behind-returns-in-Array : goal.budget_behind-returns-in-Array
budget_behind-returns-in-Array t c =
    let all = count_at c.args.schema.now _ _ c.in-Array.is (in_array c.in-Array.items c.in-Array.element_id ∙ ap (λ (s : Schema). type_count (tree_of s)) (sym c.deref.ensures)) in
    one_more _ _ _ _ c.if-budget-eq0.false all c.budget_behind.ensures

pub budget_behind-returns-in-Map : goal.budget_behind-returns-in-Map
budget_behind-returns-in-Map t c =
    let all = count_at c.args.schema.now _ _ c.in-Map.is (in_map c.in-Map.values c.in-Map.key_id c.in-Map.value_id ∙ ap (λ (s : Schema). type_count (tree_of s)) (sym c.deref-in-Map.ensures)) in
    one_more _ _ _ _ c.if-budget-eq0.false all c.budget_behind-in-Map.ensures

pub budget_behind-returns-in-Union : goal.budget_behind-returns-in-Union
budget_behind-returns-in-Union t c =
    one_more _ _ _ _ c.if-budget-eq0.false (count_at c.args.schema.now _ _ c.in-Union.is (in_union c.in-Union.branches)) c.budget_behind_branches.ensures

pub budget_behind-returns-in-Fields : goal.budget_behind-returns-in-Fields
budget_behind-returns-in-Fields t c =
    one_more _ _ _ _ c.if-budget-eq0.false (count_at c.args.schema.now _ _ c.in-Fields.is (in_fields c.in-Fields.name c.in-Fields.fields)) c.budget_behind_fields.ensures

-- ---- one after another

none_left : (r : Option ℕ) (P : Type 0) (Q : ℕ → Type 0) → r ≡ None → P → MatchOption r P Q
none_left None P Q none p = p
none_left (Some x) P Q none p = absurd cc

branches_from : (bs items : List Schema) (i : ℕ) (b : Schema) → items ≡ bs → i < length items → b ≡ get_or items i b → branch_type_count (branches_of (map tree_of (drop i bs))) ≡ type_count (tree_of b) + branch_type_count (branches_of (map tree_of (drop (i + 1) bs)))
branches_from bs items i b e lt at =
    let here : branch_type_count (branches_of (map tree_of (drop i items))) ≡ type_count (tree_of b) + branch_type_count (branches_of (map tree_of (drop (suc i) items))) = ap (λ (l : List Schema). branch_type_count (branches_of (map tree_of l))) (drop-cons items i b lt) ∙ ap (λ (g : Schema). type_count (tree_of g) + branch_type_count (branches_of (map tree_of (drop (suc i) items)))) (sym at) in
    rw (← e, add-one) here

branches_end : (bs items : List Schema) (i : ℕ) → items ≡ bs → length items ≤ i → branch_type_count (branches_of (map tree_of (drop i bs))) ≡ 0
branches_end bs items i e le = rw (← e) (ap (λ (l : List Schema). branch_type_count (branches_of (map tree_of l))) (drop_of_length-le items le))

pub budget_behind_branches-returns-in_err-left : goal.budget_behind_branches-returns-in_err-left
budget_behind_branches-returns-in_err-left t c =
    let here = branches_from c.args.branches.now.items _ c.loop-branch.branch-index c.branch-item.result c.deref-branch-items.ensures.value c.loop-branch-test.true c.branch-item.is in
    none_left _ _ _ c.from_residual.ensures (omega (arith, here, c.in_err-left.ensures, c.loop-branch.invariant))

pub budget_behind_branches-loop-branch-preserved : goal.budget_behind_branches-loop-branch-preserved
budget_behind_branches-loop-branch-preserved t c =
    let here = branches_from c.args.branches.now.items _ c.loop-branch.branch-index c.branch-item.result c.deref-branch-items.ensures.value c.loop-branch-test.true c.branch-item.is in
    omega (arith, here, c.in_ok-left.ensures, c.loop-branch.invariant)

pub budget_behind_branches-returns : goal.budget_behind_branches-returns
budget_behind_branches-returns t c =
    let here = branches_end c.args.branches.now.items _ c.loop-branch.branch-index c.deref-branch-items.ensures.value c.loop-branch-test.false in
    omega (arith, here, c.loop-branch.invariant)

fields_from : (fs items : List Field) (i : ℕ) (f : Field) → items ≡ fs → i < length items → f ≡ get_or items i f → field_type_count (fields_of (map field_of (drop i fs))) ≡ type_count (tree_of f.schema) + field_type_count (fields_of (map field_of (drop (i + 1) fs)))
fields_from fs items i f e lt at =
    let here : field_type_count (fields_of (map field_of (drop i items))) ≡ type_count (tree_of f.schema) + field_type_count (fields_of (map field_of (drop (suc i) items))) = ap (λ (l : List Field). field_type_count (fields_of (map field_of l))) (drop-cons items i f lt) ∙ ap (λ (g : Field). type_count (field_of g).1 + field_type_count (fields_of (map field_of (drop (suc i) items)))) (sym at) ∙ ap (λ (g : FieldTree). type_count g.1 + field_type_count (fields_of (map field_of (drop (suc i) items)))) (field_is f) in
    rw (← e, add-one) here

fields_end : (fs items : List Field) (i : ℕ) → items ≡ fs → length items ≤ i → field_type_count (fields_of (map field_of (drop i fs))) ≡ 0
fields_end fs items i e le = rw (← e) (ap (λ (l : List Field). field_type_count (fields_of (map field_of l))) (drop_of_length-le items le))

pub budget_behind_fields-returns-in_err-left : goal.budget_behind_fields-returns-in_err-left
budget_behind_fields-returns-in_err-left t c =
    let here = fields_from c.args.fields.now.items _ c.loop-field.field-index c.field-item.result c.deref-field-items.ensures.value c.loop-field-test.true c.field-item.is in
    none_left _ _ _ c.from_residual.ensures (omega (arith, here, c.in_err-left.ensures, c.loop-field.invariant))

pub budget_behind_fields-loop-field-preserved : goal.budget_behind_fields-loop-field-preserved
budget_behind_fields-loop-field-preserved t c =
    let here = fields_from c.args.fields.now.items _ c.loop-field.field-index c.field-item.result c.deref-field-items.ensures.value c.loop-field-test.true c.field-item.is in
    omega (arith, here, c.in_ok-left.ensures, c.loop-field.invariant)

pub budget_behind_fields-returns : goal.budget_behind_fields-returns
budget_behind_fields-returns t c =
    let here = fields_end c.args.fields.now.items _ c.loop-field.field-index c.deref-field-items.ensures.value c.loop-field-test.false in
    omega (arith, here, c.loop-field.invariant)
