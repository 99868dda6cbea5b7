-- What a schema's layout is at each shape.
use Rattle.std.proofs.Common.{◌≡◌, ℕ, zero, suc, ◌+◌, ◌<◌, ◌≤◌, Bool, true, false, cond, List, [], ◌∷◌, length, get_or, drop, map, Option, Ok, Err, Box, Vec, Global, ℤ, refl, sym, ap, ◌∙◌, arith, rules, nat_lt, add-one, drop-cons}
use Rattle.std.proofs.lemmas.Bool.{ltb-true}
use Rattle.std.proofs.Math.ListN.{drop_of_length-le}
use Rattle.avro_schema.specs.declared.schema.Schema.{Schema, out-Schema, the_lemmas}
use Rattle.avro_schema.specs.declared.schema.Field.{Field}
use Rattle.avro_schema.specs.declared.schema.Shape.{Shape, Null, Boolean, Int, Long, Float, Double, Bytes, Text, Fixed, Enum, Array, Map, Union, Fields}
use Rattle.avro_value.specs.declared.fault.Fault.TheVariants.{BadIndex}
use Rattle.avro_schema.specs.Tree.{ShapeTree, branches_of, fields_of, tree_of, shape_of, field_of}
use Rattle.avro_value.specs.Layout.{Layout, layouts, layouts_of, count_of, shape_layout_of, branch_layouts, field_layouts, layout, shape_layout, field_layout}
use Rattle.lake_basics.specs.Outcome.{◌>>=◌}
use Rattle.avro_value.specs.Reading.{Item, item_reading, item_at, index_at, branch_at, value_at}

pub layout_shape : (s : Schema) → layout s ≡ shape_layout (out-Schema s).shape
layout_shape s = search (rules, the_lemmas)

pub lay : (s : Schema) (x : Shape) → (out-Schema s).shape ≡ x → layout s ≡ shape_layout x
lay s x e = layout_shape s ∙ ap shape_layout e

pub field_layout_is : (f : Field) → field_layout f ≡ layout f.schema
field_layout_is f = search (rules, the_lemmas)

pub shape-Null : shape_layout Null ≡ Layout.null
shape-Null = search (rules, the_lemmas)

pub shape-Boolean : shape_layout Boolean ≡ Layout.boolean
shape-Boolean = search (rules, the_lemmas)

pub shape-Int : shape_layout Int ≡ Layout.int
shape-Int = search (rules, the_lemmas)

pub shape-Long : shape_layout Long ≡ Layout.long
shape-Long = search (rules, the_lemmas)

pub shape-Float : shape_layout Float ≡ Layout.float
shape-Float = search (rules, the_lemmas)

pub shape-Double : shape_layout Double ≡ Layout.double
shape-Double = search (rules, the_lemmas)

pub shape-Bytes : shape_layout Bytes ≡ Layout.bytes
shape-Bytes = search (rules, the_lemmas)

pub shape-Text : shape_layout Text ≡ Layout.text
shape-Text = search (rules, the_lemmas)

pub shape-Fixed : (name : List ℕ) (size : ℕ) → shape_layout (Fixed name size) ≡ Layout.fixed_of size
shape-Fixed name size = search (rules, the_lemmas)

pub shape-Enum : (name : List ℕ) (symbols : Vec (List ℕ) Global) → shape_layout (Enum name symbols) ≡ Layout.enum_of (length symbols.items)
shape-Enum name symbols = search (rules, the_lemmas)

node-Array : (items : Box Schema Global) (id : Option ℤ) → shape_of (Array items id) ≡ ShapeTree.array_of (tree_of items.value) id
node-Array items id = search (rules, the_lemmas)

pub shape-Array : (items : Box Schema Global) (id : Option ℤ) → shape_layout (Array items id) ≡ Layout.array_of (layout items.value)
shape-Array items id = ap shape_layout_of (node-Array items id)

node-Map : (values : Box Schema Global) (key value : Option ℤ) → shape_of (Map values key value) ≡ ShapeTree.map_of (tree_of values.value) key value
node-Map values key value = search (rules, the_lemmas)

pub shape-Map : (values : Box Schema Global) (key value : Option ℤ) → shape_layout (Map values key value) ≡ Layout.map_of (layout values.value)
shape-Map values key value = ap shape_layout_of (node-Map values key value)

node-Union : (branches : Vec Schema Global) → shape_of (Union branches) ≡ ShapeTree.union_of (branches_of (map tree_of branches.items))
node-Union branches = search (rules, the_lemmas)

branch_layouts_of : (bs : List Schema) → branch_layouts (branches_of (map tree_of bs)) ≡ layouts_of (map layout bs)
branch_layouts_of [] = refl
branch_layouts_of (b ∷ bs) = ap (layouts (layout b)) (branch_layouts_of bs)

pub shape-Union : (branches : Vec Schema Global) → shape_layout (Union branches) ≡ Layout.union_of (layouts_of (map layout branches.items))
shape-Union branches = ap shape_layout_of (node-Union branches) ∙ ap Layout.union_of (branch_layouts_of branches.items)

node-Fields : (name : List ℕ) (fields : Vec Field Global) → shape_of (Fields name fields) ≡ ShapeTree.record_of name (fields_of (map field_of fields.items))
node-Fields name fields = search (rules, the_lemmas)

field_layouts_of : (fs : List Field) → field_layouts (fields_of (map field_of fs)) ≡ layouts_of (map field_layout fs)
field_layouts_of [] = refl
field_layouts_of (f ∷ fs) = ap (layouts (field_layout f)) (field_layouts_of fs)

pub shape-Fields : (name : List ℕ) (fields : Vec Field Global) → shape_layout (Fields name fields) ≡ Layout.record_of (layouts_of (map field_layout fields.items))
shape-Fields name fields = ap shape_layout_of (node-Fields name fields) ∙ ap Layout.record_of (field_layouts_of fields.items)

pub count_of-layouts_of : (ls : List Layout) → count_of (layouts_of ls) ≡ length ls
count_of-layouts_of [] = refl
count_of-layouts_of (l ∷ ls) = rw (count_of-layouts_of ls) (add-one _)

pub count_of_branches : (bs : List Schema) → count_of (layouts_of (map layout bs)) ≡ length bs
count_of_branches [] = refl
count_of_branches (b ∷ bs) = rw (count_of_branches bs) (add-one _)

-- the field at i stands before those after it
pub fields_from : (fs items : List Field) (i : ℕ) (f : Field) → items ≡ fs → i < length items → f ≡ get_or items i f → map field_layout (drop i fs) ≡ layout f.schema ∷ map field_layout (drop (i + 1) fs)
fields_from fs items i f e lt at =
    let d : drop i items ≡ get_or items i f ∷ drop (suc i) items = drop-cons items i f lt in
    let here : map field_layout (drop i items) ≡ layout f.schema ∷ map field_layout (drop (suc i) items) = ap (map field_layout) d ∙ ap (λ (g : Field). field_layout g ∷ map field_layout (drop (suc i) items)) (sym at) ∙ ap (λ (l : Layout). l ∷ map field_layout (drop (suc i) items)) (field_layout_is f) in
    rw (← e, add-one) here

pub fields_end : (fs items : List Field) (i : ℕ) → items ≡ fs → length items ≤ i → map field_layout (drop i fs) ≡ []
fields_end fs items i e le = rw (← e) (ap (map field_layout) (drop_of_length-le items le))

pub branch_there : (bs : List Schema) (i : ℕ) (d : Schema) (bytes : List ℕ) (budget : ℕ) → i < length bs → branch_at (layouts_of (map layout bs)) i bytes budget ≡ value_at (layout (get_or bs i d)) bytes budget
unfolding branch_at value_at
branch_there [] i d bytes budget h = absurd (omega arith)
branch_there (b ∷ bs) zero d bytes budget h = refl
branch_there (b ∷ bs) (suc i) d bytes budget h = branch_there bs i d bytes budget (omega arith)

below_at : (count : ℕ) (bytes : List ℕ) (budget : ℕ) (i : ℕ × List ℕ) (x : ℕ × List ℕ × ℕ) (b : Bool) → nat_lt i.0 count ≡ b → item_reading bytes budget (cond b (Ok i) (Err BadIndex)) ≡ Ok x → x.0 < count
below_at count bytes budget i x true lt e = let same : i.0 ≡ x.0 = cc in let h = ltb-true _ _ lt in omega (arith, same, h)
below_at count bytes budget i x false lt e = absurd cc

below_in : (count : ℕ) (bytes : List ℕ) (budget : ℕ) (r : Item ℕ) (x : ℕ × List ℕ × ℕ) → item_reading bytes budget (r >>= λ i. cond (nat_lt i.0 count) (Ok i) (Err BadIndex)) ≡ Ok x → x.0 < count
below_in count bytes budget (Ok i) x e = below_at count bytes budget i x _ refl e
below_in count bytes budget (Err r) x e = absurd cc

pub index_below : (count : ℕ) (bytes : List ℕ) (budget : ℕ) (x : ℕ × List ℕ × ℕ) → item_at (index_at count) bytes budget ≡ Ok x → x.0 < count
unfolding index_at
index_below count bytes budget x e = below_in count bytes budget _ x e
