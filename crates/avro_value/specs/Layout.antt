-- What of a schema decides how its values are spelled: the types without names, ids and annotations.
use Rattle.std.specs.Prelude.{ℕ, ◌+◌, ◌^◌, ◌==◌, ◌&&◌, min, Bool, false, true, List, [], ◌∷◌, length}
use Rattle.avro_schema.specs.declared.schema.Schema.{Schema}
use Rattle.avro_schema.specs.declared.schema.Field.{Field}
use Rattle.avro_schema.specs.declared.schema.Shape.{Shape}
use Rattle.avro_schema.specs.Tree.{SchemaTree, schema_tree, ShapeTree, BranchTrees, no_branches, branch, FieldTrees, no_fields, field, tree_of, shape_of, field_of}

mutual
  pub data Layout : Type 0 where
    null : Layout
    boolean : Layout
    int : Layout
    long : Layout
    float : Layout
    double : Layout
    bytes : Layout
    text : Layout
    fixed_of : (size : ℕ) → Layout
    enum_of : (symbols : ℕ) → Layout
    array_of : (items : Layout) → Layout
    map_of : (values : Layout) → Layout
    union_of : (branches : Layouts) → Layout
    record_of : (fields : Layouts) → Layout

  pub data Layouts : Type 0 where
    no_layouts : Layouts
    layouts : Layout → Layouts → Layouts

abbrev pub layouts_of : List Layout → Layouts
layouts_of [] = no_layouts
layouts_of (l ∷ ls) = layouts l (layouts_of ls)

-- how many there are
abbrev pub count_of : Layouts → ℕ
count_of no_layouts = 0
count_of (layouts l ls) = count_of ls + 1

-- A value of the layout takes no bytes.
abbrev mutual
  pub is_bare : Layout → Bool
  is_bare null = true
  is_bare (fixed_of n) = n == 0
  is_bare (record_of ls) = are_bare ls
  is_bare _ = false

  pub are_bare : Layouts → Bool
  are_bare no_layouts = true
  are_bare (layouts l ls) = is_bare l && are_bare ls

-- How many of so many symbols or branches an index can name: a value holds an index of 32 bits.
abbrev pub indices : ℕ → ℕ
indices n = min n (2 ^ 32)

abbrev mutual
  pub layout_of : SchemaTree → Layout
  layout_of (schema_tree shape logical precision scale) = shape_layout_of shape

  pub shape_layout_of : ShapeTree → Layout
  shape_layout_of ShapeTree.null = null
  shape_layout_of ShapeTree.boolean = boolean
  shape_layout_of ShapeTree.int = int
  shape_layout_of ShapeTree.long = long
  shape_layout_of ShapeTree.float = float
  shape_layout_of ShapeTree.double = double
  shape_layout_of ShapeTree.bytes = bytes
  shape_layout_of ShapeTree.text = text
  shape_layout_of (ShapeTree.fixed_of name size) = fixed_of size
  shape_layout_of (ShapeTree.enum_of name symbols) = enum_of (length symbols)
  shape_layout_of (ShapeTree.array_of items element_id) = array_of (layout_of items)
  shape_layout_of (ShapeTree.map_of values key_id value_id) = map_of (layout_of values)
  shape_layout_of (ShapeTree.union_of branches) = union_of (branch_layouts branches)
  shape_layout_of (ShapeTree.record_of name fields) = record_of (field_layouts fields)

  pub branch_layouts : BranchTrees → Layouts
  branch_layouts no_branches = no_layouts
  branch_layouts (branch t ts) = layouts (layout_of t) (branch_layouts ts)

  pub field_layouts : FieldTrees → Layouts
  field_layouts no_fields = no_layouts
  field_layouts (field name t field_id fs) = layouts (layout_of t) (field_layouts fs)

-- the same of the Rust types
abbrev pub layout : Schema → Layout
layout s = layout_of (tree_of s)

abbrev pub shape_layout : Shape → Layout
shape_layout s = shape_layout_of (shape_of s)

abbrev pub field_layout : Field → Layout
field_layout f = layout_of (field_of f).1
