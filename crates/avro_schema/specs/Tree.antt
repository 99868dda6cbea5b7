-- Schemas as plain trees: the whole of a schema, in which a Vec is the list of its items.
use Rattle.std.specs.Prelude.{ℕ, ℤ, List, [], ◌∷◌, Option}
use Rattle.avro_schema.specs.declared.schema.Schema.{Schema, fold-Schema}
use Rattle.avro_schema.specs.declared.schema.Field.{Field, fold-Field}
use Rattle.avro_schema.specs.declared.schema.Shape.{Shape, fold-Shape}
use Rattle.avro_schema.specs.declared.schema.Shape.TheOpen.{Shape-F}

mutual
  -- a type, with its logical type, precision and scale
  pub data SchemaTree : Type 0 where
    schema_tree : (shape : ShapeTree) → (logical : Option (List ℕ)) → (precision : Option ℕ) → (scale : Option ℕ) → SchemaTree

  pub data ShapeTree : Type 0 where
    null : ShapeTree
    boolean : ShapeTree
    int : ShapeTree
    long : ShapeTree
    float : ShapeTree
    double : ShapeTree
    bytes : ShapeTree
    text : ShapeTree
    fixed_of : (name : List ℕ) → (size : ℕ) → ShapeTree
    enum_of : (name : List ℕ) → (symbols : List (List ℕ)) → ShapeTree
    array_of : (items : SchemaTree) → (element_id : Option ℤ) → ShapeTree
    map_of : (values : SchemaTree) → (key_id : Option ℤ) → (value_id : Option ℤ) → ShapeTree
    union_of : (branches : BranchTrees) → ShapeTree
    record_of : (name : List ℕ) → (fields : FieldTrees) → ShapeTree

  -- a union's branches, in order
  pub data BranchTrees : Type 0 where
    no_branches : BranchTrees
    branch : SchemaTree → BranchTrees → BranchTrees

  -- a record's fields, in order
  pub data FieldTrees : Type 0 where
    no_fields : FieldTrees
    field : (name : List ℕ) → (schema : SchemaTree) → (field_id : Option ℤ) → FieldTrees → FieldTrees

-- a field's name, type and id
abbrev pub FieldTree : Type 0
FieldTree = List ℕ × SchemaTree × Option ℤ

abbrev pub branches_of : List SchemaTree → BranchTrees
branches_of [] = no_branches
branches_of (t ∷ ts) = branch t (branches_of ts)

abbrev pub fields_of : List FieldTree → FieldTrees
fields_of [] = no_fields
fields_of (f ∷ fs) = field f.0 f.1 f.2 (fields_of fs)

abbrev pub shape_step : Shape-F ShapeTree FieldTree SchemaTree → ShapeTree
shape_step Shape-F.Null = null
shape_step Shape-F.Boolean = boolean
shape_step Shape-F.Int = int
shape_step Shape-F.Long = long
shape_step Shape-F.Float = float
shape_step Shape-F.Double = double
shape_step Shape-F.Bytes = bytes
shape_step Shape-F.Text = text
shape_step (Shape-F.Fixed name size) = fixed_of name size
shape_step (Shape-F.Enum name symbols) = enum_of name symbols.items
shape_step (Shape-F.Array items element_id) = array_of items.value element_id
shape_step (Shape-F.Map values key_id value_id) = map_of values.value key_id value_id
shape_step (Shape-F.Union branches) = union_of (branches_of branches.items)
shape_step (Shape-F.Fields name fields) = record_of name (fields_of fields.items)

-- the whole of a schema
abbrev pub tree_of : Schema → SchemaTree
tree_of = fold-Schema ShapeTree FieldTree SchemaTree shape_step (λ f. (f.name, f.schema, f.field_id)) (λ s. schema_tree s.shape s.logical s.precision s.scale)

abbrev pub shape_of : Shape → ShapeTree
shape_of = fold-Shape ShapeTree FieldTree SchemaTree shape_step (λ f. (f.name, f.schema, f.field_id)) (λ s. schema_tree s.shape s.logical s.precision s.scale)

abbrev pub field_of : Field → FieldTree
field_of = fold-Field ShapeTree FieldTree SchemaTree shape_step (λ f. (f.name, f.schema, f.field_id)) (λ s. schema_tree s.shape s.logical s.precision s.scale)
