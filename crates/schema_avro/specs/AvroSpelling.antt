-- Which Avro types are the types of columns (Avro specification, "Schema Declaration" and "Logical
-- Types"), and which schema an Avro schema text spells.
use Rattle.std.specs.Prelude.{◌≡◌, ◌⊎◌, ◌<◌, ◌≤◌, ℕ, ℤ, List, [], ◌∷◌, Bool, true, false, Option, Some, unwrap_or, codes}
use Rattle.avro_schema.specs.Tree as avro
use Rattle.avro_schema.specs.Tree.{SchemaTree, schema_tree, ShapeTree, BranchTrees, no_branches, branch, FieldTrees, no_fields, field}
use Rattle.avro_schema.specs.Grammar.{IsSchemaText}
use Rattle.table_history.specs.TypeTree as tree
use Rattle.table_history.specs.TypeTree.{TypeTree, ColumnTrees, no_columns, column, struct_of}
use Rattle.schema_map.specs.declared.fault.MapError.{MapError}
use Rattle.schema_map.specs.declared.fault.MapError.TheVariants as map_errors
use Rattle.schema_map.specs.Limits.{schema_limit}
use Rattle.schema_map.specs.Among.{IsNoneOf}

abbrev pub shape_of : SchemaTree → ShapeTree
shape_of (schema_tree shape logical precision scale) = shape

abbrev pub IsUnion : SchemaTree → BranchTrees → Type 0
IsUnion whole branches = shape_of whole ≡ avro.union_of branches

-- Of a part: the type that it has, and whether it may be null. It may be null where it is a union of
-- null and that type, in either order. Else it is the type, or a union of it alone.
abbrev pub IsPart : SchemaTree → SchemaTree → Bool → Type 0
IsPart whole kind true = (nothing : SchemaTree) × (shape_of nothing ≡ avro.null)
    × (IsUnion whole (branch nothing (branch kind no_branches)) ⊎ IsUnion whole (branch kind (branch nothing no_branches)))
IsPart whole kind false = (whole ≡ kind) ⊎ IsUnion whole (branch kind no_branches)

-- The Avro type is the column type. A logical type that isn't named here says nothing, nor does one
-- that stands at a type for which it isn't named here. Avro has no whole number of fewer than 32 bits.
abbrev mutual
  pub IsAvroType : TypeTree → SchemaTree → Type 0
  IsAvroType tree.boolean (schema_tree shape logical precision scale) = shape ≡ avro.boolean
  IsAvroType tree.byte s = ⊥
  IsAvroType tree.short s = ⊥
  IsAvroType tree.int (schema_tree shape logical precision scale) =
      (shape ≡ avro.int) × IsNoneOf (codes "date" ∷ codes "time-millis" ∷ []) logical
  IsAvroType tree.long (schema_tree shape logical precision scale) =
      (shape ≡ avro.long) × IsNoneOf (codes "timestamp-micros" ∷ codes "timestamp-millis" ∷ codes "local-timestamp-micros" ∷ codes "local-timestamp-millis" ∷ codes "time-micros" ∷ []) logical
  IsAvroType tree.float (schema_tree shape logical precision scale) = shape ≡ avro.float
  IsAvroType tree.double (schema_tree shape logical precision scale) = shape ≡ avro.double
  IsAvroType tree.text (schema_tree shape logical precision scale) = shape ≡ avro.text
  IsAvroType tree.binary (schema_tree shape logical precision scale) = (shape ≡ avro.bytes) × IsNoneOf (codes "decimal" ∷ []) logical
  IsAvroType tree.date (schema_tree shape logical precision scale) = (shape ≡ avro.int) × (logical ≡ Some (codes "date"))
  IsAvroType tree.timestamp (schema_tree shape logical precision scale) =
      (shape ≡ avro.long) × ((logical ≡ Some (codes "timestamp-micros")) ⊎ (logical ≡ Some (codes "timestamp-millis")))
  IsAvroType tree.timestamp_ntz (schema_tree shape logical precision scale) =
      (shape ≡ avro.long) × ((logical ≡ Some (codes "local-timestamp-micros")) ⊎ (logical ≡ Some (codes "local-timestamp-millis")))
  -- A scale that is absent is 0.
  IsAvroType (tree.decimal p s) (schema_tree shape logical precision scale) =
      ((shape ≡ avro.bytes) ⊎ ((name : List ℕ) × (size : ℕ) × (shape ≡ avro.fixed_of name size)))
      × (logical ≡ Some (codes "decimal")) × (precision ≡ Some p) × (unwrap_or scale 0 ≡ s) × (0 < p) × (p ≤ 38) × (s ≤ p)
  IsAvroType (tree.struct_of cs) (schema_tree shape logical precision scale) =
      (name : List ℕ) × (fields : FieldTrees) × (shape ≡ avro.record_of name fields) × AreAvroColumns cs fields
  IsAvroType (tree.list_of t b) (schema_tree shape logical precision scale) =
      (items : SchemaTree) × (id : Option ℤ) × (kind : SchemaTree) × (shape ≡ avro.array_of items id) × IsPart items kind b × IsAvroType t kind
  -- A map's keys are texts (Avro specification, "Maps").
  IsAvroType (tree.map_of k v b) (schema_tree shape logical precision scale) =
      (values : SchemaTree) × (key_id : Option ℤ) × (value_id : Option ℤ) × (kind : SchemaTree) × (k ≡ tree.text)
      × (shape ≡ avro.map_of values key_id value_id) × IsPart values kind b × IsAvroType v kind

  pub AreAvroColumns : ColumnTrees → FieldTrees → Type 0
  AreAvroColumns no_columns fields = fields ≡ no_fields
  AreAvroColumns (column n t b cs) fields =
      (part : SchemaTree) × (id : Option ℤ) × (kind : SchemaTree) × (others : FieldTrees) × (fields ≡ field n part id others)
      × IsPart part kind b × IsAvroType t kind × AreAvroColumns cs others

-- The text is an Avro schema text of a record, whose fields are these columns.
abbrev pub IsAvroText : ColumnTrees → List ℕ → Type 0
IsAvroText cs text = (t : SchemaTree) × IsSchemaText text t × IsAvroType (struct_of cs) t

-- ---- why a text isn't read

-- The part is of no column type.
abbrev pub HasNoRow : SchemaTree → Type 0
HasNoRow part = (kind : SchemaTree) (t : TypeTree) (nullable : Bool) → IsPart part kind nullable → IsAvroType t kind → ⊥

-- The part is of a column type.
abbrev pub HasRow : SchemaTree → Type 0
HasRow part = (kind : SchemaTree) × (t : TypeTree) × (nullable : Bool) × IsPart part kind nullable × IsAvroType t kind

-- The first of the fields whose type is no column type has this name.
abbrev pub IsFirstWithoutRow : List ℕ → FieldTrees → Type 0
IsFirstWithoutRow name no_fields = ⊥
IsFirstWithoutRow name (field n part id fields) = ((n ≡ name) × HasNoRow part) ⊎ (HasRow part × IsFirstWithoutRow name fields)

-- Why a text is refused whatever its size: it is no Avro schema text of a record, or that column is
-- the first without a column type.
abbrev pub IsUnread : List ℕ → MapError → Type 0
IsUnread text map_errors.Memory = Unit {0}
IsUnread text map_errors.BadSchema = (name : List ℕ) (fields : FieldTrees) (t : SchemaTree) → IsSchemaText text t → shape_of t ≡ avro.record_of name fields → ⊥
IsUnread text (map_errors.SchemaType name) =
    (record_name : List ℕ) × (fields : FieldTrees) × (t : SchemaTree) × IsSchemaText text t × (shape_of t ≡ avro.record_of record_name fields) × IsFirstWithoutRow name fields
IsUnread text (map_errors.AvroName name) = ⊥
IsUnread text (map_errors.Limit which) = ⊥

-- Why a text is refused: as above, or its schema passes that limit.
abbrev pub IsAvroRefused : List ℕ → MapError → Type 0
IsAvroRefused text (map_errors.Limit which) = (cs : ColumnTrees) × IsAvroText cs text × (schema_limit cs ≡ Some which)
IsAvroRefused text e = IsUnread text e
