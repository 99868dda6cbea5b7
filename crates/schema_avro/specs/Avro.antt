-- Reading a schema from an Avro schema, as a function.
use Rattle.std.specs.Prelude.{ℕ, List, [], ◌∷◌, Bool, true, false, Option, Some, None, unwrap_or, Result, Ok, Err, if◌then◌else◌, codes}
use Rattle.std.specs.Str.{bytes_eq}
use Rattle.lake_basics.specs.Outcome.{◌>>=◌, with_fault}
use Rattle.avro_schema.specs.Tree as avro
use Rattle.avro_schema.specs.Tree.{SchemaTree, schema_tree, ShapeTree, BranchTrees, no_branches, branch, FieldTrees, no_fields, field}
use Rattle.avro_schema.specs.Reading as reading
use Rattle.table_history.specs.TypeTree as tree
use Rattle.table_history.specs.TypeTree.{TypeTree, ColumnTree, ColumnTrees, columns_of}
use Rattle.table_history.specs.declared.limit.LimitKind.{LimitKind}
use Rattle.schema_avro.specs.declared.fault.TypeFault.{TypeFault}
use Rattle.schema_avro.specs.declared.fault.TypeFault.TheVariants.{NoRow}
use Rattle.schema_map.specs.declared.fault.MapError.{MapError}
use Rattle.schema_map.specs.declared.fault.MapError.TheVariants as map_errors
use Rattle.schema_map.specs.Decimal.{decimal_in_range}
use Rattle.schema_map.specs.Limits.{schema_limit}

-- ---- logical types (Avro specification, "Logical Types")

abbrev pub is_logical : List ℕ → Option (List ℕ) → Bool
is_logical word None = false
is_logical word (Some logical) = bytes_eq logical word

abbrev pub decimal_type : Option (ℕ × ℕ) → Result TypeTree TypeFault
decimal_type None = Err NoRow
decimal_type (Some p) = Ok (tree.decimal p.0 p.1)

-- A precision must be there and in range. A scale that is absent is 0.
abbrev pub avro_decimal : Option ℕ → Option ℕ → Result TypeTree TypeFault
avro_decimal None scale = Err NoRow
avro_decimal (Some precision) scale = decimal_type (decimal_in_range precision (unwrap_or scale 0))

unfoldable pub avro_int : Option (List ℕ) → Result TypeTree TypeFault
avro_int logical =
    if is_logical (codes "date") logical then Ok tree.date
    else (if is_logical (codes "time-millis") logical then Err NoRow else Ok tree.int)

unfoldable pub avro_long : Option (List ℕ) → Result TypeTree TypeFault
avro_long logical =
    if is_logical (codes "timestamp-micros") logical then Ok tree.timestamp
    else (if is_logical (codes "timestamp-millis") logical then Ok tree.timestamp
    else (if is_logical (codes "local-timestamp-micros") logical then Ok tree.timestamp_ntz
    else (if is_logical (codes "local-timestamp-millis") logical then Ok tree.timestamp_ntz
    else (if is_logical (codes "time-micros") logical then Err NoRow else Ok tree.long))))

abbrev pub avro_bytes : Option (List ℕ) → Option ℕ → Option ℕ → Result TypeTree TypeFault
avro_bytes logical precision scale = if is_logical (codes "decimal") logical then avro_decimal precision scale else Ok tree.binary

abbrev pub avro_fixed : Option (List ℕ) → Option ℕ → Option ℕ → Result TypeTree TypeFault
avro_fixed logical precision scale = if is_logical (codes "decimal") logical then avro_decimal precision scale else Err NoRow

-- ---- what a type makes of the types of its parts

-- a type, and whether it may be null
abbrev pub Part : Type 0
Part = Result (TypeTree × Bool) TypeFault

abbrev pub is_null : SchemaTree → Bool
is_null (schema_tree avro.null logical precision scale) = true
is_null (schema_tree _ logical precision scale) = false

abbrev pub nullable_if : Bool → Result TypeTree TypeFault → Part
nullable_if nullable reading = do
  t ← reading
  Ok (t, nullable)

abbrev pub avro_list : Part → Result TypeTree TypeFault
avro_list part = do
  t ← part
  Ok (tree.list_of t.0 t.1)

-- A map's keys are texts (Avro specification, "Maps").
abbrev pub avro_map : Part → Result TypeTree TypeFault
avro_map part = do
  t ← part
  Ok (tree.map_of tree.text t.0 t.1)

abbrev pub avro_struct : Result (List ColumnTree) TypeFault → Result TypeTree TypeFault
avro_struct reading = do
  columns ← reading
  Ok (tree.struct_of (columns_of columns))

abbrev pub avro_column : List ℕ → Part → Result ColumnTree TypeFault
avro_column name part = do
  t ← part
  Ok (record { name = name; kind = t.0; nullable = t.1 })

-- one column, and those behind it
abbrev pub avro_front : {E : Type 0} → Result ColumnTree E → Result (List ColumnTree) E → Result (List ColumnTree) E
avro_front first others = do
  column ← first
  columns ← others
  Ok (column ∷ columns)

-- ---- all levels

abbrev mutual
  pub avro_type : SchemaTree → Result TypeTree TypeFault
  avro_type (schema_tree shape logical precision scale) = avro_shape shape logical precision scale

  pub avro_shape : ShapeTree → Option (List ℕ) → Option ℕ → Option ℕ → Result TypeTree TypeFault
  avro_shape avro.null logical precision scale = Err NoRow
  avro_shape avro.boolean logical precision scale = Ok tree.boolean
  avro_shape avro.int logical precision scale = avro_int logical
  avro_shape avro.long logical precision scale = avro_long logical
  avro_shape avro.float logical precision scale = Ok tree.float
  avro_shape avro.double logical precision scale = Ok tree.double
  avro_shape avro.bytes logical precision scale = avro_bytes logical precision scale
  avro_shape avro.text logical precision scale = Ok tree.text
  avro_shape (avro.fixed_of name size) logical precision scale = avro_fixed logical precision scale
  avro_shape (avro.enum_of name symbols) logical precision scale = Err NoRow
  avro_shape (avro.array_of items id) logical precision scale = avro_list (avro_part items)
  avro_shape (avro.map_of values key_id value_id) logical precision scale = avro_map (avro_part values)
  avro_shape (avro.union_of _) logical precision scale = Err NoRow
  avro_shape (avro.record_of name fields) logical precision scale = avro_struct (avro_columns fields)

  pub avro_part : SchemaTree → Part
  avro_part (schema_tree (avro.union_of branches) logical precision scale) = avro_union branches
  avro_part (schema_tree shape logical precision scale) = nullable_if false (avro_shape shape logical precision scale)

  -- A union has one branch beside null, in either order, or is a single branch.
  pub avro_union : BranchTrees → Part
  avro_union no_branches = Err NoRow
  avro_union (branch only no_branches) = nullable_if false (avro_type only)
  avro_union (branch first (branch second no_branches)) = if is_null first then nullable_if true (avro_type second) else (if is_null second then nullable_if true (avro_type first) else Err NoRow)
  avro_union (branch first (branch second (branch third others))) = Err NoRow

  pub avro_columns : FieldTrees → Result (List ColumnTree) TypeFault
  avro_columns no_fields = Ok []
  avro_columns (field name schema id fields) = avro_front (avro_column name (avro_part schema)) (avro_columns fields)

-- ---- a schema

abbrev pub avro_top_column : List ℕ → Part → Result ColumnTree MapError
avro_top_column name part = with_fault (λ _. map_errors.SchemaType name) (avro_column name part)

abbrev pub avro_top_columns : FieldTrees → Result (List ColumnTree) MapError
avro_top_columns no_fields = Ok []
avro_top_columns (field name schema id fields) = avro_front (avro_top_column name (avro_part schema)) (avro_top_columns fields)

abbrev pub schema_with : Result (List ColumnTree) MapError → Result ColumnTrees MapError
schema_with reading = do
  columns ← reading
  Ok (columns_of columns)

abbrev pub schema_of_avro : SchemaTree → Result ColumnTrees MapError
schema_of_avro (schema_tree (avro.record_of name fields) logical precision scale) = schema_with (avro_top_columns fields)
schema_of_avro (schema_tree _ logical precision scale) = Err map_errors.BadSchema

-- what a text spells, or the first fault
abbrev pub avro_schema_of : List ℕ → Result ColumnTrees MapError
avro_schema_of text = with_fault (λ _. map_errors.BadSchema) (reading.schema_of text) >>= schema_of_avro

abbrev pub unless_limit : Option LimitKind → ColumnTrees → Result ColumnTrees MapError
unless_limit None cs = Ok cs
unless_limit (Some which) cs = Err (map_errors.Limit which)

-- the same, where the schema passes no limit
abbrev pub limited_avro_schema_of : List ℕ → Result ColumnTrees MapError
limited_avro_schema_of text = avro_schema_of text >>= λ cs. unless_limit (schema_limit cs) cs
