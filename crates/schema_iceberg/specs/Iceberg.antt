-- Reading Iceberg's JSON of a type (Iceberg specification, "Appendix C: JSON serialization", Schemas) with its
-- field ids, depth first, in at most so many levels.
use Rattle.std.specs.Prelude.{ℕ, zero, suc, ℤ, ◌++◌, List, [], ◌∷◌, not, Result, Ok, Err, if◌then◌else◌, codes}
use Rattle.std.specs.Str.{bytes_eq}
use Rattle.serde_json.specs.Data.{Data, null, boolean, number, string, array, object, Items}
use Rattle.serde_json.specs.Find.{get}
use Rattle.table_history.specs.TypeTree as tree
use Rattle.table_history.specs.TypeTree.{TypeTree, ColumnTree, ColumnTrees, columns_of}
use Rattle.schema_map.specs.declared.fault.Fault.{Fault}
use Rattle.schema_map.specs.declared.fault.Fault.TheVariants.{BadSchema, SchemaType, Depth}
use Rattle.schema_map.specs.declared.fault.MapError.{MapError}
use Rattle.lake_basics.specs.Outcome.{◌>>=◌, required}
use Rattle.schema_map.specs.Errors.{in_column}
use Rattle.json_reading.specs.Json.{text_member, bool_member, int_member, list_member, items}
use Rattle.schema_map.specs.Decimal.{decimal_of}
use Rattle.schema_map.specs.Names.{columns_with_own_names}
use Rattle.table_history.specs.SchemaSize.{max_type_levels}
use Rattle.schema_map.specs.Shared.{decimal_or, schema_fields, column_name, schema_of}

unfoldable pub iceberg_word : List ℕ → Result TypeTree Fault
iceberg_word word =
    if bytes_eq word (codes "boolean") then Ok tree.boolean else (if bytes_eq word (codes "int") then Ok tree.int else (if bytes_eq word (codes "long") then Ok tree.long else (if bytes_eq word (codes "float") then Ok tree.float else (if bytes_eq word (codes "double") then Ok tree.double else (if bytes_eq word (codes "string") then Ok tree.text else (if bytes_eq word (codes "binary") then Ok tree.binary else (if bytes_eq word (codes "date") then Ok tree.date else (if bytes_eq word (codes "timestamptz") then Ok tree.timestamp else (if bytes_eq word (codes "timestamp") then Ok tree.timestamp_ntz else Err SchemaType)))))))))

-- a type without parts, which has no ids
abbrev pub iceberg_simple : List ℕ → Result (TypeTree × List ℤ) Fault
iceberg_simple word = do
  t ← decimal_or (decimal_of word) (iceberg_word word)
  Ok (t, [])

-- ---- One level, where `part` reads the types of the parts.

abbrev pub IdReader : Type 0
IdReader = Data → Result (TypeTree × List ℤ) Fault

unfoldable pub iceberg_column : IdReader → Data → Result (ColumnTree × List ℤ) Fault
iceberg_column part d = do
  id ← required BadSchema (int_member (codes "id") d)
  name ← required BadSchema (text_member (codes "name") d)
  is_required ← required BadSchema (bool_member (codes "required") d)
  kind ← required BadSchema (get (codes "type") d)
  t ← part kind
  let c : ColumnTree = record { name = name; kind = t.0; nullable = not is_required }
  Ok (c, id ∷ t.1)

-- the columns that each gives, and all their ids
abbrev pub each_with_ids : {E : Type 0} → (Data → Result (ColumnTree × List ℤ) E) → List Data → Result (List ColumnTree × List ℤ) E
each_with_ids f [] = Ok ([], [])
each_with_ids f (d ∷ ds) = do
  first ← f d
  others ← each_with_ids f ds
  Ok (first.0 ∷ others.0, first.1 ++ others.1)

unfoldable pub iceberg_columns : IdReader → Items → Result (ColumnTrees × List ℤ) Fault
iceberg_columns part fields = do
  columns ← each_with_ids (iceberg_column part) (items fields)
  own ← columns_with_own_names (columns_of columns.0)
  Ok (own, columns.1)

unfoldable pub iceberg_struct : IdReader → Data → Result (TypeTree × List ℤ) Fault
iceberg_struct part d = do
  fields ← required BadSchema (list_member (codes "fields") d)
  columns ← iceberg_columns part fields
  Ok (tree.struct_of columns.0, columns.1)

unfoldable pub iceberg_list : IdReader → Data → Result (TypeTree × List ℤ) Fault
iceberg_list part d = do
  id ← required BadSchema (int_member (codes "element-id") d)
  is_required ← required BadSchema (bool_member (codes "element-required") d)
  element ← required BadSchema (get (codes "element") d)
  t ← part element
  Ok (tree.list_of t.0 (not is_required), id ∷ t.1)

-- A key's id and those in it stand before the value's.
unfoldable pub iceberg_map : IdReader → Data → Result (TypeTree × List ℤ) Fault
iceberg_map part d = do
  key_id ← required BadSchema (int_member (codes "key-id") d)
  value_id ← required BadSchema (int_member (codes "value-id") d)
  is_required ← required BadSchema (bool_member (codes "value-required") d)
  key ← required BadSchema (get (codes "key") d)
  k ← part key
  value ← required BadSchema (get (codes "value") d)
  v ← part value
  Ok (tree.map_of k.0 v.0 (not is_required), key_id ∷ (k.1 ++ value_id ∷ v.1))

unfoldable pub iceberg_nested : IdReader → Data → Result (TypeTree × List ℤ) Fault
iceberg_nested part d = do
  word ← required BadSchema (text_member (codes "type") d)
  if bytes_eq word (codes "struct") then iceberg_struct part d else (if bytes_eq word (codes "list") then iceberg_list part d else (if bytes_eq word (codes "map") then iceberg_map part d else Err SchemaType))

abbrev pub iceberg_shape : IdReader → IdReader
iceberg_shape part null = Err BadSchema
iceberg_shape part (boolean b) = Err BadSchema
iceberg_shape part (number n) = Err BadSchema
iceberg_shape part (string word) = iceberg_simple word
iceberg_shape part (array ds) = Err BadSchema
iceberg_shape part (object ms) = iceberg_nested part (object ms)

unfoldable pub iceberg_type : ℕ → Data → Result (TypeTree × List ℤ) Fault
iceberg_type zero d = Err Depth
iceberg_type (suc levels) d = iceberg_shape (iceberg_type levels) d

-- ---- a schema

abbrev pub iceberg_top_column : Data → Result (ColumnTree × List ℤ) MapError
iceberg_top_column d = in_column (column_name d) (iceberg_column (iceberg_type max_type_levels) d)

unfoldable pub iceberg_schema : Data → Result (ColumnTrees × List ℤ) MapError
iceberg_schema d = do
  fields ← in_column [] (schema_fields d)
  columns ← each_with_ids iceberg_top_column (items fields)
  own ← schema_of (columns_of columns.0)
  Ok (own, columns.1)
