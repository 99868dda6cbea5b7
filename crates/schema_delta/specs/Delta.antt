-- Reading Delta's JSON of a type, in at most so many levels.
use Rattle.std.specs.Prelude.{ℕ, zero, suc, List, [], Result, Ok, Err, if◌then◌else◌, codes}
use Rattle.std.specs.Str.{bytes_eq}
use Rattle.serde_json.specs.Data.{Data, null, boolean, number, string, array, object, Items}
use Rattle.serde_json.specs.Find.{get}
use Rattle.table_history.specs.TypeTree as tree
use Rattle.table_history.specs.TypeTree.{TypeTree, ColumnTree, ColumnTrees, columns_of}
use Rattle.schema_map.specs.declared.fault.Fault.{Fault}
use Rattle.schema_map.specs.declared.fault.Fault.TheVariants.{BadSchema, SchemaType, Depth}
use Rattle.lake_basics.specs.Outcome.{◌>>=◌, required, each}
use Rattle.schema_map.specs.Errors.{in_column}
use Rattle.json_reading.specs.Json.{text_member, bool_member, list_member, items, json}
use Rattle.schema_map.specs.Names.{columns_with_own_names}
use Rattle.schema_map.specs.Shared.{decimal_or, column_name, schema_fields, schema_of}
use Rattle.schema_map.specs.Decimal.{decimal_of}
use Rattle.table_history.specs.SchemaSize.{max_type_levels}
use Rattle.schema_map.specs.declared.fault.MapError.{MapError}

unfoldable pub delta_word : List ℕ → Result TypeTree Fault
delta_word word =
    if bytes_eq word (codes "boolean") then Ok tree.boolean else (if bytes_eq word (codes "byte") then Ok tree.byte else (if bytes_eq word (codes "short") then Ok tree.short else (if bytes_eq word (codes "integer") then Ok tree.int else (if bytes_eq word (codes "long") then Ok tree.long else (if bytes_eq word (codes "float") then Ok tree.float else (if bytes_eq word (codes "double") then Ok tree.double else (if bytes_eq word (codes "string") then Ok tree.text else (if bytes_eq word (codes "binary") then Ok tree.binary else (if bytes_eq word (codes "date") then Ok tree.date else (if bytes_eq word (codes "timestamp") then Ok tree.timestamp else (if bytes_eq word (codes "timestamp_ntz") then Ok tree.timestamp_ntz else Err SchemaType)))))))))))

-- the types without parts
abbrev pub delta_simple : List ℕ → Result TypeTree Fault
delta_simple word = decimal_or (decimal_of word) (delta_word word)

-- ---- One level, where `part` reads the types of the parts.

abbrev pub Reader : Type 0
Reader = Data → Result TypeTree Fault

unfoldable pub delta_column : Reader → Data → Result ColumnTree Fault
delta_column part d = do
  name ← required BadSchema (text_member (codes "name") d)
  nullable ← required BadSchema (bool_member (codes "nullable") d)
  kind ← required BadSchema (get (codes "type") d)
  t ← part kind
  Ok (record { name = name; kind = t; nullable = nullable })

unfoldable pub delta_columns : Reader → Items → Result ColumnTrees Fault
delta_columns part fields = do
  columns ← each (delta_column part) (items fields)
  columns_with_own_names (columns_of columns)

unfoldable pub delta_struct : Reader → Data → Result TypeTree Fault
delta_struct part d = do
  fields ← required BadSchema (list_member (codes "fields") d)
  columns ← delta_columns part fields
  Ok (tree.struct_of columns)

unfoldable pub delta_list : Reader → Data → Result TypeTree Fault
delta_list part d = do
  nullable ← required BadSchema (bool_member (codes "containsNull") d)
  element ← required BadSchema (get (codes "elementType") d)
  t ← part element
  Ok (tree.list_of t nullable)

unfoldable pub delta_map : Reader → Data → Result TypeTree Fault
delta_map part d = do
  nullable ← required BadSchema (bool_member (codes "valueContainsNull") d)
  key ← required BadSchema (get (codes "keyType") d)
  k ← part key
  value ← required BadSchema (get (codes "valueType") d)
  v ← part value
  Ok (tree.map_of k v nullable)

unfoldable pub delta_nested : Reader → Data → Result TypeTree Fault
delta_nested part d = do
  word ← required BadSchema (text_member (codes "type") d)
  if bytes_eq word (codes "struct") then delta_struct part d else (if bytes_eq word (codes "array") then delta_list part d else (if bytes_eq word (codes "map") then delta_map part d else Err SchemaType))

abbrev pub delta_shape : Reader → Reader
delta_shape part null = Err BadSchema
delta_shape part (boolean b) = Err BadSchema
delta_shape part (number n) = Err BadSchema
delta_shape part (string word) = delta_simple word
delta_shape part (array ds) = Err BadSchema
delta_shape part (object ms) = delta_nested part (object ms)

-- ---- all levels

unfoldable pub delta_type : ℕ → Data → Result TypeTree Fault
delta_type zero d = Err Depth
delta_type (suc levels) d = delta_shape (delta_type levels) d

-- ---- a schema

abbrev pub delta_top_column : Data → Result ColumnTree MapError
delta_top_column d = in_column (column_name d) (delta_column (delta_type max_type_levels) d)

unfoldable pub delta_schema : Data → Result ColumnTrees MapError
delta_schema d = do
  fields ← in_column [] (schema_fields d)
  columns ← each delta_top_column (items fields)
  schema_of (columns_of columns)

-- what a text spells, or the first fault
abbrev pub delta_schema_of : List ℕ → Result ColumnTrees MapError
delta_schema_of text = in_column [] (required BadSchema (json text)) >>= delta_schema
