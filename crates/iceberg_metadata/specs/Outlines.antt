-- What the JSON of a held schema has in it, whatever its types and however large it is (Iceberg specification, "JSON serialization", Schemas).
use Rattle.std.specs.Prelude.{ℕ, zero, suc, ℤ, pos, List, [], ◌∷◌, ◌++◌, true, false, Option, Some, None, option_map, option_and_then, Result, Ok, Err, if◌then◌else◌, codes}
use Rattle.std.specs.Str.{bytes_eq}
use Rattle.serde_json.specs.Data.{Data, null, boolean, number, string, array, object, no_items, item}
use Rattle.serde_json.specs.Read.{max_depth}
use Rattle.lake_basics.specs.Outcome.{◌>>=◌, each}
use Rattle.json_reading.specs.Json.{int_member, text_member, items}
use Rattle.avro_schema.specs.Names.{are_distinct}
use Rattle.partition_map.specs.Columns.{column_kind}
use Rattle.partition_map.specs.declared.kind.PartKind.{PartKind}
use Rattle.schema_map.specs.Paths.{Path}
use Rattle.schema_iceberg.specs.Iceberg.{iceberg_schema}
use Rattle.schema_iceberg.specs.IcebergWriting.{iceberg_field_data, iceberg_schema_data}
use Rattle.schema_map.specs.declared.fault.MapError.{MapError}
use Rattle.table_history.specs.TypeTree.{ColumnTrees}
use Rattle.iceberg_metadata.specs.declared.error.MetadataError.{MetadataError}
use Rattle.iceberg_metadata.specs.declared.error.MetadataError.TheVariants.{Malformed}
use Rattle.iceberg_metadata.specs.declared.outline.Outline.{Outline}
use Rattle.iceberg_metadata.specs.Members.{text_in, int_in, bool_in, list_in, member_in}

-- ---- words

-- the JSON of a schema with one column of the type of this word
abbrev pub one_column : List ℕ → Data
one_column word = iceberg_schema_data (array (item (iceberg_field_data (pos 0) (codes "a") (string word) true) no_items)) (pos 0)

abbrev pub columns_if_read : Result (ColumnTrees × List ℤ) MapError → Option ColumnTrees
columns_if_read (Ok s) = Some s.0
columns_if_read (Err e) = None

-- the column of that schema, where the word spells a type
abbrev pub column_of_word : List ℕ → Option ColumnTrees
column_of_word word = columns_if_read (iceberg_schema (one_column word))

-- the kind of a partition column of the type of this word
abbrev pub kind_of_word : List ℕ → Option PartKind
kind_of_word word = option_and_then (λ schema. column_kind schema (codes "a")) (column_of_word word)

-- ---- what was met so far, and more

abbrev pub with_column : Outline → Path → ℤ → Outline
with_column o path id = record { paths = o.paths ++ (path, id) ∷ []; has_other = o.has_other }

-- a type that has no row in the table of types
abbrev pub with_other : Outline → Outline
with_other o = record { paths = o.paths; has_other = true }

abbrev pub with_word : Option ColumnTrees → Outline → Outline
with_word None o = with_other o
with_word (Some schema) o = o

abbrev pub nothing_met : Outline
nothing_met = record { paths = []; has_other = false }

-- ---- One level, where `part` goes over the type of a part at its column path. A fault of the grammar is told at once.

abbrev pub Walk : Type 0
Walk = Path → Data → Outline → Result Outline MetadataError

-- a part with this name and id: its path stands before those inside it
abbrev pub part_outline : Walk → Path → List ℕ → ℤ → Data → Outline → Result Outline MetadataError
part_outline part prefix name id kind o = part (prefix ++ name ∷ []) kind (with_column o (prefix ++ name ∷ []) id)

unfoldable pub field_outline : Walk → Path → Data → Outline → Result Outline MetadataError
field_outline part prefix d o = do
  id ← int_in (codes "id") d
  name ← text_in (codes "name") d
  is_required ← bool_in (codes "required") d
  kind ← member_in (codes "type") d
  part_outline part prefix name id kind o

-- one after another
abbrev pub fields_outline : (Data → Outline → Result Outline MetadataError) → List Data → Outline → Result Outline MetadataError
fields_outline f [] o = Ok o
fields_outline f (d ∷ ds) o = f d o >>= λ more. fields_outline f ds more

abbrev pub if_distinct : List (List ℕ) → Result (Unit {0}) MetadataError
if_distinct names = if are_distinct names then Ok tt else Err Malformed

-- no two of the fields have one name
abbrev pub own_names : List Data → Result (Unit {0}) MetadataError
own_names ds = each (text_in (codes "name")) ds >>= if_distinct

unfoldable pub struct_outline : Walk → Path → Data → Outline → Result Outline MetadataError
struct_outline part prefix d o = do
  fields ← list_in (codes "fields") d
  own ← own_names (items fields)
  fields_outline (field_outline part prefix) (items fields) o

unfoldable pub list_outline : Walk → Path → Data → Outline → Result Outline MetadataError
list_outline part prefix d o = do
  id ← int_in (codes "element-id") d
  is_required ← bool_in (codes "element-required") d
  element ← member_in (codes "element") d
  part_outline part prefix (codes "element") id element o

unfoldable pub map_outline : Walk → Path → Data → Outline → Result Outline MetadataError
map_outline part prefix d o = do
  key_id ← int_in (codes "key-id") d
  value_id ← int_in (codes "value-id") d
  is_required ← bool_in (codes "value-required") d
  key ← member_in (codes "key") d
  value ← member_in (codes "value") d
  more ← part_outline part prefix (codes "key") key_id key o
  part_outline part prefix (codes "value") value_id value more

unfoldable pub nested_outline : Walk → Path → Data → Outline → Result Outline MetadataError
nested_outline part prefix d o = do
  word ← text_in (codes "type") d
  if bytes_eq word (codes "struct") then struct_outline part prefix d o else (if bytes_eq word (codes "list") then list_outline part prefix d o else (if bytes_eq word (codes "map") then map_outline part prefix d o else Ok (with_other o)))

abbrev pub shape_outline : Walk → Path → Data → Outline → Result Outline MetadataError
shape_outline part prefix null o = Err Malformed
shape_outline part prefix (boolean b) o = Err Malformed
shape_outline part prefix (number n) o = Err Malformed
shape_outline part prefix (string word) o = Ok (with_word (column_of_word word) o)
shape_outline part prefix (array ds) o = Err Malformed
shape_outline part prefix (object ms) o = nested_outline part prefix (object ms) o

-- the columns inside a type, behind what was met before
unfoldable pub type_outline : ℕ → Walk
type_outline zero prefix d o = Err Malformed
type_outline (suc levels) prefix d o = shape_outline (type_outline levels) prefix d o

-- ---- a schema

-- The columns of a schema. JSON is read in no more levels than these.
unfoldable pub schema_outline : Data → Result Outline MetadataError
schema_outline d = do
  word ← text_in (codes "type") d
  if bytes_eq word (codes "struct") then struct_outline (type_outline max_depth) [] d nothing_met else Err Malformed

-- ---- kinds of partition columns

abbrev pub kind_by : Option ℤ → Option (List ℕ) → Option (ℤ × PartKind)
kind_by None word = None
kind_by (Some id) None = None
kind_by (Some id) (Some word) = option_map (λ kind. (id, kind)) (kind_of_word word)

-- the field id of a column and its kind, where it has one
abbrev pub field_kind : Data → Option (ℤ × PartKind)
field_kind d = kind_by (int_member (codes "id") d) (text_member (codes "type") d)

abbrev pub kind_if_any : Option (ℤ × PartKind) → List (ℤ × PartKind)
kind_if_any None = []
kind_if_any (Some k) = k ∷ []

abbrev pub field_kinds : List Data → List (ℤ × PartKind)
field_kinds [] = []
field_kinds (d ∷ ds) = kind_if_any (field_kind d) ++ field_kinds ds
