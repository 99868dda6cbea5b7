-- The Avro schema that is written for a schema, as JSON (Avro specification, "Schema Declaration").
use Rattle.std.specs.Prelude.{ℕ, ◌+◌, ◌&&◌, ◌++◌, List, [], ◌∷◌, Bool, true, false, Option, Some, None, Result, Ok, Err, if◌then◌else◌, codes, decimal}
use Rattle.serde_json.specs.Data.{Data, null, number, unsigned, string, array, object, no_items, item, no_members, member}
use Rattle.serde_json.specs.View.{items_of}
use Rattle.serde_json.specs.Written.{compact_text}
use Rattle.lake_basics.specs.Outcome.{◌>>=◌}
use Rattle.table_history.specs.TypeTree as tree
use Rattle.table_history.specs.TypeTree.{TypeTree, ColumnTrees, no_columns, column}
use Rattle.schema_map.specs.declared.fault.MapError.{MapError}
use Rattle.schema_map.specs.declared.fault.MapError.TheVariants.{SchemaType, AvroName}
use Rattle.schema_map.specs.Image.{is_avro_name, has_text_keys, has_avro_names}

abbrev pub logical_data : List ℕ → List ℕ → Data
logical_data logical word = object (member (codes "logicalType") (string logical) (member (codes "type") (string word) no_members))

abbrev pub decimal_data : ℕ → ℕ → Data
decimal_data p s = object (member (codes "logicalType") (string (codes "decimal")) (member (codes "precision") (number (unsigned p)) (member (codes "scale") (number (unsigned s)) (member (codes "type") (string (codes "bytes")) no_members))))

abbrev pub items_data : Data → Data
items_data items = object (member (codes "items") items (member (codes "type") (string (codes "array")) no_members))

abbrev pub values_data : Data → Data
values_data values = object (member (codes "type") (string (codes "map")) (member (codes "values") values no_members))

-- Records are named r0, r1 and so on.
abbrev pub record_name : ℕ → List ℕ
record_name n = codes "r" ++ decimal n

abbrev pub named_record_data : List ℕ → Data → Data
named_record_data name fields = object (member (codes "fields") fields (member (codes "name") (string name) (member (codes "type") (string (codes "record")) no_members)))

abbrev pub record_data : ℕ → Data → Data
record_data n fields = named_record_data (record_name n) fields

-- the union of the type null and another type
abbrev pub optional_data : Data → Data
optional_data kind = array (item (string (codes "null")) (item kind no_items))

abbrev pub nullable_data : Bool → Data → Data
nullable_data true kind = optional_data kind
nullable_data false kind = kind

-- A field that may be null is null by default.
abbrev pub avro_field_data : Bool → List ℕ → Data → Data
avro_field_data true name kind = object (member (codes "default") null (member (codes "name") (string name) (member (codes "type") (optional_data kind) no_members)))
avro_field_data false name kind = object (member (codes "name") (string name) (member (codes "type") kind no_members))

-- The JSON of a type, where so many records stand before it, and how many stand before what follows.
abbrev mutual
  pub avro_data : TypeTree → ℕ → Data × ℕ
  avro_data tree.boolean n = (string (codes "boolean"), n)
  avro_data tree.byte n = (string (codes "int"), n)
  avro_data tree.short n = (string (codes "int"), n)
  avro_data tree.int n = (string (codes "int"), n)
  avro_data tree.long n = (string (codes "long"), n)
  avro_data tree.float n = (string (codes "float"), n)
  avro_data tree.double n = (string (codes "double"), n)
  avro_data tree.text n = (string (codes "string"), n)
  avro_data tree.binary n = (string (codes "bytes"), n)
  avro_data tree.date n = (logical_data (codes "date") (codes "int"), n)
  avro_data tree.timestamp n = (logical_data (codes "timestamp-micros") (codes "long"), n)
  avro_data tree.timestamp_ntz n = (logical_data (codes "local-timestamp-micros") (codes "long"), n)
  avro_data (tree.decimal p s) n = (decimal_data p s, n)
  avro_data (tree.struct_of cs) n =
      let fields = avro_fields cs (n + 1) in
      (record_data n (array (items_of fields.0)), fields.1)
  avro_data (tree.list_of t b) n =
      let items = avro_data t n in
      (items_data (nullable_data b items.0), items.1)
  avro_data (tree.map_of k v b) n =
      let values = avro_data v n in
      (values_data (nullable_data b values.0), values.1)

  pub avro_fields : ColumnTrees → ℕ → List Data × ℕ
  avro_fields no_columns n = ([], n)
  avro_fields (column m t b cs) n =
      let kind = avro_data t n in
      let others = avro_fields cs kind.1 in
      (avro_field_data b m kind.0 ∷ others.0, others.1)

-- the text that is written, whose first record is the schema
abbrev pub avro_text : ColumnTrees → List ℕ
avro_text cs = compact_text (avro_data (tree.struct_of cs) 0).0

-- ---- what Avro can't spell

-- the first column that has a map whose key isn't a text
abbrev pub key_fault : ColumnTrees → Option (List ℕ)
key_fault no_columns = None
key_fault (column n t b cs) = if has_text_keys t then key_fault cs else Some n

-- the first column that has a name, its own or one inside it, which isn't an Avro name
abbrev pub name_fault : ColumnTrees → Option (List ℕ)
name_fault no_columns = None
name_fault (column n t b cs) = if is_avro_name n && has_avro_names t then name_fault cs else Some n

abbrev pub columns_unless : (List ℕ → MapError) → Option (List ℕ) → ColumnTrees → Result ColumnTrees MapError
columns_unless refusal None cs = Ok cs
columns_unless refusal (Some name) cs = Err (refusal name)

-- The columns, where Avro can spell them. Keys are judged before names.
abbrev pub avro_columns : ColumnTrees → Result ColumnTrees MapError
avro_columns cs = columns_unless SchemaType (key_fault cs) cs >>= λ keyed. columns_unless AvroName (name_fault keyed) keyed

-- the text that is written, or the refusal
abbrev pub avro_schema_text : ColumnTrees → Result (List ℕ) MapError
avro_schema_text cs = avro_columns cs >>= λ columns. Ok (avro_text columns)
