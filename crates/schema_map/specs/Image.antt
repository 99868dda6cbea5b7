-- The Image of a schema in a format: the schema in the format's types.
use Rattle.std.specs.Prelude.{ℕ, ◌&&◌, ◌||◌, ◌==◌, nat_lt, List, [], ◌∷◌, Bool, true, false, Option, Some, None, if◌then◌else◌}
use Rattle.std.specs.List.{list_all}
use Rattle.table_history.specs.TypeTree as tree
use Rattle.table_history.specs.TypeTree.{TypeTree, ColumnTrees, no_columns, column}
use Rattle.table_history.specs.declared.kind.Kind.{Kind}
use Rattle.table_history.specs.declared.kind.Kind.TheVariants.{Delta, Iceberg, Hudi}

-- Iceberg and Avro have no whole number of fewer bits than int.
abbrev mutual
  pub wide_type : TypeTree → TypeTree
  wide_type tree.boolean = tree.boolean
  wide_type tree.byte = tree.int
  wide_type tree.short = tree.int
  wide_type tree.int = tree.int
  wide_type tree.long = tree.long
  wide_type tree.float = tree.float
  wide_type tree.double = tree.double
  wide_type tree.text = tree.text
  wide_type tree.binary = tree.binary
  wide_type tree.date = tree.date
  wide_type tree.timestamp = tree.timestamp
  wide_type tree.timestamp_ntz = tree.timestamp_ntz
  wide_type (tree.decimal p s) = tree.decimal p s
  wide_type (tree.struct_of cs) = tree.struct_of (wide_columns cs)
  wide_type (tree.list_of t b) = tree.list_of (wide_type t) b
  wide_type (tree.map_of k v b) = tree.map_of (wide_type k) (wide_type v) b

  pub wide_columns : ColumnTrees → ColumnTrees
  wide_columns no_columns = no_columns
  wide_columns (column n t b cs) = column n (wide_type t) b (wide_columns cs)

abbrev pub is_letter : ℕ → Bool
is_letter b = (nat_lt 64 b && nat_lt b 91) || ((nat_lt 96 b && nat_lt b 123) || (b == 95))

abbrev pub is_name_byte : ℕ → Bool
is_name_byte b = is_letter b || (nat_lt 47 b && nat_lt b 58)

-- a letter or `_`, and then letters, digits and `_`, all ASCII (Avro specification, "Names")
abbrev pub is_avro_name : List ℕ → Bool
is_avro_name [] = false
is_avro_name (b ∷ bytes) = is_letter b && list_all is_name_byte bytes

abbrev pub is_text : TypeTree → Bool
is_text tree.text = true
is_text _ = false

-- whether each map's key is a text
abbrev mutual
  pub has_text_keys : TypeTree → Bool
  has_text_keys (tree.struct_of cs) = have_text_keys cs
  has_text_keys (tree.list_of t b) = has_text_keys t
  has_text_keys (tree.map_of k v b) = is_text k && has_text_keys v
  has_text_keys _ = true

  pub have_text_keys : ColumnTrees → Bool
  have_text_keys no_columns = true
  have_text_keys (column n t b cs) = has_text_keys t && have_text_keys cs

-- whether each column's name, at all levels, is an Avro name
abbrev mutual
  pub has_avro_names : TypeTree → Bool
  has_avro_names (tree.struct_of cs) = have_avro_names cs
  has_avro_names (tree.list_of t b) = has_avro_names t
  has_avro_names (tree.map_of k v b) = has_avro_names k && has_avro_names v
  has_avro_names _ = true

  pub have_avro_names : ColumnTrees → Bool
  have_avro_names no_columns = true
  have_avro_names (column n t b cs) = is_avro_name n && (has_avro_names t && have_avro_names cs)

-- The Image in Hudi is defined where each map's key is a text and each name is an Avro name.
abbrev pub image : Kind → ColumnTrees → Option ColumnTrees
image Delta cs = Some cs
image Iceberg cs = Some (wide_columns cs)
image Hudi cs = if have_text_keys cs && have_avro_names cs then Some (wide_columns cs) else None
