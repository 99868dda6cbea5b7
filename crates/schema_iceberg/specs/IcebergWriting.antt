-- The JSON that is written for a schema of Iceberg (Iceberg specification, "JSON serialization", Schemas).
use Rattle.std.specs.Prelude.{ℕ, ℤ, pos, ◌++◌, List, [], ◌∷◌, Bool, not, codes, decimal}
use Rattle.serde_json.specs.Data.{Data, boolean, number, string, array, object, no_members, member}
use Rattle.serde_json.specs.View.{items_of}
use Rattle.serde_json.specs.Find.{of_integer}
use Rattle.table_history.specs.TypeTree as tree
use Rattle.table_history.specs.TypeTree.{TypeTree, ColumnTrees, no_columns, column}
use Rattle.schema_map.specs.Shared.{struct_data}

abbrev pub id_data : ℤ → Data
id_data id = number (of_integer id)

abbrev pub iceberg_decimal_text : ℕ → ℕ → List ℕ
iceberg_decimal_text p s = codes "decimal(" ++ (decimal p ++ (codes ", " ++ (decimal s ++ codes ")")))

abbrev pub iceberg_list_data : ℤ → Data → Bool → Data
iceberg_list_data id element is_required = object (member (codes "element") element (member (codes "element-id") (id_data id) (member (codes "element-required") (boolean is_required) (member (codes "type") (string (codes "list")) no_members))))

abbrev pub iceberg_map_data : ℤ → Data → ℤ → Data → Bool → Data
iceberg_map_data key_id key value_id value is_required = object (member (codes "key") key (member (codes "key-id") (id_data key_id) (member (codes "type") (string (codes "map")) (member (codes "value") value (member (codes "value-id") (id_data value_id) (member (codes "value-required") (boolean is_required) no_members))))))

abbrev pub iceberg_field_data : ℤ → List ℕ → Data → Bool → Data
iceberg_field_data id name kind is_required = object (member (codes "id") (id_data id) (member (codes "name") (string name) (member (codes "required") (boolean is_required) (member (codes "type") kind no_members))))

abbrev pub iceberg_schema_data : Data → ℤ → Data
iceberg_schema_data fields schema_id = object (member (codes "fields") fields (member (codes "schema-id") (id_data schema_id) (member (codes "type") (string (codes "struct")) no_members)))

-- the first id of a list, and those behind it
abbrev pub first_id : List ℤ → ℤ
first_id [] = pos 0
first_id (id ∷ ids) = id

abbrev pub ids_behind : List ℤ → List ℤ
ids_behind [] = []
ids_behind (id ∷ ids) = ids

-- The JSON of a type whose ids begin this list, and the ids that are left.
abbrev mutual
  pub iceberg_data : TypeTree → List ℤ → Data × List ℤ
  iceberg_data tree.boolean ids = (string (codes "boolean"), ids)
  iceberg_data tree.byte ids = (string (codes "int"), ids)
  iceberg_data tree.short ids = (string (codes "int"), ids)
  iceberg_data tree.int ids = (string (codes "int"), ids)
  iceberg_data tree.long ids = (string (codes "long"), ids)
  iceberg_data tree.float ids = (string (codes "float"), ids)
  iceberg_data tree.double ids = (string (codes "double"), ids)
  iceberg_data tree.text ids = (string (codes "string"), ids)
  iceberg_data tree.binary ids = (string (codes "binary"), ids)
  iceberg_data tree.date ids = (string (codes "date"), ids)
  iceberg_data tree.timestamp ids = (string (codes "timestamptz"), ids)
  iceberg_data tree.timestamp_ntz ids = (string (codes "timestamp"), ids)
  iceberg_data (tree.decimal p s) ids = (string (iceberg_decimal_text p s), ids)
  iceberg_data (tree.struct_of cs) ids =
      let fields = iceberg_fields cs ids in
      (struct_data (array (items_of fields.0)), fields.1)
  iceberg_data (tree.list_of t b) ids =
      let element = iceberg_data t (ids_behind ids) in
      (iceberg_list_data (first_id ids) element.0 (not b), element.1)
  iceberg_data (tree.map_of k v b) ids =
      let key = iceberg_data k (ids_behind ids) in
      let value = iceberg_data v (ids_behind key.1) in
      (iceberg_map_data (first_id ids) key.0 (first_id key.1) value.0 (not b), value.1)

  pub iceberg_fields : ColumnTrees → List ℤ → List Data × List ℤ
  iceberg_fields no_columns ids = ([], ids)
  iceberg_fields (column n t b cs) ids =
      let kind = iceberg_data t (ids_behind ids) in
      let others = iceberg_fields cs kind.1 in
      (iceberg_field_data (first_id ids) n kind.0 (not b) ∷ others.0, others.1)

-- the JSON of a schema with these ids and this schema id
abbrev pub iceberg_value : ColumnTrees → List ℤ → ℤ → Data
iceberg_value cs ids schema_id = iceberg_schema_data (array (items_of (iceberg_fields cs ids).0)) schema_id
