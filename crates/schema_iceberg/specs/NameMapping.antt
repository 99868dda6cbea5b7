-- The name mapping of a schema (Iceberg specification, "Column Projection", name mapping serialization):
-- the field id of each name, with those of the parts of structs, lists and maps.
use Rattle.std.specs.Prelude.{ℤ, ℕ, List, [], ◌∷◌, Option, Some, None, codes}
use Rattle.serde_json.specs.Data.{Data, string, array, object, no_items, item, no_members, member}
use Rattle.serde_json.specs.View.{items_of}
use Rattle.serde_json.specs.Written.{compact_text}
use Rattle.table_history.specs.TypeTree as tree
use Rattle.table_history.specs.TypeTree.{TypeTree, ColumnTrees, no_columns, column}
use Rattle.schema_iceberg.specs.IcebergWriting.{id_data, first_id, ids_behind}

abbrev names_data : List ℕ → Data
names_data name = array (item (string name) no_items)

abbrev pub leaf_data : ℤ → List ℕ → Data
leaf_data id name = object (member (codes "field-id") (id_data id) (member (codes "names") (names_data name) no_members))

abbrev pub nested_data : ℤ → List ℕ → Data → Data
nested_data id name parts = object (member (codes "field-id") (id_data id) (member (codes "fields") parts (member (codes "names") (names_data name) no_members)))

-- a name with its id and, where its type has parts, their entries
abbrev pub entry_data : ℤ → List ℕ → Option (List Data) → Data
entry_data id name None = leaf_data id name
entry_data id name (Some parts) = nested_data id name (array (items_of parts))

-- The entries of a type's parts, whose ids begin this list, and the ids that are left.
abbrev mutual
  pub part_entries : TypeTree → List ℤ → Option (List Data) × List ℤ
  part_entries (tree.struct_of cs) ids =
      let entries = column_entries cs ids in
      (Some entries.0, entries.1)
  part_entries (tree.list_of t b) ids =
      let inner = part_entries t (ids_behind ids) in
      (Some (entry_data (first_id ids) (codes "element") inner.0 ∷ []), inner.1)
  part_entries (tree.map_of k v b) ids =
      let in_key = part_entries k (ids_behind ids) in
      let in_value = part_entries v (ids_behind in_key.1) in
      (Some (entry_data (first_id ids) (codes "key") in_key.0 ∷ entry_data (first_id in_key.1) (codes "value") in_value.0 ∷ []), in_value.1)
  part_entries _ ids = (None, ids)

  pub column_entries : ColumnTrees → List ℤ → List Data × List ℤ
  column_entries no_columns ids = ([], ids)
  column_entries (column n t b cs) ids =
      let inner = part_entries t (ids_behind ids) in
      let others = column_entries cs inner.1 in
      (entry_data (first_id ids) n inner.0 ∷ others.0, others.1)

abbrev pub name_mapping_data : ColumnTrees → List ℤ → Data
name_mapping_data cs ids = array (items_of (column_entries cs ids).0)

abbrev pub name_mapping_text : ColumnTrees → List ℤ → List ℕ
name_mapping_text cs ids = compact_text (name_mapping_data cs ids)
