-- Which JSON is a type or a schema in Iceberg's spelling, and the field ids in it, depth first
-- (Iceberg specification, "JSON serialization", Schemas).
use Rattle.std.specs.Prelude.{◌≡◌, ◌++◌, ℕ, ℤ, List, [], ◌∷◌, true, not, Some, codes}
use Rattle.serde_json.specs.Data.{Data, boolean, string, array, object, Items, no_items, item, Members}
use Rattle.serde_json.specs.Find.{get_member}
use Rattle.json_reading.specs.Json.{int_member}
use Rattle.table_history.specs.TypeTree as tree
use Rattle.table_history.specs.TypeTree.{TypeTree, ColumnTrees, no_columns, column}
use Rattle.table_history.specs.Sound.{have_own_names}
use Rattle.schema_map.specs.DecimalText.{IsDecimalText}

-- Iceberg has no type of fewer than 32 bits. Required is the opposite of nullable.
abbrev mutual
  pub IsIcebergType : TypeTree → List ℤ → Data → Type 0
  IsIcebergType tree.boolean ids d = (ids ≡ []) × (d ≡ string (codes "boolean"))
  IsIcebergType tree.byte ids d = ⊥
  IsIcebergType tree.short ids d = ⊥
  IsIcebergType tree.int ids d = (ids ≡ []) × (d ≡ string (codes "int"))
  IsIcebergType tree.long ids d = (ids ≡ []) × (d ≡ string (codes "long"))
  IsIcebergType tree.float ids d = (ids ≡ []) × (d ≡ string (codes "float"))
  IsIcebergType tree.double ids d = (ids ≡ []) × (d ≡ string (codes "double"))
  IsIcebergType tree.text ids d = (ids ≡ []) × (d ≡ string (codes "string"))
  IsIcebergType tree.binary ids d = (ids ≡ []) × (d ≡ string (codes "binary"))
  IsIcebergType tree.date ids d = (ids ≡ []) × (d ≡ string (codes "date"))
  IsIcebergType tree.timestamp ids d = (ids ≡ []) × (d ≡ string (codes "timestamptz"))
  IsIcebergType tree.timestamp_ntz ids d = (ids ≡ []) × (d ≡ string (codes "timestamp"))
  IsIcebergType (tree.decimal p s) ids d = (name : List ℕ) × (ids ≡ []) × (d ≡ string name) × IsDecimalText p s name
  IsIcebergType (tree.struct_of cs) ids d =
      (ms : Members) × (ds : Items) × (d ≡ object ms)
      × (get_member (codes "type") ms ≡ Some (string (codes "struct")))
      × (get_member (codes "fields") ms ≡ Some (array ds))
      × (have_own_names cs ≡ true) × AreIcebergColumns cs ids ds
  IsIcebergType (tree.list_of t b) ids d =
      (ms : Members) × (e : Data) × (id : ℤ) × (inner : List ℤ) × (ids ≡ id ∷ inner) × (d ≡ object ms)
      × (get_member (codes "type") ms ≡ Some (string (codes "list")))
      × (int_member (codes "element-id") (object ms) ≡ Some id)
      × (get_member (codes "element-required") ms ≡ Some (boolean (not b)))
      × (get_member (codes "element") ms ≡ Some e)
      × IsIcebergType t inner e
  IsIcebergType (tree.map_of k v b) ids d =
      (ms : Members) × (dk : Data) × (dv : Data) × (key_id : ℤ) × (key_ids : List ℤ) × (value_id : ℤ) × (value_ids : List ℤ)
      × (ids ≡ key_id ∷ (key_ids ++ value_id ∷ value_ids)) × (d ≡ object ms)
      × (get_member (codes "type") ms ≡ Some (string (codes "map")))
      × (int_member (codes "key-id") (object ms) ≡ Some key_id)
      × (int_member (codes "value-id") (object ms) ≡ Some value_id)
      × (get_member (codes "value-required") ms ≡ Some (boolean (not b)))
      × (get_member (codes "key") ms ≡ Some dk)
      × (get_member (codes "value") ms ≡ Some dv)
      × IsIcebergType k key_ids dk × IsIcebergType v value_ids dv

  -- A field has an id, a name, a type and whether it is required; its other members say nothing.
  pub AreIcebergColumns : ColumnTrees → List ℤ → Items → Type 0
  AreIcebergColumns no_columns ids ds = (ids ≡ []) × (ds ≡ no_items)
  AreIcebergColumns (column n t b cs) ids ds =
      (ms : Members) × (d : Data) × (rest : Items) × (id : ℤ) × (inner : List ℤ) × (others : List ℤ)
      × (ids ≡ (id ∷ inner) ++ others) × (ds ≡ item (object ms) rest)
      × (int_member (codes "id") (object ms) ≡ Some id)
      × (get_member (codes "name") ms ≡ Some (string n))
      × (get_member (codes "required") ms ≡ Some (boolean (not b)))
      × (get_member (codes "type") ms ≡ Some d)
      × IsIcebergType t inner d × AreIcebergColumns cs others rest

-- The value is a struct of these columns, with these ids.
abbrev pub IsIcebergSchema : ColumnTrees → List ℤ → Data → Type 0
IsIcebergSchema cs ids d = IsIcebergType (tree.struct_of cs) ids d
