-- Which JSON is a type or a schema in Delta's spelling.
use Rattle.std.specs.Prelude.{◌≡◌, ℕ, List, true, Some, codes}
use Rattle.serde_json.specs.Data.{Data, boolean, string, array, object, Items, no_items, item, Members}
use Rattle.serde_json.specs.Find.{get_member}
use Rattle.table_history.specs.TypeTree as tree
use Rattle.table_history.specs.TypeTree.{TypeTree, ColumnTrees, no_columns, column}
use Rattle.json_reading.specs.Json.{json}
use Rattle.table_history.specs.Sound.{have_own_names}
use Rattle.schema_map.specs.DecimalText.{IsDecimalText}

abbrev mutual
  pub IsDeltaType : TypeTree → Data → Type 0
  IsDeltaType tree.boolean d = d ≡ string (codes "boolean")
  IsDeltaType tree.byte d = d ≡ string (codes "byte")
  IsDeltaType tree.short d = d ≡ string (codes "short")
  IsDeltaType tree.int d = d ≡ string (codes "integer")
  IsDeltaType tree.long d = d ≡ string (codes "long")
  IsDeltaType tree.float d = d ≡ string (codes "float")
  IsDeltaType tree.double d = d ≡ string (codes "double")
  IsDeltaType tree.text d = d ≡ string (codes "string")
  IsDeltaType tree.binary d = d ≡ string (codes "binary")
  IsDeltaType tree.date d = d ≡ string (codes "date")
  IsDeltaType tree.timestamp d = d ≡ string (codes "timestamp")
  IsDeltaType tree.timestamp_ntz d = d ≡ string (codes "timestamp_ntz")
  IsDeltaType (tree.decimal p s) d = (name : List ℕ) × (d ≡ string name) × IsDecimalText p s name
  IsDeltaType (tree.struct_of cs) d =
      (ms : Members) × (ds : Items) × (d ≡ object ms)
      × (get_member (codes "type") ms ≡ Some (string (codes "struct")))
      × (get_member (codes "fields") ms ≡ Some (array ds))
      × (have_own_names cs ≡ true) × AreDeltaColumns cs ds
  IsDeltaType (tree.list_of t b) d =
      (ms : Members) × (e : Data) × (d ≡ object ms)
      × (get_member (codes "type") ms ≡ Some (string (codes "array")))
      × (get_member (codes "containsNull") ms ≡ Some (boolean b))
      × (get_member (codes "elementType") ms ≡ Some e)
      × IsDeltaType t e
  IsDeltaType (tree.map_of k v b) d =
      (ms : Members) × (dk : Data) × (dv : Data) × (d ≡ object ms)
      × (get_member (codes "type") ms ≡ Some (string (codes "map")))
      × (get_member (codes "valueContainsNull") ms ≡ Some (boolean b))
      × (get_member (codes "keyType") ms ≡ Some dk)
      × (get_member (codes "valueType") ms ≡ Some dv)
      × IsDeltaType k dk × IsDeltaType v dv

  -- A field has a name, a type and whether it may be null; its other members say nothing.
  pub AreDeltaColumns : ColumnTrees → Items → Type 0
  AreDeltaColumns no_columns ds = ds ≡ no_items
  AreDeltaColumns (column n t b cs) ds =
      (ms : Members) × (d : Data) × (rest : Items) × (ds ≡ item (object ms) rest)
      × (get_member (codes "name") ms ≡ Some (string n))
      × (get_member (codes "nullable") ms ≡ Some (boolean b))
      × (get_member (codes "type") ms ≡ Some d)
      × IsDeltaType t d × AreDeltaColumns cs rest

-- The text is JSON of a struct of these columns.
abbrev pub IsDeltaText : ColumnTrees → List ℕ → Type 0
IsDeltaText cs text = (d : Data) × (json text ≡ Some d) × IsDeltaType (tree.struct_of cs) d
