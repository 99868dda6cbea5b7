-- The JSON that is written for a schema of Delta.
use Rattle.std.specs.Prelude.{ℕ, List, ◌++◌, codes, decimal}
use Rattle.serde_json.specs.Data.{Data, boolean, string, array, object, Items, no_items, item, no_members, member}
use Rattle.serde_json.specs.Written.{compact_text}
use Rattle.table_history.specs.TypeTree as tree
use Rattle.table_history.specs.TypeTree.{TypeTree, ColumnTrees, no_columns, column}
use Rattle.schema_map.specs.Shared.{struct_data}

-- the text of a decimal type
abbrev pub delta_decimal_text : ℕ → ℕ → List ℕ
delta_decimal_text p s = codes "decimal(" ++ (decimal p ++ (codes "," ++ (decimal s ++ codes ")")))

abbrev pub list_data : Data → Data → Data
list_data element nullable = object (member (codes "containsNull") nullable (member (codes "elementType") element (member (codes "type") (string (codes "array")) no_members)))

abbrev pub map_data : Data → Data → Data → Data
map_data key value nullable = object (member (codes "keyType") key (member (codes "type") (string (codes "map")) (member (codes "valueContainsNull") nullable (member (codes "valueType") value no_members))))

abbrev pub column_data : List ℕ → Data → Data → Data
column_data name kind nullable = object (member (codes "metadata") (object no_members) (member (codes "name") (string name) (member (codes "nullable") nullable (member (codes "type") kind no_members))))

abbrev mutual
  pub delta_data : TypeTree → Data
  delta_data tree.boolean = string (codes "boolean")
  delta_data tree.byte = string (codes "byte")
  delta_data tree.short = string (codes "short")
  delta_data tree.int = string (codes "integer")
  delta_data tree.long = string (codes "long")
  delta_data tree.float = string (codes "float")
  delta_data tree.double = string (codes "double")
  delta_data tree.text = string (codes "string")
  delta_data tree.binary = string (codes "binary")
  delta_data tree.date = string (codes "date")
  delta_data tree.timestamp = string (codes "timestamp")
  delta_data tree.timestamp_ntz = string (codes "timestamp_ntz")
  delta_data (tree.decimal p s) = string (delta_decimal_text p s)
  delta_data (tree.struct_of cs) = struct_data (array (delta_fields cs))
  delta_data (tree.list_of t b) = list_data (delta_data t) (boolean b)
  delta_data (tree.map_of k v b) = map_data (delta_data k) (delta_data v) (boolean b)

  pub delta_fields : ColumnTrees → Items
  delta_fields no_columns = no_items
  delta_fields (column n t b cs) = item (column_data n (delta_data t) (boolean b)) (delta_fields cs)

-- the text that is written
abbrev pub delta_text : ColumnTrees → List ℕ
delta_text cs = compact_text (delta_data (tree.struct_of cs))
