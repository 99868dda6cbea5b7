-- What a type at a column path is to the types that come there later: the parts of structs, lists and maps are columns of their own.
use Rattle.std.specs.Prelude.{◌&&◌, ◌==◌, nat_le, Bool, true, false}
use Rattle.table_history.specs.TypeTree as tree
use Rattle.table_history.specs.TypeTree.{TypeTree}
use Rattle.target_iceberg.specs.declared.shape.Shape.{Shape}
use Rattle.target_iceberg.specs.declared.shape.Shape.TheVariants as shape

abbrev pub shape_of : TypeTree → Shape
shape_of tree.boolean = shape.Boolean
shape_of tree.byte = shape.Byte
shape_of tree.short = shape.Short
shape_of tree.int = shape.Int
shape_of tree.long = shape.Long
shape_of tree.float = shape.Float
shape_of tree.double = shape.Double
shape_of (tree.decimal p s) = shape.Decimal p s
shape_of tree.text = shape.Text
shape_of tree.binary = shape.Binary
shape_of tree.date = shape.Date
shape_of tree.timestamp = shape.Timestamp
shape_of tree.timestamp_ntz = shape.TimestampNtz
shape_of (tree.struct_of cs) = shape.Struct
shape_of (tree.list_of t b) = shape.List
shape_of (tree.map_of k v b) = shape.Map

-- whether a column of the first shape may be of the other later on (Iceberg specification, "Schema Evolution")
abbrev pub widens : Shape → Shape → Bool
widens shape.Boolean shape.Boolean = true
widens shape.Byte shape.Byte = true
widens shape.Short shape.Short = true
widens shape.Int shape.Int = true
widens shape.Int shape.Long = true
widens shape.Long shape.Long = true
widens shape.Float shape.Float = true
widens shape.Float shape.Double = true
widens shape.Double shape.Double = true
widens (shape.Decimal p s) (shape.Decimal q t) = (s == t) && nat_le p q
widens shape.Text shape.Text = true
widens shape.Binary shape.Binary = true
widens shape.Date shape.Date = true
widens shape.Timestamp shape.Timestamp = true
widens shape.TimestampNtz shape.TimestampNtz = true
widens shape.Struct shape.Struct = true
widens shape.List shape.List = true
widens shape.Map shape.Map = true
widens _ _ = false
