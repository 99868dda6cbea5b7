-- The JSON of a list of columns.
use Rattle.std.proofs.Common.{◌≡◌, List, [], ◌∷◌, map, refl, ap}
use Rattle.serde_json.specs.Data.{Data, boolean, item}
use Rattle.serde_json.specs.View.{items_of}
use Rattle.table_history.specs.TypeTree.{ColumnTree, columns_of}
use Rattle.schema_delta.specs.DeltaWriting.{column_data, delta_data, delta_fields}

abbrev pub delta_field : ColumnTree → Data
delta_field c = column_data c.name (delta_data c.kind) (boolean c.nullable)

pub delta_fields_of : (cs : List ColumnTree) → delta_fields (columns_of cs) ≡ items_of (map delta_field cs)
delta_fields_of [] = refl
delta_fields_of (c ∷ cs) = ap (item (delta_field c)) (delta_fields_of cs)
