-- The columns of an Image, one by one.
use Rattle.std.proofs.Common.{◌≡◌, List, [], ◌∷◌, map, refl, ap}
use Rattle.table_history.specs.TypeTree.{ColumnTree, column, columns_of}
use Rattle.schema_map.specs.Image.{wide_type, wide_columns}

abbrev pub wide : ColumnTree → ColumnTree
wide c = record { name = c.name; kind = wide_type c.kind; nullable = c.nullable }

pub widened_columns_of : (cs : List ColumnTree) → wide_columns (columns_of cs) ≡ columns_of (map wide cs)
widened_columns_of [] = refl
widened_columns_of (c ∷ cs) = ap (column c.name (wide_type c.kind) c.nullable) (widened_columns_of cs)
