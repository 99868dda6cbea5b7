-- Columns as a list, and the levels of their types.
use Rattle.std.proofs.Common.{◌≡◌, ◌≤◌, List, [], ◌∷◌, refl, ap, arith}
use Rattle.table_history.specs.TypeTree as tree
use Rattle.table_history.specs.TypeTree.{TypeTree, ColumnTree, ColumnTrees, no_columns, column, columns_of}
use Rattle.table_history.specs.SchemaSize.{levels}

abbrev pub column_list : ColumnTrees → List ColumnTree
column_list no_columns = []
column_list (column n t b cs) = record { name = n; kind = t; nullable = b } ∷ column_list cs

pub columns_of-column_list : (cs : ColumnTrees) → columns_of (column_list cs) ≡ cs
columns_of-column_list no_columns = refl
columns_of-column_list (column n t b cs) = ap (column n t b) (columns_of-column_list cs)

pub one_level : (t : TypeTree) → 1 ≤ levels t
one_level tree.boolean = omega arith
one_level tree.byte = omega arith
one_level tree.short = omega arith
one_level tree.int = omega arith
one_level tree.long = omega arith
one_level tree.float = omega arith
one_level tree.double = omega arith
one_level tree.text = omega arith
one_level tree.binary = omega arith
one_level tree.date = omega arith
one_level tree.timestamp = omega arith
one_level tree.timestamp_ntz = omega arith
one_level (tree.decimal p s) = omega arith
one_level (tree.struct_of cs) = omega arith
one_level (tree.list_of t b) = omega arith
one_level (tree.map_of k v b) = omega arith
