-- Whether two column types, or two lists of columns, are one, as a test.
use Rattle.std.specs.Prelude.{◌&&◌, ◌==◌, Bool, true, false}
use Rattle.std.specs.Bool.{beq}
use Rattle.std.specs.Str.{bytes_eq}
use Rattle.table_history.specs.TypeTree.{TypeTree, boolean, byte, short, int, long, float, double, decimal, text, binary, date, timestamp, timestamp_ntz, struct_of, list_of, map_of, ColumnTrees, no_columns, column, ColumnTree}

abbrev mutual
  pub type_eq : TypeTree → TypeTree → Bool
  type_eq boolean boolean = true
  type_eq byte byte = true
  type_eq short short = true
  type_eq int int = true
  type_eq long long = true
  type_eq float float = true
  type_eq double double = true
  type_eq (decimal p s) (decimal q t) = (p == q) && (s == t)
  type_eq text text = true
  type_eq binary binary = true
  type_eq date date = true
  type_eq timestamp timestamp = true
  type_eq timestamp_ntz timestamp_ntz = true
  type_eq (struct_of cs) (struct_of ds) = columns_eq cs ds
  type_eq (list_of t b) (list_of u c) = type_eq t u && beq b c
  type_eq (map_of k v b) (map_of l w c) = type_eq k l && (type_eq v w && beq b c)
  type_eq _ _ = false

  pub columns_eq : ColumnTrees → ColumnTrees → Bool
  columns_eq no_columns no_columns = true
  columns_eq (column n t b cs) (column m u c ds) = (bytes_eq n m && (type_eq t u && beq b c)) && columns_eq cs ds
  columns_eq _ _ = false

abbrev pub column_eq : ColumnTree → ColumnTree → Bool
column_eq c d = bytes_eq c.name d.name && (type_eq c.kind d.kind && beq c.nullable d.nullable)
