-- The lines that tell of a table: one of the table as a whole, and one of each of its live files.
use Rattle.std.specs.Prelude.{◌≡◌, ℕ, ◌+◌, List, [], ◌∷◌, ◌++◌, length, map, codes}
use Rattle.std.specs.Fmt.{decimal}
use Rattle.std.specs.List.{concat, sum}
use Rattle.serde_json.specs.Data.{Data, null, boolean, number, unsigned, string, array}
use Rattle.serde_json.specs.Find.{of_integer}
use Rattle.serde_json.specs.View.{items_of}
use Rattle.serde_json.specs.Written.{compact_text}
use Rattle.table_history.specs.Row.{Row}
use Rattle.table_history.specs.Rows.{IsInPathOrder, SameRows}
use Rattle.table_history.specs.TypeTree.{ColumnTrees, no_columns, column}
use Rattle.table_history.specs.Words.{kind_word}
use Rattle.table_history.specs.declared.kind.Kind.{Kind}
use Rattle.table_history.specs.declared.row.PartValue.{PartValue}
use Rattle.table_history.specs.declared.row.PartValue.TheVariants as value
use Rattle.table_history.specs.declared.table.Table.{Table}
use Rattle.table_lines.specs.Lines.{line}

-- ---- a live file

-- a partition value as JSON (RFC 8259), a date as its number of days since 1970-01-01
abbrev pub value_data : PartValue → Data
value_data value.Null = null
value_data (value.Boolean b) = boolean b
value_data (value.Int n) = number (of_integer n)
value_data (value.Long n) = number (of_integer n)
value_data (value.Text text) = string text
value_data (value.Date days) = number (of_integer days)

-- a file's path, number of records, size in bytes and partition values
abbrev pub row_data : Row → Data
row_data row = array (items_of (string row.path ∷ number (unsigned row.count) ∷ number (unsigned row.size) ∷ array (items_of (map value_data row.values)) ∷ []))

abbrev pub row_line : Row → List ℕ
row_line row = line (compact_text (row_data row))

-- ---- the table

-- the number of top-level columns
abbrev pub width : ColumnTrees → ℕ
width no_columns = 0
width (column name t nullable columns) = width columns + 1

-- the numbers of live files, of their records and of their bytes
abbrev pub totals : List Row → List ℕ
totals rows = codes ", files " ++ (decimal (length rows) ++ (codes ", records " ++ (decimal (sum (map (λ row. row.count) rows)) ++ (codes ", bytes " ++ decimal (sum (map (λ row. row.size) rows))))))

-- the numbers of top-level columns and of partition columns
abbrev pub columns_part : Table → List ℕ
columns_part table = codes ": columns " ++ (decimal (width table.schema) ++ (codes ", partitions " ++ decimal (length table.partition)))

abbrev pub summary_line : Kind → List ℕ → Table → List Row → List ℕ
summary_line kind position table rows = line (kind_word kind ++ (codes " at " ++ (position ++ (columns_part table ++ totals rows))))

-- the table's line, and then a line of each of these rows
abbrev pub lines_over : Kind → List ℕ → Table → List Row → List ℕ
lines_over kind position table rows = summary_line kind position table rows ++ concat (map row_line rows)

-- all that is printed of a table at a position, its live files in byte order of their paths
pub record AreTableLines (kind : Kind) (position : List ℕ) (table : Table) (lines : List ℕ) : Type 0 where
  pub rows : List Row
  pub order : IsInPathOrder rows
  pub same : SameRows rows table.rows
  pub is : lines ≡ lines_over kind position table rows
