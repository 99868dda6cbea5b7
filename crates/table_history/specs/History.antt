-- Tables whose values fit their columns, and the histories of a table.
use Rattle.std.specs.Prelude.{◌≡◌, ◌⊎◌, ℕ, zero, suc, List, [], ◌∷◌, map, Option, Some, None, All, Contains, if◌then◌else◌}
use Rattle.std.specs.List.{IsDistinct}
use Rattle.std.specs.Str.{bytes_eq}
use Rattle.table_history.specs.TypeTree.{TypeTree, boolean, byte, short, int, long, text, date, ColumnTrees, no_columns, column}
use Rattle.table_history.specs.Row.{Row}
use Rattle.table_history.specs.Rows.{HasDistinctPaths}
use Rattle.table_history.specs.declared.row.PartValue.{PartValue}
use Rattle.table_history.specs.declared.row.PartValue.TheVariants as value
use Rattle.table_history.specs.declared.table.Table.{Table}

-- ---- values and their columns

-- The value is null, or of the kind of columns of this type. The whole numbers of up to 32 bits are one kind.
abbrev pub IsOfType : TypeTree → PartValue → Type 0
IsOfType t value.Null = Unit {0}
IsOfType t (value.Boolean b) = t ≡ boolean
IsOfType t (value.Int n) = (t ≡ byte) ⊎ ((t ≡ short) ⊎ (t ≡ int))
IsOfType t (value.Long n) = t ≡ long
IsOfType t (value.Text s) = t ≡ text
IsOfType t (value.Date days) = t ≡ date

-- the type of the first top-level column of this name
abbrev pub column_type : ColumnTrees → List ℕ → Option TypeTree
column_type no_columns name = None
column_type (column n t b cs) name = if bytes_eq n name then Some t else column_type cs name

-- The value is null, or of the kind of the top-level column of this name.
abbrev pub FitsColumn : Option TypeTree → PartValue → Type 0
FitsColumn None v = v ≡ value.Null
FitsColumn (Some t) v = IsOfType t v

-- There is one value for each partition column, and it fits its column.
abbrev pub FitColumns : ColumnTrees → List (List ℕ) → List PartValue → Type 0
FitColumns schema [] [] = Unit {0}
FitColumns schema [] (v ∷ vs) = ⊥
FitColumns schema (name ∷ names) [] = ⊥
FitColumns schema (name ∷ names) (v ∷ vs) = FitsColumn (column_type schema name) v × FitColumns schema names vs

-- No two rows have one path, and the values of each row fit the partition columns.
pub record IsSoundTable (table : Table) : Type 0 where
  pub distinct : HasDistinctPaths table.rows
  pub values : (row : Row) → Contains table.rows row → FitColumns table.schema table.partition row.values

-- ---- histories

-- the tables after the commits, each with the position of its commit
abbrev pub History : Type 0
History = List (List ℕ × Table)

abbrev pub positions_of : History → List (List ℕ)
positions_of history = map (λ p. p.0) history

-- No two commits have one position, and each table is sound.
pub record IsHistory (history : History) : Type 0 where
  pub distinct : IsDistinct bytes_eq (positions_of history)
  pub tables : All (λ p. IsSoundTable p.1) history

-- the table after the first k commits of a history, of all where k is past its end; `before` is the table before the first
abbrev pub table_after : Table → History → ℕ → Table
table_after before history zero = before
table_after before [] (suc k) = before
table_after before (p ∷ history) (suc k) = table_after p.1 history k
