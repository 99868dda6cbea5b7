-- What a commit says of a table's columns: the schema and the partition columns before it and behind it.
use Rattle.std.specs.Prelude.{◌≡◌, ℕ, List, [], Option, Some, None, Ok}
use Rattle.table_history.specs.Row.{Row}
use Rattle.table_history.specs.Tables.{empty_table}
use Rattle.table_history.specs.TypeTree.{ColumnTrees, no_columns}
use Rattle.table_history.specs.declared.table.Table.{Table}
use Rattle.schema_delta.specs.Delta.{delta_schema_of}
use Rattle.delta_log.specs.declared.commit.DeltaCommit.{DeltaCommit}
use Rattle.delta_log.specs.declared.commit.MetaData.{MetaData}

-- ---- before

abbrev pub rows_before : Option Table → List Row
rows_before None = []
rows_before (Some t) = t.rows

abbrev pub schema_before : Option Table → ColumnTrees
schema_before None = no_columns
schema_before (Some t) = t.schema

abbrev pub partition_before : Option Table → List (List ℕ)
partition_before None = []
partition_before (Some t) = t.partition

-- ---- behind

-- The text of the metadata spells this schema.
abbrev pub Spells : MetaData → ColumnTrees → Type 0
Spells m schema = delta_schema_of m.schema ≡ Ok schema

-- The commit states this schema: what its metadata spells. Without metadata it states none.
abbrev pub StatesSchema : Option MetaData → Option ColumnTrees → Type 0
StatesSchema None stated = stated ≡ None
StatesSchema (Some m) None = ⊥
StatesSchema (Some m) (Some schema) = Spells m schema

-- the schema behind the commit: what its metadata spells, or else the one before
abbrev pub IsSchemaBehind : Option MetaData → Option Table → ColumnTrees → Type 0
IsSchemaBehind None base schema = schema ≡ schema_before base
IsSchemaBehind (Some m) base schema = Spells m schema

-- the partition columns behind the commit: those of its metadata, or else those before
abbrev pub partition_behind : Option MetaData → Option Table → List (List ℕ)
partition_behind None base = partition_before base
partition_behind (Some m) base = m.partition

-- the table before the commit; before the first it has no column and no row
abbrev pub table_before : DeltaCommit → Option Table → Table
table_before c None = empty_table (partition_behind c.meta None)
table_before c (Some t) = t
