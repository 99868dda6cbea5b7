-- A live file of a table.
use Rattle.std.specs.Prelude.{ℕ, List}
use Rattle.table_history.specs.declared.row.PartValue.{PartValue}

-- its path in the table's folder, the values of the partition columns, how many records it has, and its size in bytes
pub record Row : Type 0 where
  pub path : List ℕ
  pub values : List PartValue
  pub count : ℕ
  pub size : ℕ
