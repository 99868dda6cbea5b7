-- An entry of a manifest (Iceberg specification, "Manifest Entry Fields").
use Rattle.std.specs.Prelude.{ℕ, ℤ, nat_lt, List, Bool, Option}
use Rattle.table_history.specs.declared.row.PartValue.{PartValue}

-- its status, the three numbers, the path as it is written, the values of the partition columns in their order, how many records it has, and its size in bytes
pub record EntryData : Type 0 where
  pub status : ℕ
  pub snapshot : Option ℤ
  pub sequence : Option ℤ
  pub file_sequence : Option ℤ
  pub path : List ℕ
  pub values : List PartValue
  pub count : ℕ
  pub size : ℕ

-- existing or added, not deleted
abbrev pub is_live : EntryData → Bool
is_live e = nat_lt e.status 2
