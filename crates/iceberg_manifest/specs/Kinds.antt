-- Values that fit partition columns (Iceberg specification, "Partitioning").
use Rattle.std.specs.Prelude.{List, [], ◌∷◌}
use Rattle.partition_map.specs.Kind.{IsOfKind}
use Rattle.table_history.specs.declared.row.PartValue.{PartValue}
use Rattle.iceberg_manifest.specs.declared.partition.PartColumn.{PartColumn}

-- There is one value for each column, null or of the column's kind.
abbrev pub AreOfKinds : List PartColumn → List PartValue → Type 0
AreOfKinds [] [] = Unit {0}
AreOfKinds [] (v ∷ vs) = ⊥
AreOfKinds (c ∷ cs) [] = ⊥
AreOfKinds (c ∷ cs) (v ∷ vs) = IsOfKind c.kind v × AreOfKinds cs vs
