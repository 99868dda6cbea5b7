-- The kinds of partition values.
use Rattle.std.specs.Prelude.{Option, None, Some}
use Rattle.table_history.specs.TypeTree.{TypeTree, boolean, byte, short, int, long, text, date}
use Rattle.table_history.specs.declared.row.PartValue.{PartValue}
use Rattle.table_history.specs.declared.row.PartValue.TheVariants as value
use Rattle.partition_map.specs.declared.kind.PartKind.{PartKind}
use Rattle.partition_map.specs.declared.kind.PartKind.TheVariants.{Boolean, Int, Long, Text, Date}

-- The kind of a column that can be a partition column: bytes and shorts are kept as ints.
abbrev pub part_kind_of : TypeTree → Option PartKind
part_kind_of boolean = Some Boolean
part_kind_of byte = Some Int
part_kind_of short = Some Int
part_kind_of int = Some Int
part_kind_of long = Some Long
part_kind_of text = Some Text
part_kind_of date = Some Date
part_kind_of _ = None

-- The value is null or of the kind.
abbrev pub IsOfKind : PartKind → PartValue → Type 0
IsOfKind kind value.Null = Unit {0}
IsOfKind Boolean (value.Boolean b) = Unit {0}
IsOfKind Int (value.Int n) = Unit {0}
IsOfKind Long (value.Long n) = Unit {0}
IsOfKind Text (value.Text t) = Unit {0}
IsOfKind Date (value.Date d) = Unit {0}
IsOfKind _ _ = ⊥
