-- The values of a manifest's partition columns (Iceberg specification, "Manifest Entry Fields", 102, and "Avro").
use Rattle.std.specs.Prelude.{ℕ, ℤ, List, Option, Some, None, Ok, Err}
use Rattle.lake_basics.specs.Outcome.{◌>>=◌, each}
use Rattle.avro_schema.specs.Tree.{FieldTrees}
use Rattle.avro_value.specs.ValueTree.{ValueTree, ValueTrees}
use Rattle.table_history.specs.declared.row.PartValue.{PartValue}
use Rattle.table_history.specs.declared.row.PartValue.TheVariants as value
use Rattle.partition_map.specs.declared.kind.PartKind.{PartKind}
use Rattle.partition_map.specs.declared.kind.PartKind.TheVariants.{Boolean, Int, Long, Text, Date}
use Rattle.partition_map.specs.Avro.{branch_of}
use Rattle.iceberg_manifest.specs.Fields.{Reading, place_of}
use Rattle.iceberg_manifest.specs.Values.{value_at, int_of}
use Rattle.iceberg_manifest.specs.declared.error.Flaw.TheVariants.{Malformed}
use Rattle.iceberg_manifest.specs.declared.field.FieldKind.{FieldKind}
use Rattle.iceberg_manifest.specs.declared.field.FieldKind.TheVariants as field_kind
use Rattle.iceberg_manifest.specs.declared.partition.ColumnPlace.{ColumnPlace}
use Rattle.iceberg_manifest.specs.declared.partition.PartColumn.{PartColumn}

-- A date is the int of its days after 1970-01-01.
abbrev pub kind_of_values : PartKind → FieldKind
kind_of_values Boolean = field_kind.Boolean
kind_of_values Int = field_kind.Whole
kind_of_values Long = field_kind.Whole
kind_of_values Text = field_kind.Text
kind_of_values Date = field_kind.Whole

-- the place of a column's field, if there is one
unfoldable pub column_place : FieldTrees → PartColumn → Reading ColumnPlace
column_place fields column = place_of (kind_of_values column.kind) column.field_id fields >>= λ place. Ok (record { kind = column.kind; place = place })

-- What a whole number is in a column of that kind.
abbrev pub whole_part : PartKind → ℤ → Reading PartValue
whole_part Int n = int_of n >>= λ m. Ok (value.Int m)
whole_part Long n = Ok (value.Long n)
whole_part Date n = int_of n >>= λ m. Ok (value.Date m)
whole_part Boolean n = Err Malformed
whole_part Text n = Err Malformed

-- Null is null, and the empty text is itself.
abbrev pub part_value : PartKind → ValueTree → Reading PartValue
part_value kind ValueTree.null = Ok value.Null
part_value Boolean (ValueTree.boolean b) = Ok (value.Boolean b)
part_value Text (ValueTree.text t) = Ok (value.Text t)
part_value kind (ValueTree.int n) = whole_part kind n
part_value kind (ValueTree.long n) = whole_part kind n
part_value kind _ = Err Malformed

abbrev pub part_in : PartKind → Option ValueTree → Reading PartValue
part_in kind None = Ok value.Null
part_in kind (Some v) = part_value kind (branch_of v)

abbrev pub value_if_any : ValueTrees → Option ℕ → Option ValueTree
value_if_any vs None = None
value_if_any vs (Some place) = value_at vs place

-- the value of the column, which is null where there is none
unfoldable pub part_at : ValueTrees → ColumnPlace → Reading PartValue
part_at vs column = part_in column.kind (value_if_any vs column.place)

-- the values of the columns, in their order
abbrev pub parts_in : ValueTrees → List ColumnPlace → Reading (List PartValue)
parts_in vs columns = each (part_at vs) columns
