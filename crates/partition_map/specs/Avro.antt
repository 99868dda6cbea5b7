-- Partition values as Avro values. A field is of the type of its kind, or of a union of null and that
-- type.
use Rattle.std.specs.Prelude.{◌≡◌}
use Rattle.avro_value.specs.ValueTree.{ValueTree, null, boolean, int, long, text, union_of}
use Rattle.table_history.specs.declared.row.PartValue.{PartValue}
use Rattle.table_history.specs.declared.row.PartValue.TheVariants as value
use Rattle.partition_map.specs.declared.kind.PartKind.{PartKind}
use Rattle.partition_map.specs.declared.kind.PartKind.TheVariants.{Boolean, Int, Long, Text, Date}

-- What the value of a branch stands for: null for null, and the empty text for itself. A date is an int,
-- the days after 1970-01-01.
abbrev pub BranchStands : PartKind → ValueTree → PartValue → Type 0
BranchStands kind null v = v ≡ value.Null
BranchStands Boolean (boolean b) v = v ≡ value.Boolean b
BranchStands Int (int n) v = v ≡ value.Int n
BranchStands Long (long n) v = v ≡ value.Long n
BranchStands Text (text t) v = v ≡ value.Text t
BranchStands Date (int n) v = v ≡ value.Date n
BranchStands _ _ v = ⊥

-- The value of a union's branch, or of a field that is no union.
abbrev pub branch_of : ValueTree → ValueTree
branch_of (union_of index branch) = branch
branch_of tree = tree

-- The same of a whole field. A union isn't a branch of another one.
abbrev pub AvroStands : PartKind → ValueTree → PartValue → Type 0
AvroStands kind tree v = BranchStands kind (branch_of tree) v

-- What is written: a value of the union of null and the type of its kind, in this order.
abbrev pub avro_value_of : PartValue → ValueTree
avro_value_of value.Null = union_of 0 null
avro_value_of (value.Boolean b) = union_of 1 (boolean b)
avro_value_of (value.Int n) = union_of 1 (int n)
avro_value_of (value.Long n) = union_of 1 (long n)
avro_value_of (value.Text t) = union_of 1 (text t)
avro_value_of (value.Date days) = union_of 1 (int days)
