use Rattle.avro_value.proofs.Varint.{Goes}
use Rattle.avro_value.proofs.item.number_in_groups.Given as goal

abbrev pub invariant-loop-i : goal.invariant-loop-i
invariant-loop-i l = Goes l.bytes l.rest l.i l.low l.unit
