use Rattle.avro_value.proofs.Shortest.{PutSoFar}
use Rattle.avro_value.proofs.writer.put_varint.Given as goal

abbrev pub invariant-loop-rest : goal.invariant-loop-rest
invariant-loop-rest l = PutSoFar l.z l.out l.len l.rest

abbrev pub decreases-loop-rest : goal.decreases-loop-rest
decreases-loop-rest l = l.rest
