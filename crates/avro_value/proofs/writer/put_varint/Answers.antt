use Rattle.std.proofs.Common.{arith}
use Rattle.avro_value.proofs.Shortest.{PutSoFar-start, PutSoFar-more, PutSoFar-last}
use Rattle.avro_value.proofs.writer.put_varint.Goals as goal

pub loop-rest-init : goal.loop-rest-init
loop-rest-init c = PutSoFar-start _ _ c.told-out (omega arith)

pub loop-rest-preserved : goal.loop-rest-preserved
loop-rest-preserved c = PutSoFar-more _ _ _ _ c.loop-rest.invariant c.loop-rest-test.true

pub returns-clause-exact : goal.returns-clause-exact
returns-clause-exact c = PutSoFar-last _ _ _ _ c.loop-rest.invariant c.loop-rest-test.false
