use Rattle.avro_feeding.specs.Resuming.{IsResume}
use Rattle.avro_feeding.proofs.metadata.resumed.Given as goal

abbrev pub invariant-loop : goal.invariant-loop
invariant-loop l = IsResume l.bytes l.at
