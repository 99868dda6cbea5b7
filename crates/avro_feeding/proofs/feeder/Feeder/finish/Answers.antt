use Rattle.avro_feeding.specs.Calls.{has_read}
use Rattle.avro_feeding.proofs.WholeLemmas.{whole_reading}
use Rattle.avro_feeding.proofs.feeder.Feeder.finish.Goals as goal

pub returns-clause-whole : goal.returns-clause-whole
returns-clause-whole c pieces read small = whole_reading pieces (has_read c.args.self) c.ended_by.result c.ended_by.ensures read small
