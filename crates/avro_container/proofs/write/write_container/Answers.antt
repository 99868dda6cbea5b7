use Rattle.avro_schema.specs.Tree.{tree_of}
use Rattle.avro_schema.proofs.Plain.{plain_is_spelled}
use Rattle.avro_container.proofs.write.write_container.Goals as goal

pub returns-in-Err-clause-plain : goal.returns-in-Err-clause-plain
returns-in-Err-clause-plain c = plain_is_spelled (tree_of c.args.schema.now)
