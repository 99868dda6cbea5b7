use Rattle.schema_avro.proofs.AvroRefused.{avro_defined, avro_undefined, avro_settled}
use Rattle.schema_avro.proofs.AvroSpelled.{written_back}
use Rattle.schema_avro.proofs.writing.to_avro.Goals as goal

pub returns-clause-defined : goal.returns-clause-defined
returns-clause-defined c = avro_defined c.args.schema.now c.schema_text.result c.schema_text.ensures.text

pub returns-clause-undefined : goal.returns-clause-undefined
returns-clause-undefined c = avro_undefined c.args.schema.now c.schema_text.result c.schema_text.ensures.text

pub returns-clause-reads_back : goal.returns-clause-reads_back
returns-clause-reads_back c = written_back c.args.schema.now c.schema_text.result c.schema_text.ensures.text c.schema_text.ensures.again

pub returns-clause-settled : goal.returns-clause-settled
returns-clause-settled c = avro_settled c.args.schema.now c.schema_text.result c.schema_text.ensures.text
