use Rattle.schema_avro.proofs.AvroRead.{read_found, read_only, read_refused}
use Rattle.schema_avro.proofs.reading.read_avro.Goals as goal

pub returns-clause-found : goal.returns-clause-found
returns-clause-found c = read_found _ _ c.schema_of_text.ensures

pub returns-clause-only : goal.returns-clause-only
returns-clause-only c = read_only _ _ c.schema_of_text.ensures

pub returns-clause-refused : goal.returns-clause-refused
returns-clause-refused c = read_refused _ _ c.schema_of_text.ensures
