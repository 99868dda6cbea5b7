use Rattle.schema_avro.proofs.AvroRead.{from_found, from_only, from_refused}
use Rattle.schema_avro.proofs.reading.from_avro.Goals as goal

pub returns-clause-found : goal.returns-clause-found
returns-clause-found c = from_found _ _ c.limited_schema_of_text.ensures

pub returns-clause-only : goal.returns-clause-only
returns-clause-only c = from_only _ _ c.limited_schema_of_text.ensures

pub returns-clause-refused : goal.returns-clause-refused
returns-clause-refused c = from_refused _ _ c.limited_schema_of_text.ensures
