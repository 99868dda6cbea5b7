use Rattle.schema_delta.proofs.DeltaSchema.{given_found, given_only}
use Rattle.schema_delta.proofs.DeltaRefused.{given_refused}
use Rattle.schema_delta.proofs.reading.from_delta.Goals as goal

pub returns-clause-found : goal.returns-clause-found
returns-clause-found c = given_found _ _ c.schema_from.ensures

pub returns-clause-only : goal.returns-clause-only
returns-clause-only c = given_only _ _ c.schema_from.ensures

pub returns-clause-refused : goal.returns-clause-refused
returns-clause-refused c = given_refused _ _ c.schema_from.ensures
