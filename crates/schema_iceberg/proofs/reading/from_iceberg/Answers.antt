use Rattle.schema_iceberg.proofs.IcebergSchema.{given_found, given_only}
use Rattle.schema_iceberg.proofs.IcebergSound.{given_fits, given_settled}
use Rattle.schema_iceberg.proofs.IcebergRefused.{given_refused}
use Rattle.schema_iceberg.proofs.reading.from_iceberg.Goals as goal

pub returns-clause-found : goal.returns-clause-found
returns-clause-found c = given_found _ _ c.schema_and_ids.ensures

pub returns-clause-fits : goal.returns-clause-fits
returns-clause-fits c = given_fits _ _ c.schema_and_ids.ensures

pub returns-clause-settled : goal.returns-clause-settled
returns-clause-settled c = given_settled _ _ c.schema_and_ids.ensures

pub returns-clause-only : goal.returns-clause-only
returns-clause-only c = given_only _ _ c.schema_and_ids.ensures

pub returns-clause-refused : goal.returns-clause-refused
returns-clause-refused c = given_refused _ _ c.schema_and_ids.ensures
