use Rattle.serde_json.specs.View.{view}
use Rattle.iceberg_schemas.proofs.BadLemmas.{given_no_outline}
use Rattle.iceberg_schemas.proofs.FoundLemmas.{given_outline}
use Rattle.iceberg_schemas.proofs.outline.schema_outline.Goals as goal

pub returns-clause-found : goal.returns-clause-found
returns-clause-found c = given_outline (view c.args.value.now) c.outline_of.result c.outline_of.ensures

pub returns-clause-refused : goal.returns-clause-refused
returns-clause-refused c = given_no_outline (view c.args.value.now) c.outline_of.result c.outline_of.ensures
