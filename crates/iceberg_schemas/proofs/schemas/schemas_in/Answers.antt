use Rattle.serde_json.specs.View.{items_view}
use Rattle.json_reading.specs.Json.{items}
use Rattle.iceberg_schemas.proofs.SchemaToldLemmas.{given_told, given_refusal}
use Rattle.iceberg_schemas.proofs.schemas.schemas_in.Goals as goal

pub returns-clause-told : goal.returns-clause-told
returns-clause-told c = given_told (items (items_view c.args.values.now.items)) c.each_schema.result c.each_schema.ensures

pub returns-clause-refused : goal.returns-clause-refused
returns-clause-refused c = given_refusal (items_view c.args.values.now.items) c.each_schema.result c.each_schema.ensures
