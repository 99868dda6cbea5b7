use Rattle.schema_iceberg.proofs.IcebergSound.{given_spelled, given_read_back, given_back}
use Rattle.schema_iceberg.proofs.writing.iceberg_json.Goals as goal

pub returns-clause-spells : goal.returns-clause-spells
returns-clause-spells c = given_spelled c.args.schema.now c.args.ids.now _ c.whole_json.result c.whole_json.ensures

pub returns-clause-reads_back : goal.returns-clause-reads_back
returns-clause-reads_back c = given_read_back c.args.schema.now c.args.ids.now _ c.whole_json.result c.whole_json.ensures

pub returns-clause-again : goal.returns-clause-again
returns-clause-again c = given_back c.args.schema.now c.args.ids.now _ c.whole_json.result c.whole_json.ensures
