use Rattle.iceberg_version.proofs.SchemaLemmas.{same_columns}
use Rattle.iceberg_version.proofs.schemas.is_same.Goals as goal

pub returns : goal.returns
returns c = same_columns c.args.schema.now c.args.other.now c.eq.result c.eq.ensures
