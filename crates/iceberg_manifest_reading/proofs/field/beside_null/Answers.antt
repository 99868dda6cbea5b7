use Rattle.iceberg_manifest_reading.proofs.FieldLemmas.{other_count}
use Rattle.iceberg_manifest_reading.proofs.field.beside_null.Goals as goal

pub returns-then-branches-ne2 : goal.returns-then-branches-ne2
returns-then-branches-ne2 c = other_count c.args.branches.now c.if-branches-ne2.true
