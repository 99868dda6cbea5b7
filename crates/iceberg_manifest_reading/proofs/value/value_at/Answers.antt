use Rattle.iceberg_manifest_reading.proofs.FieldLemmas.{found_at, none_at}
use Rattle.iceberg_manifest_reading.proofs.value.value_at.Goals as goal

pub returns-then-place-values : goal.returns-then-place-values
returns-then-place-values c = found_at c.args.values.now c.args.place c.index-values-place.result c.if-place-values.true c.index-values-place.is

pub returns-else-place-values : goal.returns-else-place-values
returns-else-place-values c = none_at c.args.values.now c.args.place c.if-place-values.false
