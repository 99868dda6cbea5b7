use Rattle.std.proofs.Common.{rules, w32}
use Rattle.std.proofs.lemmas.Int.{to_z-of_z}
use Rattle.iceberg_schemas.proofs.SchemaListLemmas.{next_kept}
use Rattle.iceberg_schemas.proofs.schemas.each_schema.Goals as goal

pub loop-value-preserved : goal.loop-value-preserved
loop-value-preserved c =
    let same = to_z-of_z w32 c.in_ok-id.id (search rules) in
    next_kept c.deref-value-items.result.now c.loop-value.value-index c.value-item.result c.loop-value.held c.in_ok-held.held c.in_ok-id.id _ c.in_ok-id.columns _ c.loop-value-test.true c.value-item.is same c.in_ok-id.ensures c.in_ok-held.ensures c.loop-value.invariant
