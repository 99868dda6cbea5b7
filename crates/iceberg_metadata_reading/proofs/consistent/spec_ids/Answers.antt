use Rattle.std.proofs.Common.{rules, w32, w64, ◌∙◌}
use Rattle.std.proofs.lemmas.Int.{to_z-of_z}
use Rattle.iceberg_metadata.specs.declared.metadata.Spec.{Spec}
use Rattle.iceberg_metadata_reading.proofs.IdLemmas.{one_more}
use Rattle.iceberg_metadata_reading.proofs.consistent.spec_ids.Goals as goal

pub loop-spec-preserved : goal.loop-spec-preserved
loop-spec-preserved c =
    one_more (λ (s : Spec). s.id) c.loop-spec.ids.items c.push.new.self.items c.args.specs.now c.loop-spec.spec-index _ c.spec-item.result c.loop-spec-test.true c.spec-item.is c.in_ok-push.ensures.items (to_z-of_z w64 c.from.result (search rules) ∙ c.from.ensures ∙ to_z-of_z w32 c.spec-item.result.id (search rules)) c.loop-spec.invariant
