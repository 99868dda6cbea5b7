use Rattle.std.proofs.Common.{◌≡◌, map, take}
use Rattle.iceberg_metadata_reading.proofs.consistent.spec_ids.Given as goal

abbrev pub invariant-loop-spec : goal.invariant-loop-spec
invariant-loop-spec l = l.ids.items ≡ map (λ s. s.id) (take l.spec-index l.specs)
