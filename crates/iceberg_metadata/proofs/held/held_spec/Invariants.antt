use Rattle.std.proofs.Common.{◌≡◌, drop}
use Rattle.iceberg_metadata.specs.Paths.{held_spec}
use Rattle.iceberg_metadata.proofs.held.held_spec.Given as goal

abbrev pub invariant-loop-spec : goal.invariant-loop-spec
invariant-loop-spec l = held_spec (drop l.spec-index l.specs) l.id ≡ held_spec l.specs l.id
