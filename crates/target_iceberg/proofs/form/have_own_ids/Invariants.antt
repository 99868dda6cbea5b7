use Rattle.std.proofs.Common.{◌≡◌, ◌≤◌, length, true, drop, map}
use Rattle.iceberg_metadata.specs.IdSets.{HoldsIds}
use Rattle.iceberg_metadata.specs.Judging.{are_distinct}
use Rattle.iceberg_metadata.specs.Schemas.{HeldSchema}
use Rattle.target_iceberg.proofs.form.have_own_ids.Given as goal

abbrev pub invariant-loop-place : goal.invariant-loop-place
invariant-loop-place l = record {
  within : l.place ≤ length l.schemas;
  held : HoldsIds l.seen (drop l.place (map (λ (s : HeldSchema). s.0) l.schemas));
  own : are_distinct (drop l.place (map (λ (s : HeldSchema). s.0) l.schemas)) ≡ true;
}

abbrev pub decreases-loop-place : goal.decreases-loop-place
decreases-loop-place l = l.place
