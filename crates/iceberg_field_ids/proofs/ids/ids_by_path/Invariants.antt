use Rattle.std.proofs.Common.{◌≤◌, length, drop}
use Rattle.iceberg_field_ids.specs.IdMap.{HoldsIds}
use Rattle.iceberg_field_ids.proofs.ids.ids_by_path.Given as goal

abbrev pub invariant-loop-place : goal.invariant-loop-place
invariant-loop-place l = record {
  within : l.place ≤ length l.known;
  holds : HoldsIds l.found (drop l.place l.known);
}

abbrev pub decreases-loop-place : goal.decreases-loop-place
decreases-loop-place l = l.place
