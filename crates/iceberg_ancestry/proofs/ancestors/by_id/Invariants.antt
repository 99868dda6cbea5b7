use Rattle.std.proofs.Common.{◌≤◌, length, drop}
use Rattle.iceberg_ancestry.specs.ById.{HoldsAll}
use Rattle.iceberg_ancestry.proofs.ancestors.by_id.Given as goal

abbrev pub invariant-loop-place : goal.invariant-loop-place
invariant-loop-place l = record {
  within : l.place ≤ length l.snapshots;
  holds : HoldsAll l.found (drop l.place l.snapshots);
}

abbrev pub decreases-loop-place : goal.decreases-loop-place
decreases-loop-place l = l.place
