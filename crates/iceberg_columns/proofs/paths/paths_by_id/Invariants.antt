use Rattle.std.proofs.Common.{◌≤◌, length, drop}
use Rattle.iceberg_columns.specs.PathMaps.{HoldsPaths}
use Rattle.iceberg_columns.proofs.paths.paths_by_id.Given as goal

abbrev pub invariant-loop-place : goal.invariant-loop-place
invariant-loop-place l = record {
  within : l.place ≤ length l.pairs;
  holds : HoldsPaths l.found (drop l.place l.pairs);
}

abbrev pub decreases-loop-place : goal.decreases-loop-place
decreases-loop-place l = l.place
