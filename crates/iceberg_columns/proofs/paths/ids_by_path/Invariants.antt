use Rattle.std.proofs.Common.{◌≤◌, length, drop}
use Rattle.iceberg_columns.specs.PathMaps.{HoldsPathIds}
use Rattle.iceberg_columns.proofs.paths.ids_by_path.Given as goal

abbrev pub invariant-loop-place : goal.invariant-loop-place
invariant-loop-place l = record {
  within : l.place ≤ length l.pairs;
  holds : HoldsPathIds l.found (drop l.place l.pairs);
}

abbrev pub decreases-loop-place : goal.decreases-loop-place
decreases-loop-place l = l.place
