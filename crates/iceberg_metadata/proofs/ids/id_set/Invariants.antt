use Rattle.std.proofs.Common.{◌≡◌, ◌≤◌, length, true, drop}
use Rattle.iceberg_metadata.specs.IdSets.{HoldsIds}
use Rattle.iceberg_metadata.specs.Judging.{are_distinct}
use Rattle.iceberg_metadata.proofs.ids.id_set.Given as goal

abbrev pub invariant-loop-place : goal.invariant-loop-place
invariant-loop-place l = record {
  within : l.place ≤ length l.ids;
  held : HoldsIds l.set (drop l.place l.ids);
  own : are_distinct (drop l.place l.ids) ≡ true;
}

abbrev pub decreases-loop-place : goal.decreases-loop-place
decreases-loop-place l = l.place
