use Rattle.std.proofs.Common.{◌≡◌, drop}
use Rattle.iceberg_ancestry.specs.Ancestry.{held}
use Rattle.target_iceberg.proofs.inspect.held_snapshot.Given as goal

abbrev pub invariant-loop-snapshot : goal.invariant-loop-snapshot
invariant-loop-snapshot l = held (drop l.snapshot-index l.snapshots) l.id ≡ held l.snapshots l.id
