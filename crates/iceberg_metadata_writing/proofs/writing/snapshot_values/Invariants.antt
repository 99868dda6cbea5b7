use Rattle.std.proofs.Common.{◌≡◌, ◌++◌, drop, map}
use Rattle.std.specs.List.{AllByRecursion}
use Rattle.serde_json.specs.View.{view}
use Rattle.iceberg_metadata.specs.Writing.{snapshot_data, SnapshotFits}
use Rattle.iceberg_metadata_writing.proofs.writing.snapshot_values.Given as goal

abbrev pub invariant-loop-snapshot : goal.invariant-loop-snapshot
invariant-loop-snapshot l = record {
  value : map view l.values.items ++ map snapshot_data (drop l.snapshot-index l.snapshots) ≡ map snapshot_data l.snapshots;
  fit : AllByRecursion SnapshotFits (drop l.snapshot-index l.snapshots) → AllByRecursion SnapshotFits l.snapshots;
}
