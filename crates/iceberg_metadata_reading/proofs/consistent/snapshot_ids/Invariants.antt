use Rattle.std.proofs.Common.{◌≡◌, map, take}
use Rattle.iceberg_metadata_reading.proofs.consistent.snapshot_ids.Given as goal

abbrev pub invariant-loop-snapshot : goal.invariant-loop-snapshot
invariant-loop-snapshot l = l.ids.items ≡ map (λ s. s.id) (take l.snapshot-index l.snapshots)
