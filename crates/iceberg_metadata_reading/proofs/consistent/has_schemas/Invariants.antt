use Rattle.std.proofs.Common.{◌≡◌, true, take}
use Rattle.std.specs.List.{list_all}
use Rattle.iceberg_metadata.specs.Judging.{is_among_if_any}
use Rattle.iceberg_metadata_reading.proofs.consistent.has_schemas.Given as goal

abbrev pub invariant-loop-snapshot : goal.invariant-loop-snapshot
invariant-loop-snapshot l = list_all (λ s. is_among_if_any l.ids s.schema_id) (take l.snapshot-index l.snapshots) ≡ true
