use Rattle.std.proofs.Common.{◌≡◌, ◌<◌, ◌^◌, ℕ, List, map, take}
use Rattle.iceberg_manifest_writing.specs.RowEntries.{entry_in, status_number}
use Rattle.iceberg_version.specs.Manifests.{capped_records}
use Rattle.iceberg_version.proofs.infos.records_of.Given as goal

abbrev pub invariant-loop-entry : goal.invariant-loop-entry
invariant-loop-entry l = (l.total < 2 ^ 63) × ((front : List ℕ) → l.total ≡ capped_records (status_number l.status) (map (entry_in front) (take l.entry-index l.entries)))
