use Rattle.std.proofs.Common.{◌≡◌, ◌≤◌, ℕ, List, length, map, take}
use Rattle.iceberg_manifest_writing.specs.RowEntries.{entry_in, status_number}
use Rattle.iceberg_version.specs.Manifests.{of_status}
use Rattle.iceberg_version.proofs.infos.files_of.Given as goal

abbrev pub invariant-loop-entry : goal.invariant-loop-entry
invariant-loop-entry l = (l.count ≤ l.entry-index) × ((front : List ℕ) → l.count ≡ length (of_status (status_number l.status) (map (entry_in front) (take l.entry-index l.entries))))
