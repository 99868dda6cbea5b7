use Rattle.std.proofs.Common.{◌≡◌, ◌++◌, ℕ, List, drop, map}
use Rattle.iceberg_manifest_writing.specs.RowEntries.{entry_in}
use Rattle.iceberg_version.specs.Manifests.{existing_entry}
use Rattle.iceberg_version.proofs.rewriting.existing_entries.Given as goal

abbrev pub invariant-loop-row : goal.invariant-loop-row
invariant-loop-row l = (front : List ℕ) → map (entry_in front) l.entries.items ++ map (existing_entry front) (map (λ r. r.now) (drop l.row-index l.rows)) ≡ map (existing_entry front) (map (λ r. r.now) l.rows)
