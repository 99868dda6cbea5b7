use Rattle.std.proofs.Common.{◌≡◌, ◌++◌, ℕ, List, drop, map}
use Rattle.iceberg_manifest_writing.specs.RowEntries.{entry_in}
use Rattle.iceberg_version.specs.Manifests.{deleted_entry}
use Rattle.iceberg_version.proofs.rewriting.deleted_entries.Given as goal

abbrev pub invariant-loop-row : goal.invariant-loop-row
invariant-loop-row l = (front : List ℕ) → map (entry_in front) l.entries.items ++ map (deleted_entry front l.version) (map (λ r. r.now) (drop l.row-index l.rows)) ≡ map (deleted_entry front l.version) (map (λ r. r.now) l.rows)
