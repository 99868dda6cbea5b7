use Rattle.std.proofs.Common.{◌≡◌, ℕ, List, map, take, pos, false}
use Rattle.iceberg_manifest_writing.specs.RowEntries.{entry_in}
use Rattle.iceberg_version.specs.Manifests.{IsLeastOf, if_any, live_sequences}
use Rattle.iceberg_version.proofs.infos.least_sequence.Given as goal

abbrev pub invariant-loop-entry : goal.invariant-loop-entry
invariant-loop-entry l = ((front : List ℕ) → IsLeastOf (live_sequences l.version (take l.entry-index (map (entry_in front) l.entries))) (if_any l.any l.least)) × (l.any ≡ false → l.least ≡ pos l.version)
