-- The steps of the work on one block, for the contracts of the parts.
use Rattle.std.specs.Prelude.{◌≡◌, ◌<◌, ◌+◌, ℕ, List, Bool, true, false}
use Rattle.lake_store.specs.Disk.{Files}
use Rattle.delta_compaction.specs.declared.error.CompactError.{CompactError}
use Rattle.delta_compaction.specs.declared.error.CompactError.TheVariants as join
use Rattle.delta_compact.specs.Blocks.{HasCompaction, IsBlockPath}
use Rattle.delta_compact.specs.Refusals.{IsStale}
use Rattle.delta_compact.specs.declared.compacting.Counts.{Counts}
use Rattle.delta_compact.specs.declared.error.CompactFault.{CompactFault}
use Rattle.delta_compact.specs.declared.error.CompactFault.TheVariants.{Memory, Stale, StoreFault}

-- The commit that is told is one of so many.
abbrev pub TellsAmong : ℕ → CompactError → Type 0
TellsAmong count join.Memory = Unit {0}
TellsAmong count (join.Malformed index line) = index < count
TellsAmong count (join.Unsupported feature index line) = index < count
TellsAmong count (join.Limit which) = Unit {0}

-- Memory ran out, or the store failed.
abbrev pub IsPlainFault : CompactFault → Type 0
IsPlainFault Memory = Unit {0}
IsPlainFault StoreFault = Unit {0}
IsPlainFault _ = ⊥

-- Whether the log compaction is written: where none was there.
abbrev pub IsWritten : Files → ℕ → Bool → Type 0
IsWritten files block true = ¬ HasCompaction files block
IsWritten files block false = HasCompaction files block

-- The log compaction that is there is stale, and is told.
abbrev pub IsToldStale : Files → ℕ → CompactFault → Type 0
IsToldStale files block e = IsStale files block × (path : List ℕ) × IsBlockPath path block × (e ≡ Stale path)

-- one block more is counted as written, or as kept
abbrev pub IsCounted : Bool → Counts → Counts → Type 0
IsCounted true before after = (after.written ≡ before.written + 1) × (after.kept ≡ before.kept)
IsCounted false before after = (after.written ≡ before.written) × (after.kept ≡ before.kept + 1)
