use Rattle.std.proofs.Common.{◌+◌, ◌-◌, length}
use Rattle.iceberg_version.proofs.RowLemmas.{IsParted, entries_of}
use Rattle.iceberg_version.proofs.rows.parted_rows.Given as goal

abbrev pub invariant-loop-place : goal.invariant-loop-place
invariant-loop-place l = IsParted l.links l.owner l.before.removed.now l.left.items l.lost.items l.place

abbrev pub decreases-loop-place : goal.decreases-loop-place
decreases-loop-place l = length (entries_of l.links l.owner) - (length l.left.items + length l.lost.items)
