use Rattle.std.proofs.Common.{◌-◌, length, map}
use Rattle.iceberg_version.proofs.PartLemmas.{IsCutUpTo}
use Rattle.iceberg_version.proofs.added.parts_of.Given as goal

abbrev pub invariant-loop-start : goal.invariant-loop-start
invariant-loop-start l = IsCutUpTo l.rows l.start (map (λ part. part.now) l.parts.items)

abbrev pub decreases-loop-start : goal.decreases-loop-start
decreases-loop-start l = length l.rows - l.start
