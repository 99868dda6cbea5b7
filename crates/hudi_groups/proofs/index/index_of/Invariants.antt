use Rattle.std.proofs.Common.{take}
use Rattle.hudi_groups.specs.GroupIndex.{IsIndexOf}
use Rattle.hudi_groups.proofs.index.index_of.Given as goal

abbrev pub invariant-loop-place : goal.invariant-loop-place
invariant-loop-place l = IsIndexOf l.index (take l.place l.rows)
