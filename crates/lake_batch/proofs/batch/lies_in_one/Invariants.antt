use Rattle.std.proofs.Common.{map}
use Rattle.lake_batch.proofs.BatchFolders.{NoneBefore}
use Rattle.lake_batch.proofs.batch.lies_in_one.Given as goal

abbrev pub invariant-loop-i : goal.invariant-loop-i
invariant-loop-i l = NoneBefore (map (λ s. s.now) l.folders.keys) l.path l.i
