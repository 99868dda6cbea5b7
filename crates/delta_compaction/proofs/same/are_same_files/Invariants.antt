use Rattle.std.proofs.Common.{◌≡◌, drop}
use Rattle.delta_compaction.specs.Same.{files_eq}
use Rattle.delta_compaction.proofs.same.are_same_files.Given as goal

abbrev pub invariant-loop-i : goal.invariant-loop-i
invariant-loop-i l = files_eq (drop l.i l.a) (drop l.i l.b) ≡ files_eq l.a l.b
