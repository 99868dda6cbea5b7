use Rattle.std.proofs.Common.{take}
use Rattle.iceberg_version.specs.Removed.{MarksLost}
use Rattle.iceberg_version.proofs.removed.lost_marks.Given as goal

abbrev pub invariant-loop-path : goal.invariant-loop-path
invariant-loop-path l = MarksLost l.links (take l.path-index l.removed) l.marks.items
