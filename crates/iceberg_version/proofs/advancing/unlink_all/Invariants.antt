use Rattle.std.proofs.Common.{take}
use Rattle.iceberg_version.specs.Advance.{LosesPaths}
use Rattle.iceberg_version.proofs.advancing.unlink_all.Given as goal

abbrev pub invariant-loop-path : goal.invariant-loop-path
invariant-loop-path l = LosesPaths (take l.path-index l.removed) l.initial.links l.links
