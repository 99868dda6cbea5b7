use Rattle.std.proofs.Common.{take}
use Rattle.iceberg_version.specs.Touched.{AreTouched}
use Rattle.iceberg_version.proofs.touched.touched_owners.Given as goal

abbrev pub invariant-loop-path : goal.invariant-loop-path
invariant-loop-path l = AreTouched l.links (take l.path-index l.removed) l.owners
