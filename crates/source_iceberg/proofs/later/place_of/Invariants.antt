use Rattle.std.proofs.Common.{take}
use Rattle.source_iceberg.specs.Later.{HasNone}
use Rattle.source_iceberg.proofs.later.place_of.Given as goal

abbrev pub invariant-loop-place : goal.invariant-loop-place
invariant-loop-place l = HasNone (take l.place l.snapshots) l.position
