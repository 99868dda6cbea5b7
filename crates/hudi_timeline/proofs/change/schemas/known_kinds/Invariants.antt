use Rattle.std.proofs.Common.{◌≡◌, map, take, Some}
use Rattle.hudi_timeline.proofs.change.schemas.known_kinds.Given as goal

abbrev pub invariant-loop-kind : goal.invariant-loop-kind
invariant-loop-kind l = take l.kind-index l.found ≡ map Some l.kinds.items
