use Rattle.std.proofs.Common.{◌≡◌, Ok, length}
use Rattle.delta_feeding.specs.Feeding.{fed}
use Rattle.delta_feeding.proofs.so_far.LinesSoFar.fed.Given as goal

abbrev pub invariant-loop-end : goal.invariant-loop-end
invariant-loop-end l = fed (Ok l.lines) l.rest ≡ fed (Ok l.fn.self) l.fn.piece

abbrev pub decreases-loop-end : goal.decreases-loop-end
decreases-loop-end l = length l.rest
