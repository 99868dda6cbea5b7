use Rattle.std.proofs.Common.{◌≡◌}
use Rattle.hudi_properties.proofs.pair.pairs_in.Given as goal

abbrev pub invariant-loop-pair : goal.invariant-loop-pair
invariant-loop-pair l = l.pairs ≡ l.yielded
