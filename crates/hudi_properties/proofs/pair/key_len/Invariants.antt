use Rattle.std.proofs.Common.{◌≡◌, ◌+◌, drop, false}
use Rattle.hudi_properties.specs.Pairs.{key_len}
use Rattle.hudi_properties.proofs.pair.key_len.Given as goal

abbrev pub invariant-loop-i : goal.invariant-loop-i
invariant-loop-i l = l.i + key_len l.is_escaped (drop l.i l.line) ≡ key_len false l.line
