use Rattle.std.proofs.Common.{◌≡◌, drop}
use Rattle.hudi_properties.specs.Pairs.{pairs_of_lines}
use Rattle.hudi_properties.proofs.PairLemmas.{found_in}
use Rattle.hudi_properties.proofs.pair.pairs_of_lines.Given as goal

abbrev pub invariant-loop-line : goal.invariant-loop-line
invariant-loop-line l = found_in (drop l.line-index l.lines) l.pairs.entries ≡ pairs_of_lines l.lines
