use Rattle.std.proofs.Common.{All, take}
use Rattle.delta_live.specs.RowSteps.{kind_in, PairStands}
use Rattle.delta_live.proofs.texts.judged_pairs.Given as goal

abbrev pub invariant-loop-pair : goal.invariant-loop-pair
invariant-loop-pair l = All (PairStands (kind_in l.kinds)) (take l.pair-index l.pairs)
