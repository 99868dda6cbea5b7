use Rattle.std.proofs.Common.{take}
use Rattle.target_delta.specs.Writing.{AreTexts}
use Rattle.target_delta.proofs.actions.texts_of.Given as goal

abbrev pub invariant-loop-i : goal.invariant-loop-i
invariant-loop-i l = AreTexts (take l.i l.partition) (take l.i l.values) l.texts.items
