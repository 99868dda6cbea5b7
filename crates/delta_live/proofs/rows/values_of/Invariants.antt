use Rattle.std.proofs.Common.{take}
use Rattle.delta_live.specs.Live.{AreValues}
use Rattle.delta_live.proofs.rows.values_of.Given as goal

abbrev pub invariant-loop-column : goal.invariant-loop-column
invariant-loop-column l = AreValues (take l.column-index l.columns) l.texts l.values
