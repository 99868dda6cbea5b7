use Rattle.std.proofs.Common.{take}
use Rattle.delta_live.specs.RowSteps.{AreRowsOf}
use Rattle.delta_live.proofs.rows.rows_of.Given as goal

abbrev pub invariant-loop-file : goal.invariant-loop-file
invariant-loop-file l = AreRowsOf l.columns (take l.file-index l.files) l.rows.items
