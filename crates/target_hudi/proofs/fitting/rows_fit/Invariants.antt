use Rattle.std.proofs.Common.{take, Contains}
use Rattle.table_history.specs.Row.{Row}
use Rattle.target_hudi.specs.Fitting.{IsAstray}
use Rattle.target_hudi.proofs.fitting.rows_fit.Given as goal

abbrev pub invariant-loop-row : goal.invariant-loop-row
invariant-loop-row l = (row : Row) → Contains (take l.row-index l.rows) row → IsAstray l.partition row → ⊥
