use Rattle.std.proofs.Common.{take, Contains}
use Rattle.table_history.specs.Row.{Row}
use Rattle.target_delta.specs.Fitting.{HasValueForm}
use Rattle.target_delta.proofs.fitting.form_among.Given as goal

abbrev pub invariant-loop-row : goal.invariant-loop-row
invariant-loop-row l = (row : Row) → Contains (take l.row-index l.rows) row → HasValueForm row → ⊥
