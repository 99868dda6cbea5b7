use Rattle.std.proofs.Common.{take, Contains}
use Rattle.table_history.specs.Row.{Row}
use Rattle.target_delta.specs.Fitting.{HasValueForm, added_rows}
use Rattle.target_delta.proofs.fitting.form_of.Given as goal

abbrev pub invariant-loop-commit : goal.invariant-loop-commit
invariant-loop-commit l = (row : Row) → Contains (added_rows (take l.commit-index l.commits)) row → HasValueForm row → ⊥
