use Rattle.std.proofs.Common.{rules}
use Rattle.std.proofs.lemmas.Result.{on_ok_weaker}
use Rattle.table_lines.proofs.row.write_values.Goals as goal

pub returns-clause-before : goal.returns-clause-before
returns-clause-before c = on_ok_weaker c.end_array.result (λ _. search rules) c.end_array.ensures.ok
