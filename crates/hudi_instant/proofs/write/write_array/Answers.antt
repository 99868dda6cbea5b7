use Rattle.std.proofs.Common.{rules}
use Rattle.std.proofs.lemmas.Result.{on_ok_weaker}
use Rattle.hudi_instant.proofs.write.write_array.Goals as goal

pub returns-clause-before : goal.returns-clause-before
returns-clause-before g c = on_ok_weaker c.end_array.result (λ _. search rules) c.end_array.ensures.ok
