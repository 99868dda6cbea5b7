use Rattle.std.proofs.Common.{rules}
use Rattle.std.proofs.lemmas.Result.{on_ok_weaker}
use Rattle.hudi_instant.proofs.write.write_number.Goals as goal

pub returns-clause-before : goal.returns-clause-before
returns-clause-before c = on_ok_weaker c.u64.result (λ _. search rules) c.u64.ensures.ok
