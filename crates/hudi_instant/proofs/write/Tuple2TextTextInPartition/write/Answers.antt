use Rattle.std.proofs.Common.{rules}
use Rattle.std.proofs.lemmas.Result.{on_ok_weaker}
use Rattle.hudi_instant.proofs.write.Tuple2TextTextInPartition.write.Goals as goal

pub returns-clause-before : goal.returns-clause-before
returns-clause-before c = on_ok_weaker c.string.result (λ _. search rules) c.string.ensures.ok
