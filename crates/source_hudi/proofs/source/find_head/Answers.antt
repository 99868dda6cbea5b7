use Rattle.source_core.proofs.Answers.{oks}
use Rattle.source_hudi.proofs.source.find_head.Goals as goal

pub returns-in-Ok-clause-few : goal.returns-in-Ok-clause-few
returns-in-Ok-clause-few g c told = oks c.head_in.result _ _ (λ _ _. c.in-Ok.ensures.few told) c.head_in.ensures.position
