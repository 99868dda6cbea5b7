use Rattle.target_hudi.proofs.SeenLemmas.{no_mark}
use Rattle.target_hudi.proofs.inspect.own_mark.Goals as goal

pub returns-in_default-2 : goal.returns-in_default-2
returns-in_default-2 c = λ mark of same. no_mark c.args.latest.now c.args.instant.now c.in-Some.text c.as_str.result.now mark c.in-Some.is c.as_str.ensures.value (rw c.in_default-2.is at c.in_ok-mark.ensures) of
