use Rattle.std.proofs.Common.{ℕ, List, Some, ap, ◌∙◌}
use Rattle.target_delta.proofs.SeenLemmas.{no_mark}
use Rattle.target_delta.proofs.inspect.newest_mark.Goals as goal

pub returns-in_default-2 : goal.returns-in_default-2
returns-in_default-2 c = λ mark of same.
    no_mark c.args.log.now c.args.newest c.as_slice.result.now c.as_str.result.now mark c.as_slice.ensures (ap (λ (t : List ℕ). Some t) c.as_str.ensures.value ∙ c.in-Some.ensures) (rw c.in_default-2.is at c.in_ok-mark.ensures) of
