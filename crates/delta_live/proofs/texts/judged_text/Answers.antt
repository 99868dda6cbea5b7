use Rattle.delta_live.proofs.texts.judged_text.Goals.{in-Ok, in-Err-BadValue, in-Err-Memory}
use Rattle.delta_live.proofs.texts.judged_text.Goals as goal

pub returns-clause-ok : goal.returns-clause-ok
returns-clause-ok c =
    elim c.match-from_delta_text.branch [
      | in-Ok w ↦ rw w.result-is (w.in-Ok.field-0, w.in-Ok.ensures.ok)
      | in-Err-BadValue w ↦ rw w.result-is tt
      | in-Err-Memory w ↦ rw w.result-is tt
    ]
