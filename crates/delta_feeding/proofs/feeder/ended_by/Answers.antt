use Rattle.delta_feeding.proofs.StateLemmas.{refused_at_end}
use Rattle.delta_feeding.proofs.feeder.ended_by.Goals as goal

pub returns-in-Err-clause-ended : goal.returns-in-Err-clause-ended
returns-in-Err-clause-ended c = rw c.in-Err.is (refused_at_end c.in-Err.error)
