use Rattle.delta_feeding.proofs.StateLemmas.{refused_stays}
use Rattle.delta_feeding.proofs.feeder.fed_by.Goals as goal

pub returns-in-Err-clause-fed : goal.returns-in-Err-clause-fed
returns-in-Err-clause-fed c = rw c.in-Err.is (refused_stays c.in-Err.error c.args.piece.now)
