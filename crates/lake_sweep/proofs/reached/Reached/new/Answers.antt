use Rattle.lake_sweep.proofs.ReadingLaws.{nothing_read}
use Rattle.lake_sweep.proofs.reached.Reached.new.Goals as goal

pub returns : goal.returns
returns c files = nothing_read files _ c.new-paths.ensures.empty c.new-read.ensures.empty
