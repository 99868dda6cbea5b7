use Rattle.std.proofs.Common.{refl}
use Rattle.lake_sweep.proofs.ReadingLaws.{moved}
use Rattle.lake_sweep.proofs.reached.Reached.at_place.Goals as goal

pub returns-clause-read : goal.returns-clause-read
returns-clause-read c files lists has = moved files lists c.args.self _ has refl c.new-read.ensures.empty
