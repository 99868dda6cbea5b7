use Rattle.iceberg_change.proofs.JoiningLaws.{joined_begins}
use Rattle.iceberg_change.proofs.joining.Joining.new.Goals as goal

pub returns-clause-joined : goal.returns-clause-joined
returns-clause-joined c = λ columns. joined_begins columns _ c.new.ensures c.new-3.ensures.items c.new-2.ensures.counts
