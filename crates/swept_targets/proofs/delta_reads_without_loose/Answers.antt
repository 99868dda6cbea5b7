use Rattle.swept_targets.proofs.DeltaLaws.{reads_without}
use Rattle.swept_targets.proofs.delta_reads_without_loose.Goals as goal

pub returns : goal.returns
returns c = λ files view path reads loose. reads_without c.args.target.now.id files view path reads loose
