use Rattle.swept_targets.proofs.HudiLaws.{reads_without}
use Rattle.swept_targets.proofs.hudi_reads_without_loose.Goals as goal

pub returns : goal.returns
returns c = λ files view path reads loose. reads_without files view path reads loose
