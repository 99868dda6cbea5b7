use Rattle.target_hudi.proofs.ForeignLemmas.{read_alike}
use Rattle.target_hudi.proofs.laws.timeline_laws.Goals as goal

pub returns : goal.returns
returns c = record { reading_lemma = read_alike }
