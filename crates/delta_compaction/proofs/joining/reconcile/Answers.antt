use Rattle.delta_compaction.proofs.AgreeLemmas.{text_stands}
use Rattle.delta_compaction.proofs.joining.reconcile.Goals as goal

pub returns-clause-law : goal.returns-clause-law
returns-clause-law c = λ said commit taken readable. text_stands c.args.commits.now said taken _ c.in_ok-newest.ensures.newest _ commit c.in_ok-text.ensures readable
