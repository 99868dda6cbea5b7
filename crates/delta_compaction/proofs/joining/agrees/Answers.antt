use Rattle.delta_compaction.proofs.AgreeLemmas.{agreeing_stands, says_so}
use Rattle.delta_compaction.proofs.joining.agrees.Goals as goal

pub returns-clause-agrees : goal.returns-clause-agrees
returns-clause-agrees c = says_so c.args.commits.now _ _ c.args.compacted.now c.in_ok-text.ensures.taken c.in_ok-text.ensures.text c.as_slice.ensures.value c.in_ok-say_same.field-0 c.in_ok-say_same.ensures

pub returns-clause-law : goal.returns-clause-law
returns-clause-law c = λ same said commit taken readable. agreeing_stands c.args.commits.now c.args.compacted.now ((returns-clause-agrees c).0 same) said commit taken readable
