use Rattle.delta_compaction.proofs.NewestLemmas.{newest_by}
use Rattle.delta_compaction.proofs.newest.newest_lines.Goals as goal

pub returns-clause-newest : goal.returns-clause-newest
returns-clause-newest c = newest_by _ _ c.joined_lines.ensures.lines c.joined_lines.ensures.taken
