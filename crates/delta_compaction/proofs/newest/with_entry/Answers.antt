use Rattle.delta_compaction.proofs.KeyLemmas.{plain_put_by}
use Rattle.delta_compaction.proofs.newest.with_entry.Goals as goal

pub returns-clause-put : goal.returns-clause-put
returns-clause-put c = plain_put_by _ c.args.lines.entries c.args.key c.args.line c.in_ok-insert.ensures.entries
