use Rattle.source_hudi.proofs.Taken.{none_made}
use Rattle.source_hudi.proofs.since.commits_of.Goals as goal

pub returns-then-is_empty-clause-made : goal.returns-then-is_empty-clause-made
returns-then-is_empty-clause-made g c told = none_made (g.S.Store.disk c.args.store.now).files c.args.table.now c.args.base.now c.args.instants.now c.new.result c.if-is_empty.ensures c.new.ensures
