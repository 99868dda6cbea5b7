use Rattle.lake_store.proofs.RunLaws.{reading_further}
use Rattle.target_sync.proofs.plan.plan_full.Goals as goal

pub returns-clause-only_reads : goal.returns-clause-only_reads
returns-clause-only_reads g c = reading_further g.S.Store c.args.store.now c.table_at_head.new.store c.plan_whole-planned.new.store c.in_ok-table.ensures.only_reads c.plan_whole-planned.ensures.only_reads
