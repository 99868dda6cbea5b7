use Rattle.lake_store.proofs.RunLaws.{reading_further}
use Rattle.lake_sweep.proofs.plan.sweep_plan.Goals as goal

pub returns-in_err-leftovers-clause-only_reads : goal.returns-in_err-leftovers-clause-only_reads
returns-in_err-leftovers-clause-only_reads g c told =
    reading_further g.S.Store c.args.store.now c.require_known.new.store c.leftovers.new.store (λ t. c.require_known.ensures.only_reads t) (λ t. c.leftovers.ensures.only_reads t) told

pub returns-clause-only_reads : goal.returns-clause-only_reads
returns-clause-only_reads g c told =
    reading_further g.S.Store c.args.store.now c.require_known.new.store c.leftovers.new.store (λ t. c.require_known.ensures.only_reads t) (λ t. c.leftovers.ensures.only_reads t) told
