use Rattle.lake_store.proofs.RunLaws.{reading_further}
use Rattle.lake_sweep.proofs.known.require_known.Goals as goal

pub returns-in_err-foreign_path-clause-only_reads : goal.returns-in_err-foreign_path-clause-only_reads
returns-in_err-foreign_path-clause-only_reads g c told =
    reading_further g.S.Store c.args.store.now c.foreign_path.new.store c.foreign_path-2.new.store (λ t. c.foreign_path.ensures.only_reads t) (λ t. c.foreign_path-2.ensures.only_reads t) told

pub returns-in-None-clause-only_reads : goal.returns-in-None-clause-only_reads
returns-in-None-clause-only_reads g c told =
    reading_further g.S.Store c.args.store.now c.foreign_path.new.store c.foreign_path-2.new.store (λ t. c.foreign_path.ensures.only_reads t) (λ t. c.foreign_path-2.ensures.only_reads t) told

pub returns-in-Some-2-clause-only_reads : goal.returns-in-Some-2-clause-only_reads
returns-in-Some-2-clause-only_reads g c told =
    reading_further g.S.Store c.args.store.now c.foreign_path.new.store c.foreign_path-2.new.store (λ t. c.foreign_path.ensures.only_reads t) (λ t. c.foreign_path-2.ensures.only_reads t) told
