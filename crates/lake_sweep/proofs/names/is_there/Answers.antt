use Rattle.lake_store.proofs.RunLaws.{reading_begins, reading_steps}
use Rattle.lake_sweep.proofs.names.is_there.Goals as goal

pub returns-in_err-part-clause-only_reads : goal.returns-in_err-part-clause-only_reads
returns-in_err-part-clause-only_reads g c told =
    let s = c.args.store.now in
    reading_steps g.S.Store s s c.read_part.new.self (λ t. reading_begins g.S.Store g.met.S.Store.only_now s t) (λ t. c.read_part.ensures.same t) (λ t. c.read_part.ensures.elapses t) told
