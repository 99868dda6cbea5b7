use Rattle.lake_store.proofs.RunLaws.{reading_begins, reading_steps}
use Rattle.iceberg_table.proofs.file.read_file.Goals as goal

pub returns-in-Err-clause-only_reads : goal.returns-in-Err-clause-only_reads
returns-in-Err-clause-only_reads g c = reading_steps g.S.Store c.args.store.now c.args.store.now c.read.new.self (reading_begins g.S.Store g.met.S.Store.only_now c.args.store.now) c.read.ensures.same c.read.ensures.elapses
