use Rattle.std.proofs.Common.{ap}
use Rattle.lake_store.specs.Memory.{Memory}
use Rattle.lake_store.proofs.PastLaws.{elapses_changed}
use Rattle.lake_store.proofs.memory.MemoryStoreStore.write.Goals as goal

pub returns-clause-elapses : goal.returns-clause-elapses
returns-clause-elapses c = λ told. elapses_changed c.args.self.now _ (ap (λ (m : Memory). m.past) c.in_ok-write_over.ensures.ok)
