use Rattle.std.proofs.Common.{ap}
use Rattle.lake_store.specs.Memory.{Memory}
use Rattle.lake_store.proofs.PastLaws.{elapses_changed}
use Rattle.lake_store.proofs.memory.MemoryStoreStore.publish.Goals as goal

pub returns-clause-ok : goal.returns-clause-ok
returns-clause-ok c = λ told.
    let move = c.in_ok-rename.ensures.ok in
    (move.0, move.1, ap (λ (m : Memory). m.disk) move.2)

pub returns-clause-elapses : goal.returns-clause-elapses
returns-clause-elapses c = λ told. elapses_changed c.args.self.now _ (ap (λ (m : Memory). m.past) c.in_ok-rename.ensures.ok.2)
