use Rattle.lake_batch.specs.PartImages.{part_elapses}
use Rattle.lake_batch.proofs.PartAnswers.{has_partly, has_synced}
use Rattle.lake_batch.proofs.PartCalls.{beside_sync}
use Rattle.lake_batch.proofs.calls.sync.Goals as goal

pub returns-clause-ok : goal.returns-clause-ok
returns-clause-ok g c = λ told. has_synced c.args.folder.now c.sync.result (g.S.Store.disk c.args.store.now) (g.S.Store.disk c.sync.new.self) (c.sync.ensures.ok told)

pub returns-clause-err : goal.returns-clause-err
returns-clause-err g c = λ told. has_partly c.args.folder.now c.sync.result (g.S.Store.disk c.args.store.now) (g.S.Store.disk c.sync.new.self) (c.sync.ensures.err told)

pub returns-clause-elapses : goal.returns-clause-elapses
returns-clause-elapses g c = λ told. part_elapses c.args.folder.now g.S.Store.tells g.S.Store.disk g.S.Store.time g.S.Store.left_since c.args.store.now c.sync.new.self (c.sync.ensures.elapses told)

pub returns-clause-beside : goal.returns-clause-beside
returns-clause-beside g c = beside_sync g.S.Store g.met.S.Store.only_now c.args.folder.now c.args.store.now c.sync.new.self c.sync.ensures.elapses c.sync.result c.sync.ensures.ok c.sync.ensures.err
