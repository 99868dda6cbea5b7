use Rattle.std.proofs.Common.{◌∙◌, length}
use Rattle.lake_batch.specs.PartImages.{part_elapses}
use Rattle.lake_batch.proofs.PartAnswers.{has_written, is_elsewhere, stays_short}
use Rattle.lake_batch.proofs.PartCalls.{beside_write}
use Rattle.lake_batch.proofs.calls.write.Goals as goal

pub returns-clause-ok : goal.returns-clause-ok
returns-clause-ok g c = λ told. has_written c.args.folder.now c.write.result (g.S.Store.disk c.args.store.now) (g.S.Store.disk c.write.new.self) c.as_str.result.now c.args.path.now c.args.bytes.now (c.as_str.ensures.value ∙ c.in_ok-whole.ensures) (c.write.ensures.ok told)

pub returns-clause-err : goal.returns-clause-err
returns-clause-err g c = λ told. is_elsewhere c.args.folder.now c.write.result (g.S.Store.disk c.args.store.now) (g.S.Store.disk c.write.new.self) c.as_str.result.now c.args.path.now (c.as_str.ensures.value ∙ c.in_ok-whole.ensures) (c.write.ensures.err told)

pub returns-clause-elapses : goal.returns-clause-elapses
returns-clause-elapses g c = λ told. part_elapses c.args.folder.now g.S.Store.tells g.S.Store.disk g.S.Store.time g.S.Store.left_since c.args.store.now c.write.new.self (c.write.ensures.elapses told)

pub returns-clause-beside : goal.returns-clause-beside
returns-clause-beside g c = beside_write g.S.Store g.met.S.Store.only_now c.args.folder.now c.args.store.now c.write.new.self c.write.ensures.elapses c.write.result c.as_str.result.now c.args.path.now c.args.bytes.now (c.as_str.ensures.value ∙ c.in_ok-whole.ensures) c.write.ensures.ok c.write.ensures.err

pub returns-clause-short : goal.returns-clause-short
returns-clause-short g c = λ told. stays_short c.args.folder.now c.write.result (g.S.Store.disk c.args.store.now) (g.S.Store.disk c.write.new.self) (length c.args.bytes.now) (c.write.ensures.short told)
