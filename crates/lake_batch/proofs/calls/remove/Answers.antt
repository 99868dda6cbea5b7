use Rattle.std.proofs.Common.{◌∙◌}
use Rattle.lake_batch.specs.PartImages.{part_elapses}
use Rattle.lake_batch.proofs.PartAnswers.{has_removed, may_be_removed}
use Rattle.lake_batch.proofs.PartCalls.{beside_remove}
use Rattle.lake_batch.proofs.calls.remove.Goals as goal

pub returns-clause-ok : goal.returns-clause-ok
returns-clause-ok g c = λ told. has_removed c.args.folder.now c.remove.result (g.S.Store.disk c.args.store.now) (g.S.Store.disk c.remove.new.self) c.as_str.result.now c.args.path.now (c.as_str.ensures.value ∙ c.in_ok-whole.ensures) (c.remove.ensures.ok told)

pub returns-clause-err : goal.returns-clause-err
returns-clause-err g c = λ told. may_be_removed c.args.folder.now c.remove.result (g.S.Store.disk c.args.store.now) (g.S.Store.disk c.remove.new.self) c.as_str.result.now c.args.path.now (c.as_str.ensures.value ∙ c.in_ok-whole.ensures) (c.remove.ensures.err told)

pub returns-clause-elapses : goal.returns-clause-elapses
returns-clause-elapses g c = λ told. part_elapses c.args.folder.now g.S.Store.tells g.S.Store.disk g.S.Store.time g.S.Store.left_since c.args.store.now c.remove.new.self (c.remove.ensures.elapses told)

pub returns-clause-beside : goal.returns-clause-beside
returns-clause-beside g c = beside_remove g.S.Store g.met.S.Store.only_now c.args.folder.now c.args.store.now c.remove.new.self c.remove.ensures.elapses c.remove.result c.as_str.result.now c.args.path.now (c.as_str.ensures.value ∙ c.in_ok-whole.ensures) c.remove.ensures.ok c.remove.ensures.err
