use Rattle.std.proofs.Common.{◌∙◌}
use Rattle.lake_batch.proofs.FenceLaws.{fenced_call, fenced_elapses}
use Rattle.lake_batch.proofs.fence.FencedStore.sync.Goals as goal

pub invariant_of-self : goal.invariant_of-self
invariant_of-self g c = (c.self.invariant.0, fenced_call g.S.Store g.K.Fence.folder g.K.Fence.disk g.K.Fence.time g.K.Fence.left_since c.as_str.result.now c.self.inside.under.store c.sync.new.store (c.as_str.ensures.value ∙ c.self.invariant.0) c.self.invariant.1 c.sync.ensures.beside)

pub returns-clause-elapses : goal.returns-clause-elapses
returns-clause-elapses g c = fenced_elapses g.S.Store g.K.Fence.folder c.as_str.result.now c.self.inside.under.store c.args.self.now c.sync.new.store (c.as_str.ensures.value ∙ c.self.invariant.0) c.self.view_is c.sync.ensures.elapses
