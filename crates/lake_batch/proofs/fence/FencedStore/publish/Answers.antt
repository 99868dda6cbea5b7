use Rattle.std.proofs.Common.{◌∙◌}
use Rattle.lake_basics.specs.declared.limits.TheConstants.{MAX_FILE_BYTES}
use Rattle.lake_store.specs.Disk.{AddsShort, Files}
use Rattle.lake_batch.proofs.FenceLaws.{fenced_call, fenced_elapses, fenced_files}
use Rattle.lake_batch.proofs.fence.FencedStore.publish.Goals as goal

pub invariant_of-self : goal.invariant_of-self
invariant_of-self g c = (c.self.invariant.0, fenced_call g.S.Store g.K.Fence.folder g.K.Fence.disk g.K.Fence.time g.K.Fence.left_since c.as_str-folder.result.now c.self.inside.under.store c.publish.new.store (c.as_str-folder.ensures.value ∙ c.self.invariant.0) c.self.invariant.1 c.publish.ensures.beside)

pub returns-clause-elapses : goal.returns-clause-elapses
returns-clause-elapses g c = fenced_elapses g.S.Store g.K.Fence.folder c.as_str-folder.result.now c.self.inside.under.store c.args.self.now c.publish.new.store (c.as_str-folder.ensures.value ∙ c.self.invariant.0) c.self.view_is c.publish.ensures.elapses

pub returns-clause-short : goal.returns-clause-short
returns-clause-short g c = λ told taken. fenced_files g.S.Store g.K.Fence.folder c.as_str-folder.result.now c.self.inside.under.store c.args.self.now c.publish.new.store (c.as_str-folder.ensures.value ∙ c.self.invariant.0) c.self.view_is
    (λ (a b : Files). AddsShort MAX_FILE_BYTES a b) (c.publish.ensures.short told taken)
