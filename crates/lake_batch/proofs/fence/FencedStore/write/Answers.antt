use Rattle.std.proofs.Common.{◌∙◌}
use Rattle.std.specs.Prelude.{OnErr, length}
use Rattle.lake_store.specs.Disk.{AddsShort, Files}
use Rattle.lake_batch.proofs.FenceLaws.{fenced_call, fenced_elapses, fenced_files}
use Rattle.lake_batch.proofs.fence.FencedStore.write.Goals as goal

pub invariant_of-self : goal.invariant_of-self
invariant_of-self g c = (c.self.invariant.0, fenced_call g.S.Store g.K.Fence.folder g.K.Fence.disk g.K.Fence.time g.K.Fence.left_since c.as_str-folder.result.now c.self.inside.under.store c.write.new.store (c.as_str-folder.ensures.value ∙ c.self.invariant.0) c.self.invariant.1 c.write.ensures.beside)

pub returns-clause-elapses : goal.returns-clause-elapses
returns-clause-elapses g c = fenced_elapses g.S.Store g.K.Fence.folder c.as_str-folder.result.now c.self.inside.under.store c.args.self.now c.write.new.store (c.as_str-folder.ensures.value ∙ c.self.invariant.0) c.self.view_is c.write.ensures.elapses

pub returns-clause-short : goal.returns-clause-short
returns-clause-short g c = λ told. fenced_files g.S.Store g.K.Fence.folder c.as_str-folder.result.now c.self.inside.under.store c.args.self.now c.write.new.store (c.as_str-folder.ensures.value ∙ c.self.invariant.0) c.self.view_is
    (λ (a b : Files). OnErr c.write.result (AddsShort (length c.args.bytes.now) a b)) (c.write.ensures.short told)
