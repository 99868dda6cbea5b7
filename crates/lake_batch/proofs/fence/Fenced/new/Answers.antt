use Rattle.lake_batch.proofs.FenceLaws.{fenced_first}
use Rattle.lake_batch.proofs.fence.Fenced.new.Goals as goal

pub invariant_of-result : goal.invariant_of-result
invariant_of-result g c = (c.requires.folder, fenced_first g.S.Store g.K.Fence.folder g.met.S.Store.only_now c.args.under.store g.K.Fence.disk g.K.Fence.time g.K.Fence.left_since c.requires.disk c.requires.time c.requires.left)
