use Rattle.std.proofs.Common.{map, refl}
use Rattle.lake_batch.proofs.BatchFolders.{lies_here, lies_in_none, none_at_end}
use Rattle.lake_batch.proofs.batch.lies_in_one.Goals as goal

pub returns-then-stands_before : goal.returns-then-stands_before
returns-then-stands_before c =
    let here = c.stands_before.ensures.0 c.if-stands_before.true in
    (λ t. lies_here (map (λ s. s.now) c.args.folders.now.keys) c.args.path.now c.loop-i.i c.loop-i-test.true here.0 here.1, λ lies. refl)

pub returns : goal.returns
returns c = (λ t. absurd (cc t), λ lies. absurd (lies_in_none (map (λ s. s.now) c.args.folders.now.keys) c.args.path.now (none_at_end (map (λ s. s.now) c.args.folders.now.keys) c.args.path.now c.loop-i.i c.loop-i-test.false c.loop-i.invariant) lies))
