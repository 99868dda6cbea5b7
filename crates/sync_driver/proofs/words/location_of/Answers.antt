use Rattle.std.proofs.Common.{◌∷◌, ℕ, List, [], length, sym, ap, ◌∙◌, arith}
use Rattle.std.proofs.Math.ListN.{length-append}
use Rattle.sync_driver.proofs.Locations.{location_shorter, location_whole}
use Rattle.sync_driver.proofs.words.location_of.Goals as goal

pub loop-preserved : goal.loop-preserved
loop-preserved c =
    let left = c.loop.left.now in
    let shorter = c.in-Some.shorter.now in
    let is = c.in-Some.ensures.split in
    let count = ap (λ (l : List ℕ). length l) is ∙ length-append shorter (47 ∷ []) in
    let so_far = c.loop.invariant.2 in
    (c.in-Some.ensures.text, location_shorter c.args.place.now left shorter c.loop.invariant.1 is, omega (arith, count, so_far))

pub returns-in_default : goal.returns-in_default
returns-in_default c = sym (c.loop.invariant.1 ∙ location_whole c.loop.left.now c.in_default.ensures.split)
