use Rattle.std.proofs.Common.{◌≡◌, [], length, sym, ◌∙◌, rules}
use Rattle.iceberg_change.proofs.HeldLaws.{filled_all, filled_more}
use Rattle.iceberg_change.proofs.held.Held.new.Goals as goal

pub loop-manifest-init : goal.loop-manifest-init
loop-manifest-init c = ([], sym (c.into_iter-manifest-iterator.ensures.into_iter_gives.0 ∙ c.into_vec-manifest-items.ensures), c.new-2.ensures.items)

pub loop-manifest-preserved : goal.loop-manifest-preserved
loop-manifest-preserved c =
    let was = c.loop-manifest.invariant in
    filled_more c.args.manifests was.0 c.loop-manifest.manifest-iterator.rest.items c.next.new.self.rest.items c.in-Some.manifest c.loop-manifest.held.slots.items c.hold.new.self.slots.items was.1 c.in-Some.ensures.steps.0 was.2 c.in_ok-hold.ensures

pub returns : goal.returns
returns c =
    let was = c.loop-manifest.invariant in
    let rest = c.loop-manifest.manifest-iterator.rest.items in
    let none : length rest ≡ 0 = search rules in
    filled_all c.args.manifests was.0 rest c.loop-manifest.held.slots.items was.1 none was.2
