use Rattle.iceberg_version.proofs.NextLemmas.{part_more}
use Rattle.iceberg_version.proofs.carrying.next_manifests.Goals as goal

pub loop-place-preserved : goal.loop-place-preserved
loop-place-preserved c = part_more c.in_ok-next.next.items c.loop-place.next.items c.push.new.self.items c.loop-place.place c.loop-place.invariant c.in_ok-push.ensures.items
