use Rattle.lake_store.specs.Fuse.{fuse_disk}
use Rattle.lake_play.proofs.FileCounts.{publish_count}
use Rattle.lake_play.proofs.Rooms.{publishes_within}
use Rattle.lake_play.proofs.scripted.ScriptedStore.publish.Goals as goal

pub returns-clause-contest : goal.returns-clause-contest
returns-clause-contest c =
    publishes_within c.args.to.now c.args.self.now.fuse c.publish.new.self c.args.self.now.room c.publish.result c.publish.ensures.fuse (publish_count c.publish.result (fuse_disk c.args.self.now.fuse) (fuse_disk c.publish.new.self) c.args.from.now c.args.to.now c.publish.ensures.ok c.publish.ensures.taken c.publish.ensures.err) c.publish.ensures.contest
