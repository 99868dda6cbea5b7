use Rattle.lake_store.specs.Fuse.{fuse_disk}
use Rattle.lake_play.proofs.FileCounts.{remove_count}
use Rattle.lake_play.proofs.Rooms.{runs_within}
use Rattle.lake_play.proofs.scripted.ScriptedStore.remove.Goals as goal

pub returns-clause-contest : goal.returns-clause-contest
returns-clause-contest c =
    runs_within c.args.self.now.fuse c.remove.new.self c.args.self.now.room c.remove.result c.remove.ensures.fuse (remove_count c.remove.result (fuse_disk c.args.self.now.fuse) (fuse_disk c.remove.new.self) c.args.path.now c.remove.ensures.ok c.remove.ensures.err) c.remove.ensures.contest
