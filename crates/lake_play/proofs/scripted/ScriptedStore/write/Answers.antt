use Rattle.lake_store.specs.Fuse.{fuse_disk}
use Rattle.lake_play.proofs.FileCounts.{write_count}
use Rattle.lake_play.proofs.Rooms.{runs_within}
use Rattle.lake_play.proofs.scripted.ScriptedStore.write.Goals as goal

pub returns-clause-contest : goal.returns-clause-contest
returns-clause-contest c =
    runs_within c.args.self.now.fuse c.write.new.self c.args.self.now.room c.write.result c.write.ensures.fuse (write_count c.write.result (fuse_disk c.args.self.now.fuse) (fuse_disk c.write.new.self) c.args.path.now c.args.bytes.now c.write.ensures.ok c.write.ensures.err) c.write.ensures.contest
