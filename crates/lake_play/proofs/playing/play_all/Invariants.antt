use Rattle.std.proofs.Common.{◌≤◌, drop}
use Rattle.lake_store.specs.declared.fuse.FuseStore.{FuseStore}
use Rattle.lake_play.specs.Playing.{PlaysAll, nothing_played}
use Rattle.lake_play.specs.declared.playing.Progress.{Progress}
use Rattle.lake_play.proofs.playing.play_all.Given as goal

-- what the other events do leads from the start to the end
abbrev pub invariant-loop-event : goal.invariant-loop-event
invariant-loop-event l = record {
  plays : (after : Progress) (new : FuseStore) → PlaysAll l.now_ms (drop l.event-index l.events) l.so_far l.store after new → PlaysAll l.now_ms l.events nothing_played l.fn.store after new;
  within : l.so_far.next ≤ l.event-index;
}
