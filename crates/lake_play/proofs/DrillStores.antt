-- The store on which a drill was played, once it is read.
use Rattle.std.proofs.Common.{◌≡◌, ℕ, ap, ◌∙◌}
use Rattle.lake_store.specs.Fuse.{fuse_disk}
use Rattle.lake_store.specs.Memory.{Memory, disk_of}
use Rattle.lake_store.specs.declared.fuse.FuseStore.{FuseStore}
use Rattle.lake_play.specs.Drilled.{IsPlayedThrough}

-- What reads the store inside keeps its disk, and nothing around it changes.
pub read_through : (number : ℕ) (store : FuseStore) (inner : Memory) → disk_of inner ≡ fuse_disk store → IsPlayedThrough number store → IsPlayedThrough number (record store { inner = inner })
read_through number store inner same played = record {
  start = played.start;
  fresh = played.fresh;
  unscripted = played.unscripted;
  after = played.after;
  end = played.end;
  plays = played.plays;
  ended = played.ended;
  disk = same ∙ played.disk;
  outside = ap (λ (s : FuseStore). record s { inner = inner }) played.outside;
}
