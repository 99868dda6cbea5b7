use Rattle.std.proofs.Common.{ℕ, Some, None, subst}
use Rattle.lake_store.specs.declared.fuse.FuseStore.{FuseStore}
use Rattle.target_sync.specs.Along.{IsWholeSync}
use Rattle.target_sync.specs.Targets.{target_facts}
use Rattle.lake_play.specs.Formats.{from_delta}
use Rattle.lake_play.specs.Playing.{scripted}
use Rattle.lake_play.specs.Scripted.{scripted_store}
use Rattle.lake_play.proofs.syncing.bring.Goals as goal

pub returns : goal.returns
returns g c = record {
  answer = c.sync_one-answer.result;
  told = c.status_of.ensures;
  room = c.sync_one-answer.new.store.room;
  sync =
      subst (λ (n : ℕ). IsWholeSync scripted_store from_delta (target_facts g.T.Target c.args.target.now) None c.args.mode c.args.now_ms (scripted n c.args.store.now) (scripted c.sync_one-answer.new.store.room c.sync_one-answer.new.store.fuse) (Some c.sync_one-answer.result)) c.room-room.ensures
      (subst (λ (s : FuseStore). IsWholeSync scripted_store from_delta (target_facts g.T.Target c.args.target.now) None c.args.mode c.args.now_ms (scripted c.room-room.result s) (scripted c.sync_one-answer.new.store.room c.sync_one-answer.new.store.fuse) (Some c.sync_one-answer.result)) c.replace.ensures.value
      c.sync_one-answer.ensures);
}
