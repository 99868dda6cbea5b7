use Rattle.std.proofs.Common.{inr}
use Rattle.lake_play.proofs.syncing.sync.Goals as goal

pub returns-in-Ok-new : goal.returns-in-Ok-new
returns-in-Ok-new c = rw c.in-Iceberg.is (inr (c.in-Ok-new.target, c.in-Ok-new.ensures.id, c.in-Ok-new.ensures.location, c.bring-in-Ok-new.ensures))
