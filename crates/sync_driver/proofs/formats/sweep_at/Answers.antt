use Rattle.std.proofs.Common.{inr}
use Rattle.sync_driver.proofs.formats.sweep_at.Goals as goal

pub returns-in-Ok : goal.returns-in-Ok
returns-in-Ok g c = rw c.in-Delta.is (inr (c.in-Ok.target, c.in-Ok.ensures.id, c.sweep_target.ensures))

pub returns-in-Ok-new-2 : goal.returns-in-Ok-new-2
returns-in-Ok-new-2 g c = rw c.in-Iceberg.is (inr (c.in-Ok-new-2.target, c.in-Ok-new-2.ensures.id, c.in-Ok-new-2.ensures.location, c.sweep_target-in-Ok-new-2.ensures))
