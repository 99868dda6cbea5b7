use Rattle.std.proofs.Common.{inl, inr, ⊎_elim}
use Rattle.sync_driver.proofs.formats.bring_two.Goals as goal

pub returns-in-Ok : goal.returns-in-Ok
returns-in-Ok g c = rw c.in-Delta.is (⊎_elim (λ gives. inl gives) (λ goes. inr (c.in-Ok.target, c.in-Ok.ensures.id, goes)) c.bring_second.ensures)

pub returns-in-Ok-new : goal.returns-in-Ok-new
returns-in-Ok-new g c = rw c.in-Hudi.is (⊎_elim (λ gives. inl gives) (λ goes. inr (c.in-Ok-new.target, c.in-Ok-new.ensures.name, goes)) c.bring_second-in-Ok-new.ensures)

pub returns-in-Ok-new-2 : goal.returns-in-Ok-new-2
returns-in-Ok-new-2 g c = rw c.in-Iceberg.is (⊎_elim (λ gives. inl gives) (λ goes. inr (c.in-Ok-new-2.target, c.in-Ok-new-2.ensures.id, c.in-Ok-new-2.ensures.location, goes)) c.bring_second-in-Ok-new-2.ensures)
