use Rattle.iceberg_change.proofs.HeldLaws.{emptied_left, emptied_rows, some_held}
use Rattle.iceberg_change.proofs.held.Held.take.Goals as goal

pub returns-in-Some-clause-rows : goal.returns-in-Some-clause-rows
returns-in-Some-clause-rows c = emptied_rows c.args.self.now.slots.items c.emptied.new.slots.items c.in-Some.place.now c.emptied.result c.emptied.ensures.before c.emptied.ensures.after

pub returns-in-Some-clause-taken : goal.returns-in-Some-clause-taken
returns-in-Some-clause-taken c = some_held c.args.self.now.slots.items c.in-Some.place.now c.emptied.result c.emptied.ensures.before

pub returns-in-Some-clause-left : goal.returns-in-Some-clause-left
returns-in-Some-clause-left c = λ m there. emptied_left c.args.self.now.slots.items c.emptied.new.slots.items c.in-Some.place.now m c.emptied.ensures.after there
