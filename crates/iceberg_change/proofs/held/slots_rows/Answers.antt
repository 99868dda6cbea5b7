use Rattle.iceberg_change.specs.Behind.{slots_rows}
use Rattle.iceberg_change.proofs.HeldLaws.{slots_more}
use Rattle.iceberg_change.proofs.held.slots_rows.Goals as goal

pub loop-slot-preserved : goal.loop-slot-preserved
loop-slot-preserved c =
    slots_more c.loop-slot.slot-iterator.rest.items c.next.new.self.rest.items c.in-Some.slot c.loop-slot.rows.items c.move_slot.new.rows.items (slots_rows c.args.slots.items) c.in-Some.ensures.steps.0 c.in_ok-move_slot.ensures c.loop-slot.invariant
