use Rattle.std.proofs.Common.{◌≡◌, ◌++◌}
use Rattle.iceberg_change.specs.Behind.{slots_rows}
use Rattle.iceberg_change.proofs.held.slots_rows.Given as goal

abbrev pub invariant-loop-slot : goal.invariant-loop-slot
invariant-loop-slot l = l.rows.items ++ slots_rows l.slot-iterator.rest.items ≡ slots_rows l.fn.slots.items
