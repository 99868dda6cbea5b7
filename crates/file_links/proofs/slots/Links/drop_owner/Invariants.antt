use Rattle.file_links.specs.Rows.{rows_of}
use Rattle.file_links.proofs.SlotLemmas.{DropsRows, row_count}
use Rattle.file_links.proofs.slots.Links.drop_owner.Given as goal

abbrev pub invariant-loop-slot : goal.invariant-loop-slot
invariant-loop-slot l = DropsRows l.initial.self l.self l.owner

abbrev pub decreases-loop-slot : goal.decreases-loop-slot
decreases-loop-slot l = row_count (rows_of l.self l.owner)
