use Rattle.std.proofs.Common.{◌≡◌, ◌++◌, List}
use Rattle.target_iceberg.specs.InspectSteps.{FillsOwner}
use Rattle.iceberg_live.specs.declared.live.LiveRow.{LiveRow}
use Rattle.target_iceberg.proofs.linking.hold_rows.Given as goal

abbrev pub invariant-loop-live : goal.invariant-loop-live
invariant-loop-live l = (front : List LiveRow) × (l.fn.rows ≡ front ++ l.live-iterator.rest.items) × FillsOwner l.fn.links l.links l.owner front
