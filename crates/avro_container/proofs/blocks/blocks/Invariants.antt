use Rattle.std.proofs.Common.{◌≡◌, ◌-◌, ◌+◌, map, length}
use Rattle.avro_value.specs.Layout.{layout}
use Rattle.avro_value.specs.ValueTree.{value_tree}
use Rattle.lake_basics.specs.Outcome.{with_front}
use Rattle.avro_container.specs.Reading.{blocks_at}
use Rattle.avro_container.proofs.blocks.blocks.Given as goal

abbrev pub invariant-loop : goal.invariant-loop
invariant-loop l =
    with_front (map value_tree l.found.items) (blocks_at (layout l.schema) l.marker (l.fuel - l.counter) l.input.rest.now l.input.budget)
    ≡ blocks_at (layout l.schema) l.marker (length l.fn.bytes + 1) l.fn.bytes 16777216
