use Rattle.std.proofs.Common.{◌≡◌, ◌-◌}
use Rattle.avro_value.specs.Reading.{item_at, bytes_at, with_count, entry_at, blocks_at, all_blocks_at, read_behind}
use Rattle.avro_container.proofs.meta.pairs.Given as goal

abbrev pub invariant-loop : goal.invariant-loop
invariant-loop l =
    read_behind l.found.items (blocks_at (entry_at (with_count (item_at bytes_at))) (l.fuel - l.counter) l.input.rest.now l.input.budget)
    ≡ all_blocks_at (entry_at (with_count (item_at bytes_at))) l.fn.input.rest.now l.fn.input.budget
