use Rattle.std.proofs.Common.{◌≡◌, ◌-◌}
use Rattle.avro_value.specs.Reading.{item_at, bytes_at, with_count, entry_at, many_at, read_behind}
use Rattle.avro_container.proofs.meta.many.Given as goal

abbrev pub invariant-loop : goal.invariant-loop
invariant-loop l =
    read_behind l.found.items (many_at (entry_at (with_count (item_at bytes_at))) (l.count - l.counter) l.input.rest.now l.input.budget)
    ≡ read_behind l.fn.found.items (many_at (entry_at (with_count (item_at bytes_at))) l.count l.fn.input.rest.now l.fn.input.budget)
