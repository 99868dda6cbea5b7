use Rattle.std.proofs.Common.{◌≡◌, ◌-◌, map}
use Rattle.avro_value.specs.Reading.{many_at, read_behind}
use Rattle.avro_value.specs.Layout.{layout}
use Rattle.avro_value.specs.ValueTree.{value_tree}
use Rattle.avro_container.specs.Reading.{object_at}
use Rattle.avro_container.proofs.blocks.many.Given as goal

abbrev pub invariant-loop : goal.invariant-loop
invariant-loop l =
    read_behind (map value_tree l.found.items) (many_at (object_at (layout l.schema)) (l.count - l.counter) l.input.rest.now l.input.budget)
    ≡ read_behind (map value_tree l.fn.found.items) (many_at (object_at (layout l.schema)) l.count l.fn.input.rest.now l.fn.input.budget)
