use Rattle.std.proofs.Common.{◌≡◌, map, drop, ◌-◌}
use Rattle.avro_value.specs.Layout.{layout, field_layout, layouts_of}
use Rattle.avro_value.specs.ValueTree.{value_tree, entry_tree}
use Rattle.avro_value.specs.Reading.{value_at, blocks_at, all_blocks_at, many_at, entry_at, parts_at, read_behind}
use Rattle.avro_value.proofs.reader.+decode.Given as goal

abbrev pub invariant-array-loop : goal.invariant-array-loop
invariant-array-loop l =
    read_behind (map value_tree l.items.items) (blocks_at (value_at (layout l.schema)) (l.fuel - l.counter) l.input.rest.now l.input.budget)
    ≡ all_blocks_at (value_at (layout l.schema)) l.fn.input.rest.now l.fn.input.budget

abbrev pub invariant-entries-loop : goal.invariant-entries-loop
invariant-entries-loop l =
    read_behind (map entry_tree l.found.items) (blocks_at (entry_at (value_at (layout l.schema))) (l.fuel - l.counter) l.input.rest.now l.input.budget)
    ≡ all_blocks_at (entry_at (value_at (layout l.schema))) l.fn.input.rest.now l.fn.input.budget

abbrev pub invariant-many-loop : goal.invariant-many-loop
invariant-many-loop l =
    read_behind (map value_tree l.values.items) (many_at (value_at (layout l.schema)) (l.count - l.counter) l.input.rest.now l.input.budget)
    ≡ read_behind (map value_tree l.fn.values.items) (many_at (value_at (layout l.schema)) l.count l.fn.input.rest.now l.fn.input.budget)

abbrev pub invariant-many_entries-loop : goal.invariant-many_entries-loop
invariant-many_entries-loop l =
    read_behind (map entry_tree l.found.items) (many_at (entry_at (value_at (layout l.schema))) (l.count - l.counter) l.input.rest.now l.input.budget)
    ≡ read_behind (map entry_tree l.fn.found.items) (many_at (entry_at (value_at (layout l.schema))) l.count l.fn.input.rest.now l.fn.input.budget)

abbrev pub invariant-record-loop-field : goal.invariant-record-loop-field
invariant-record-loop-field l =
    read_behind (map value_tree l.values.items) (parts_at (layouts_of (map field_layout (drop l.field-index l.fields.items))) l.input.rest.now l.input.budget)
    ≡ parts_at (layouts_of (map field_layout l.fields.items)) l.fn.input.rest.now l.fn.input.budget
