use Rattle.std.proofs.Common.{List, map, ap, arith}
use Rattle.avro_value.specs.ValueTree.{value_tree, value_count, total}
use Rattle.avro_value.specs.declared.value.Value.{Value}
use Rattle.avro_value.proofs.Values.{value_tree-Array, value_tree-Map, value_tree-Union}
use Rattle.avro_value.proofs.Written.{data_len_of, entries_len_of, one_behind, array_size, fields_size, map_size, part_small, entry_small, items_sound, entries_sound}
use Rattle.avro_value.proofs.writer.+encode.Goals as goal

pub push_value-returns-in-Array-clause-bytes : goal.push_value-returns-in-Array-clause-bytes
push_value-returns-in-Array-clause-bytes t c = rw (c.in-Array.is, value_tree-Array, data_len_of) c.push_items.ensures.bytes

pub push_value-returns-in-Array-clause-sound : goal.push_value-returns-in-Array-clause-sound
push_value-returns-in-Array-clause-sound t c = rw (c.in-Array.is, value_tree-Array) (items_sound _ _ c.push_items.ensures.short c.push_items.ensures.sound)

pub push_value-returns-in-Map-clause-bytes : goal.push_value-returns-in-Map-clause-bytes
push_value-returns-in-Map-clause-bytes t c = rw (c.in-Map.is, value_tree-Map, entries_len_of) c.push_map.ensures.bytes

pub push_value-returns-in-Map-clause-sound : goal.push_value-returns-in-Map-clause-sound
push_value-returns-in-Map-clause-sound t c = rw (c.in-Map.is, value_tree-Map) (entries_sound _ _ c.push_map.ensures.short c.push_map.ensures.sound)

pub push_value-returns-in_ok-push_index-in-Union-clause-bytes : goal.push_value-returns-in_ok-push_index-in-Union-clause-bytes
push_value-returns-in_ok-push_index-in-Union-clause-bytes t c =
    rw (c.in-Union.is, value_tree-Union, ← c.deref.ensures) (one_behind _ _ _ _ _ _ c.in_ok-push_index-in-Union.ensures.bytes c.push_value.ensures.bytes)

pub push_value-push_items-requires : goal.push_value-push_items-requires
push_value-push_items-requires t c = (omega (arith, c.decreases, ap (λ (v : Value). value_count (value_tree v)) c.in-Array.is, array_size c.in-Array.items), tt)

pub push_value-push_map-requires : goal.push_value-push_map-requires
push_value-push_map-requires t c = (omega (arith, c.decreases, ap (λ (v : Value). value_count (value_tree v)) c.in-Map.is, map_size c.in-Map.entries), tt)

pub push_value-push_values-requires : goal.push_value-push_values-requires
push_value-push_values-requires t c =
    (omega (arith, c.decreases, ap (λ (v : Value). value_count (value_tree v)) c.in-Fields.is, fields_size c.in-Fields.values, ap (λ (xs : List Value). total value_count (map value_tree xs)) c.deref-in-Fields.ensures.value), tt)

pub push_values-push_value-requires : goal.push_values-push_value-requires
push_values-push_value-requires t c =
    let s = part_small c.args.values.now c.loop-value.value-index c.value-item.result c.loop-value-test.true c.value-item.is in
    (omega (arith, s, c.decreases), tt)

pub push_entries-push_value-requires : goal.push_entries-push_value-requires
push_entries-push_value-requires t c =
    let s = entry_small c.args.entries.now c.loop-pair.pair-index c.pair-item.result c.loop-pair-test.true c.pair-item.is in
    (omega (arith, s, c.decreases), tt)
