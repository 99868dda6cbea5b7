use Rattle.std.proofs.Common.{◌≡◌, ◌+◌, ◌*◌, map, drop, ◌++◌}
use Rattle.avro_value.specs.ValueTree.{value_tree, entry_tree, values_of, entries_of, value_count, total, entry_count}
use Rattle.avro_value.specs.Writing.{values_encoding, entries_encoding}
use Rattle.avro_value.specs.Fitting.{AreSound, EntriesAreSound}
use Rattle.avro_value.proofs.writer.+encode.Given as goal

abbrev pub decreases-push_value : goal.decreases-push_value
decreases-push_value l = 3 * value_count (value_tree l.value.now)

abbrev pub decreases-push_items : goal.decreases-push_items
decreases-push_items l = 3 * total value_count (map value_tree l.items.now.items) + 2

abbrev pub decreases-push_map : goal.decreases-push_map
decreases-push_map l = 3 * total entry_count (map entry_tree l.entries.now.items) + 2

abbrev pub decreases-push_values : goal.decreases-push_values
decreases-push_values l = 3 * total value_count (map value_tree l.values.now) + 1

abbrev pub decreases-push_entries : goal.decreases-push_entries
decreases-push_entries l = 3 * total entry_count (map entry_tree l.entries.now) + 1

abbrev pub invariant-push_values-loop-value : goal.invariant-push_values-loop-value
invariant-push_values-loop-value l = record {
  bytes : l.out.items ++ values_encoding (values_of (map value_tree (drop l.value-index l.values))) ≡ l.fn.out.items ++ values_encoding (values_of (map value_tree l.values));
  sound : AreSound (values_of (map value_tree (drop l.value-index l.values))) → AreSound (values_of (map value_tree l.values));
}

abbrev pub invariant-push_entries-loop-pair : goal.invariant-push_entries-loop-pair
invariant-push_entries-loop-pair l = record {
  bytes : l.out.items ++ entries_encoding (entries_of (map entry_tree (drop l.pair-index l.entries))) ≡ l.fn.out.items ++ entries_encoding (entries_of (map entry_tree l.entries));
  sound : EntriesAreSound (entries_of (map entry_tree (drop l.pair-index l.entries))) → EntriesAreSound (entries_of (map entry_tree l.entries));
}
