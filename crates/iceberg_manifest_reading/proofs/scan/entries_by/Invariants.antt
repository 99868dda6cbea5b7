use Rattle.std.proofs.Common.{◌≡◌, drop, map}
use Rattle.lake_basics.specs.Outcome.{each, with_front}
use Rattle.avro_value.specs.ValueTree.{value_tree}
use Rattle.iceberg_manifest.specs.EntryReading.{entry_by}
use Rattle.iceberg_manifest_reading.proofs.scan.entries_by.Given as goal

abbrev pub invariant-loop-value : goal.invariant-loop-value
invariant-loop-value l = with_front l.entries.items (each (entry_by l.plan) (map value_tree (drop l.value-index l.values))) ≡ each (entry_by l.plan) (map value_tree l.values)
