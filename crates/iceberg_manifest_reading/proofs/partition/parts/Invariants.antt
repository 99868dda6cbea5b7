use Rattle.std.proofs.Common.{◌≡◌, drop, map}
use Rattle.lake_basics.specs.Outcome.{with_front}
use Rattle.avro_value.specs.ValueTree.{value_tree, values_of}
use Rattle.iceberg_manifest.specs.Partition.{parts_in}
use Rattle.iceberg_manifest_reading.proofs.partition.parts.Given as goal

abbrev pub invariant-loop-column : goal.invariant-loop-column
invariant-loop-column l = with_front l.parts.items (parts_in (values_of (map value_tree l.values)) (drop l.column-index l.columns)) ≡ parts_in (values_of (map value_tree l.values)) l.columns
