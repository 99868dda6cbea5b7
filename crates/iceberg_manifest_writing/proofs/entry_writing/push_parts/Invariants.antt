use Rattle.std.proofs.Common.{◌≡◌, ◌++◌, drop, map}
use Rattle.avro_value.specs.Fitting.{AreSound}
use Rattle.avro_value.specs.ValueTree.{values_of}
use Rattle.avro_value.specs.Writing.{values_encoding}
use Rattle.partition_map.specs.Avro.{avro_value_of}
use Rattle.iceberg_manifest_writing.proofs.entry_writing.push_parts.Given as goal

abbrev pub invariant-loop-value : goal.invariant-loop-value
invariant-loop-value l = record {
  bytes : l.out.items ++ values_encoding (values_of (map avro_value_of (drop l.value-index l.values))) ≡ l.fn.out.items ++ values_encoding (values_of (map avro_value_of l.values));
  sound : AreSound (values_of (map avro_value_of (drop l.value-index l.values))) → AreSound (values_of (map avro_value_of l.values));
}
