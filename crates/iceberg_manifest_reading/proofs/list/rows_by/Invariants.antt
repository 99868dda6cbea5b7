use Rattle.std.proofs.Common.{◌≡◌, drop, map}
use Rattle.lake_basics.specs.Outcome.{with_front}
use Rattle.avro_value.specs.ValueTree.{value_tree}
use Rattle.iceberg_manifest.specs.ListReading.{list_rows}
use Rattle.iceberg_manifest_reading.proofs.list.rows_by.Given as goal

abbrev pub invariant-loop-value : goal.invariant-loop-value
invariant-loop-value l = (l.place ≡ l.value-index) × (with_front l.rows.items (list_rows l.plan l.place (map value_tree (drop l.value-index l.values))) ≡ list_rows l.plan 0 (map value_tree l.values))
