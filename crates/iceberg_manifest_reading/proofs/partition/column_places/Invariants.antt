use Rattle.std.proofs.Common.{◌≡◌, drop, map}
use Rattle.lake_basics.specs.Outcome.{each, with_front}
use Rattle.avro_schema.specs.Tree.{field_of, fields_of as field_trees}
use Rattle.iceberg_manifest.specs.Partition.{column_place}
use Rattle.iceberg_manifest_reading.proofs.partition.column_places.Given as goal

abbrev pub invariant-loop-column : goal.invariant-loop-column
invariant-loop-column l = with_front l.places.items (each (column_place (field_trees (map field_of l.fields.items))) (drop l.column-index l.columns)) ≡ each (column_place (field_trees (map field_of l.fields.items))) l.columns
