use Rattle.std.proofs.Common.{◌≡◌, drop, map}
use Rattle.avro_schema.specs.Tree.{field_of, fields_of as field_trees}
use Rattle.iceberg_manifest.specs.Fields.{first_from, first_of}
use Rattle.iceberg_manifest_reading.proofs.field.first.Given as goal

abbrev pub invariant-loop-field : goal.invariant-loop-field
invariant-loop-field l = (l.place ≡ l.field-index) × (first_from l.place l.id (field_trees (map field_of (drop l.field-index l.fields.items))) ≡ first_of l.id (field_trees (map field_of l.fields.items)))
