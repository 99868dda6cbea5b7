use Rattle.std.proofs.Common.{◌≡◌, ◌++◌, drop, map}
use Rattle.std.specs.List.{AllByRecursion}
use Rattle.serde_json.specs.View.{view}
use Rattle.iceberg_metadata.specs.Writing.{spec_field_data, FieldFits}
use Rattle.iceberg_metadata_writing.proofs.writing.spec_field_values.Given as goal

abbrev pub invariant-loop-field : goal.invariant-loop-field
invariant-loop-field l = record {
  value : map view l.values.items ++ map spec_field_data (drop l.field-index l.fields) ≡ map spec_field_data l.fields;
  fit : AllByRecursion FieldFits (drop l.field-index l.fields) → AllByRecursion FieldFits l.fields;
}
