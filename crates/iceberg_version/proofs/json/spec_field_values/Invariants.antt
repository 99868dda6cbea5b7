use Rattle.std.proofs.Common.{◌≡◌, ◌++◌, drop, map}
use Rattle.serde_json.specs.View.{view}
use Rattle.iceberg_metadata.specs.Writing.{spec_field_data}
use Rattle.iceberg_version.proofs.json.spec_field_values.Given as goal

abbrev pub invariant-loop-field : goal.invariant-loop-field
invariant-loop-field l = map view l.values.items ++ map spec_field_data (drop l.field-index l.fields) ≡ map spec_field_data l.fields
