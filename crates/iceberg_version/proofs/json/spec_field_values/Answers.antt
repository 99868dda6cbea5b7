use Rattle.serde_json.specs.View.{view}
use Rattle.iceberg_metadata.specs.Writing.{spec_field_data}
use Rattle.iceberg_version.proofs.json.spec_field_values.Goals as goal
use Rattle.lake_basics.proofs.Lists.{mapped_more, next_of}

pub loop-field-preserved : goal.loop-field-preserved
loop-field-preserved c =
    let xs = c.args.fields.now in
    let k = c.loop-field.field-index in
    let next = next_of xs k c.field-item.result c.loop-field-test.true c.field-item.is in
    mapped_more view spec_field_data c.loop-field.values.items _ c.in_ok-spec_field_value.field-0 xs k c.field-item.result c.in_ok-push.ensures.items c.in_ok-spec_field_value.ensures next c.loop-field.invariant
