use Rattle.serde_json.specs.View.{view}
use Rattle.iceberg_metadata.specs.Writing.{spec_field_data, FieldFits}
use Rattle.iceberg_metadata_writing.proofs.writing.spec_field_values.Goals as goal
use Rattle.lake_basics.proofs.Lists.{holds_more, mapped_more, next_of}

pub loop-field-preserved : goal.loop-field-preserved
loop-field-preserved c =
    let xs = c.args.fields.now in
    let k = c.loop-field.field-index in
    let next = next_of xs k c.field-item.result c.loop-field-test.true c.field-item.is in
    record {
      value = mapped_more view spec_field_data c.loop-field.values.items _ c.in_ok-spec_field_value.field-0 xs k c.field-item.result c.in_ok-push.ensures.items c.in_ok-spec_field_value.ensures.value next c.loop-field.invariant.value;
      fit = holds_more FieldFits xs k c.field-item.result next c.in_ok-spec_field_value.ensures.fits c.loop-field.invariant.fit;
    }
