use Rattle.serde_json.specs.View.{view}
use Rattle.iceberg_metadata.specs.Writing.{schema_data, SchemaFits}
use Rattle.iceberg_metadata_writing.proofs.writing.schema_values.Goals as goal
use Rattle.lake_basics.proofs.Lists.{holds_more, mapped_more, next_of}

pub loop-schema-preserved : goal.loop-schema-preserved
loop-schema-preserved c =
    let xs = c.args.schemas.now in
    let k = c.loop-schema.schema-index in
    let next = next_of xs k c.schema-item.result c.loop-schema-test.true c.schema-item.is in
    record {
      value = mapped_more view schema_data c.loop-schema.values.items _ c.in_ok-schema_value.field-0 xs k c.schema-item.result c.in_ok-push.ensures.items c.in_ok-schema_value.ensures.value next c.loop-schema.invariant.value;
      fit = holds_more SchemaFits xs k c.schema-item.result next c.in_ok-schema_value.ensures.fits c.loop-schema.invariant.fit;
    }
