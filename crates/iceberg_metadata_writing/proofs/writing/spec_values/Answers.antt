use Rattle.serde_json.specs.View.{view}
use Rattle.iceberg_metadata.specs.Writing.{spec_data, SpecFits}
use Rattle.iceberg_metadata_writing.proofs.writing.spec_values.Goals as goal
use Rattle.lake_basics.proofs.Lists.{holds_more, mapped_more, next_of}

pub loop-spec-preserved : goal.loop-spec-preserved
loop-spec-preserved c =
    let xs = c.args.specs.now in
    let k = c.loop-spec.spec-index in
    let next = next_of xs k c.spec-item.result c.loop-spec-test.true c.spec-item.is in
    record {
      value = mapped_more view spec_data c.loop-spec.values.items _ c.in_ok-spec_value.field-0 xs k c.spec-item.result c.in_ok-push.ensures.items c.in_ok-spec_value.ensures.value next c.loop-spec.invariant.value;
      fit = holds_more SpecFits xs k c.spec-item.result next c.in_ok-spec_value.ensures.fits c.loop-spec.invariant.fit;
    }
