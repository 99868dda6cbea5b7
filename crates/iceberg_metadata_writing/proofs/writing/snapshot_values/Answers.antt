use Rattle.serde_json.specs.View.{view}
use Rattle.iceberg_metadata.specs.Writing.{snapshot_data, SnapshotFits}
use Rattle.iceberg_metadata_writing.proofs.writing.snapshot_values.Goals as goal
use Rattle.lake_basics.proofs.Lists.{holds_more, mapped_more, next_of}

pub loop-snapshot-preserved : goal.loop-snapshot-preserved
loop-snapshot-preserved c =
    let xs = c.args.snapshots.now in
    let k = c.loop-snapshot.snapshot-index in
    let next = next_of xs k c.snapshot-item.result c.loop-snapshot-test.true c.snapshot-item.is in
    record {
      value = mapped_more view snapshot_data c.loop-snapshot.values.items _ c.in_ok-snapshot_value.field-0 xs k c.snapshot-item.result c.in_ok-push.ensures.items c.in_ok-snapshot_value.ensures.value next c.loop-snapshot.invariant.value;
      fit = holds_more SnapshotFits xs k c.snapshot-item.result next c.in_ok-snapshot_value.ensures.fits c.loop-snapshot.invariant.fit;
    }
