use Rattle.avro_value.specs.ValueTree.{value_tree}
use Rattle.iceberg_manifest.specs.ListWriting.{info_tree, HasInts}
use Rattle.iceberg_manifest_writing.proofs.list_writing.info_values.Goals as goal
use Rattle.lake_basics.proofs.Lists.{holds_more, mapped_more, next_of}

pub loop-info-preserved : goal.loop-info-preserved
loop-info-preserved c =
    let is = c.args.infos.now in
    let k = c.loop-info.info-index in
    let next = next_of is k c.info-item.result c.loop-info-test.true c.info-item.is in
    record {
      trees = mapped_more value_tree info_tree c.loop-info.values.items _ c.in_ok-info_value.field-0 is k c.info-item.result c.in_ok-push.ensures.items c.in_ok-info_value.ensures.tree next c.loop-info.invariant.trees;
      ints = holds_more HasInts is k c.info-item.result next c.in_ok-info_value.ensures.ints c.loop-info.invariant.ints;
    }
