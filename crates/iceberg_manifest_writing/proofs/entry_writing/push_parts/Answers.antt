use Rattle.std.proofs.Common.{◌+◌, drop}
use Rattle.partition_map.specs.Avro.{avro_value_of}
use Rattle.iceberg_manifest_writing.proofs.StepLemmas.{encoded_more, sound_more}
use Rattle.iceberg_manifest_writing.proofs.entry_writing.push_parts.Goals as goal
use Rattle.lake_basics.proofs.Lists.{next_of}

pub loop-value-preserved : goal.loop-value-preserved
loop-value-preserved c =
    let vs = c.args.values.now in
    let k = c.loop-value.value-index in
    let next = next_of vs k c.value-item.result c.loop-value-test.true c.value-item.is in
    record {
      bytes = encoded_more avro_value_of c.loop-value.out.items _ c.value-item.result (drop k vs) (drop (k + 1) vs) _ c.in_ok-push_part.ensures.bytes next c.loop-value.invariant.bytes;
      sound = sound_more avro_value_of c.value-item.result (drop k vs) (drop (k + 1) vs) vs next c.in_ok-push_part.ensures.sound c.loop-value.invariant.sound;
    }
