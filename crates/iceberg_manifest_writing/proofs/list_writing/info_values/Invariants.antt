use Rattle.std.proofs.Common.{◌≡◌, ◌++◌, drop, map}
use Rattle.std.specs.List.{AllByRecursion}
use Rattle.avro_value.specs.ValueTree.{value_tree}
use Rattle.iceberg_manifest.specs.ListWriting.{info_tree, HasInts}
use Rattle.iceberg_manifest_writing.proofs.list_writing.info_values.Given as goal

abbrev pub invariant-loop-info : goal.invariant-loop-info
invariant-loop-info l = record {
  trees : map value_tree l.values.items ++ map info_tree (drop l.info-index l.infos) ≡ map info_tree l.infos;
  ints : AllByRecursion HasInts (drop l.info-index l.infos) → AllByRecursion HasInts l.infos;
}
