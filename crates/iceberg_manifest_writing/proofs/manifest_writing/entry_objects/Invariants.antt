use Rattle.std.proofs.Common.{◌≡◌, ◌++◌, drop, map}
use Rattle.std.specs.List.{AllByRecursion}
use Rattle.avro_value.specs.Fitting.{AreSound}
use Rattle.avro_value.specs.ValueTree.{values_of}
use Rattle.avro_value.specs.Writing.{values_encoding}
use Rattle.iceberg_manifest.specs.ManifestWriting.{entry_tree, HasRanges}
use Rattle.iceberg_manifest_writing.specs.RowEntries.{entry_in}
use Rattle.iceberg_manifest_writing.proofs.manifest_writing.entry_objects.Given as goal

abbrev pub invariant-loop-entry : goal.invariant-loop-entry
invariant-loop-entry l = record {
  bytes : l.out.items ++ values_encoding (values_of (map entry_tree (map (entry_in l.front) (drop l.entry-index l.entries)))) ≡ values_encoding (values_of (map entry_tree (map (entry_in l.front) l.entries)));
  sound : AreSound (values_of (map entry_tree (map (entry_in l.front) (drop l.entry-index l.entries)))) → AreSound (values_of (map entry_tree (map (entry_in l.front) l.entries)));
  ranges : AllByRecursion HasRanges (map (entry_in l.front) (drop l.entry-index l.entries)) → AllByRecursion HasRanges (map (entry_in l.front) l.entries);
}
