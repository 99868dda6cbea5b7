use Rattle.std.proofs.Common.{◌≡◌, ◌++◌, drop, map}
use Rattle.std.specs.List.{AllByRecursion}
use Rattle.avro_schema.specs.Tree.{field_of}
use Rattle.iceberg_manifest.specs.ManifestWriting.{HasId}
use Rattle.iceberg_manifest.specs.WrittenTypes.{part_fields}
use Rattle.iceberg_manifest_writing.proofs.schema.part_fields.Given as goal

abbrev pub invariant-loop-place : goal.invariant-loop-place
invariant-loop-place l = record {
  fields : map field_of l.fields.items ++ part_fields (drop l.place l.columns) (drop l.place l.names) ≡ part_fields l.columns l.names;
  ids : AllByRecursion HasId (drop l.place l.columns) → AllByRecursion HasId l.columns;
}
