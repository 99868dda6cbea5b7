use Rattle.std.proofs.Common.{◌≡◌, drop, option_and_then}
use Rattle.lake_basics.specs.Outcome.{each, required, with_front}
use Rattle.iceberg_columns.specs.PathMaps.{path_at}
use Rattle.iceberg_columns.specs.SourceColumns.{top_column}
use Rattle.iceberg_metadata.specs.declared.error.MetadataError.TheVariants.{PartitionType}
use Rattle.iceberg_metadata.specs.declared.metadata.SpecField.{SpecField}
use Rattle.iceberg_columns.proofs.columns.columns_at.Given as goal

abbrev pub invariant-loop-field : goal.invariant-loop-field
invariant-loop-field l = with_front l.columns (each (λ (f : SpecField). required PartitionType (option_and_then (top_column l.schema f) (path_at l.paths f.source_id))) (drop l.field-index l.fields)) ≡ each (λ (f : SpecField). required PartitionType (option_and_then (top_column l.schema f) (path_at l.paths f.source_id))) l.fields
