use Rattle.std.proofs.Common.{◌≡◌, take}
use Rattle.iceberg_metadata.specs.Paths.{sources}
use Rattle.iceberg_columns.proofs.partition.source_ids.Given as goal

abbrev pub invariant-loop-field : goal.invariant-loop-field
invariant-loop-field l = l.ids.items ≡ sources (take l.field-index l.fields)
