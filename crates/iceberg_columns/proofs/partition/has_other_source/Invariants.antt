use Rattle.std.proofs.Common.{◌≡◌, false, take}
use Rattle.std.specs.Prelude.{is_none, option_and_then}
use Rattle.std.specs.List.{list_any}
use Rattle.iceberg_metadata.specs.Paths.{top_kind}
use Rattle.iceberg_columns.specs.PathMaps.{path_at}
use Rattle.iceberg_columns.proofs.partition.has_other_source.Given as goal

abbrev pub invariant-loop-field : goal.invariant-loop-field
invariant-loop-field l = list_any (λ f. is_none (option_and_then (top_kind l.schema) (path_at l.paths f.source_id))) (take l.field-index l.fields) ≡ false
