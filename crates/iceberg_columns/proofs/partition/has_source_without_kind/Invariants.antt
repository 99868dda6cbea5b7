use Rattle.std.proofs.Common.{◌≡◌, false, take}
use Rattle.std.specs.Prelude.{is_none}
use Rattle.std.specs.List.{list_any}
use Rattle.iceberg_metadata.specs.Paths.{kind_at}
use Rattle.iceberg_columns.proofs.partition.has_source_without_kind.Given as goal

abbrev pub invariant-loop-field : goal.invariant-loop-field
invariant-loop-field l = list_any (λ f. is_none (kind_at l.kinds f.source_id)) (take l.field-index l.fields) ≡ false
