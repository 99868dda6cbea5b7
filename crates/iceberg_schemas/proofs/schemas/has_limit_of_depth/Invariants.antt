use Rattle.std.proofs.Common.{◌≡◌, drop}
use Rattle.std.specs.List.{list_any}
use Rattle.iceberg_metadata.specs.Judging.{is_limit_of_depth}
use Rattle.iceberg_metadata.specs.Schemas.{refusals}
use Rattle.iceberg_schemas.proofs.schemas.has_limit_of_depth.Given as goal

abbrev pub invariant-loop-schema : goal.invariant-loop-schema
invariant-loop-schema l = list_any is_limit_of_depth (refusals (drop l.schema-index l.unread)) ≡ list_any is_limit_of_depth (refusals l.unread)
