use Rattle.std.proofs.Common.{◌≡◌, drop}
use Rattle.iceberg_metadata.specs.Paths.{held_schema}
use Rattle.iceberg_metadata.proofs.held.schema_of_id.Given as goal

abbrev pub invariant-loop-schema : goal.invariant-loop-schema
invariant-loop-schema l = held_schema (drop l.schema-index l.schemas) l.id ≡ held_schema l.schemas l.id
