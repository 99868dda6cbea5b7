use Rattle.std.proofs.Common.{◌≡◌, drop}
use Rattle.iceberg_metadata.specs.Paths.{held_schema}
use Rattle.target_iceberg.proofs.fitting.schema_of.Given as goal

abbrev pub invariant-loop-held : goal.invariant-loop-held
invariant-loop-held l = held_schema (drop l.held-index l.schemas) l.id ≡ held_schema l.schemas l.id
