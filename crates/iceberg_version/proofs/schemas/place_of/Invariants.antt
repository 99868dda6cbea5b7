use Rattle.std.proofs.Common.{◌≡◌, drop}
use Rattle.iceberg_metadata.specs.Paths.{held_schema}
use Rattle.iceberg_version.proofs.schemas.place_of.Given as goal

abbrev pub invariant-loop-place : goal.invariant-loop-place
invariant-loop-place l = held_schema (drop l.place l.schemas) l.id ≡ held_schema l.schemas l.id
