use Rattle.std.proofs.Common.{◌≡◌, drop}
use Rattle.std.specs.List.{list_all}
use Rattle.iceberg_metadata.specs.Schemas.{HeldSchema}
use Rattle.iceberg_version.specs.Sound.{is_under}
use Rattle.target_iceberg.proofs.form.are_under.Given as goal

abbrev pub invariant-loop-schema : goal.invariant-loop-schema
invariant-loop-schema l = list_all (λ (s : HeldSchema). is_under l.count s.0) (drop l.schema-index l.schemas) ≡ list_all (λ (s : HeldSchema). is_under l.count s.0) l.schemas
