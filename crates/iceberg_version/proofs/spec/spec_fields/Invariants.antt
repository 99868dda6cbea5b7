use Rattle.std.proofs.Common.{◌≡◌, length, take}
use Rattle.iceberg_version.specs.Schemas.{AreSpecFields, FIRST_PARTITION_ID}
use Rattle.iceberg_version.proofs.spec.spec_fields.Given as goal

abbrev pub invariant-loop-place : goal.invariant-loop-place
invariant-loop-place l = AreSpecFields l.schema FIRST_PARTITION_ID (take l.place l.partition) l.fields × (length l.fields ≡ l.place)
