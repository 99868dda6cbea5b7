use Rattle.std.proofs.Common.{◌+◌, drop}
use Rattle.std.specs.Prelude.{◌↔◌}
use Rattle.std.specs.List.{zip}
use Rattle.iceberg_version.specs.Schemas.{FIRST_PARTITION_ID}
use Rattle.target_iceberg.specs.FormSteps.{AreFields}
use Rattle.target_iceberg.proofs.form.are_fields.Given as goal

abbrev pub invariant-loop-place : goal.invariant-loop-place
invariant-loop-place l = AreFields (zip l.paths l.ids) (FIRST_PARTITION_ID + l.place) (drop l.place l.fields) ↔ AreFields (zip l.paths l.ids) FIRST_PARTITION_ID l.fields
