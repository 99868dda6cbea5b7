use Rattle.std.proofs.Common.{drop}
use Rattle.std.specs.Prelude.{◌↔◌}
use Rattle.std.specs.List.{AllByRecursion}
use Rattle.target_iceberg.specs.FormSteps.{IsGiven}
use Rattle.target_iceberg.proofs.form.are_given.Given as goal

abbrev pub invariant-loop-schema : goal.invariant-loop-schema
invariant-loop-schema l = AllByRecursion (IsGiven l.last) (drop l.schema-index l.schemas) ↔ AllByRecursion (IsGiven l.last) l.schemas
