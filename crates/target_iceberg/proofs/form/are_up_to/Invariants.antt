use Rattle.std.proofs.Common.{drop}
use Rattle.std.specs.Prelude.{◌↔◌}
use Rattle.std.specs.List.{AllByRecursion}
use Rattle.target_iceberg.specs.FormSteps.{IsUpTo}
use Rattle.target_iceberg.proofs.form.are_up_to.Given as goal

abbrev pub invariant-loop-snapshot : goal.invariant-loop-snapshot
invariant-loop-snapshot l = AllByRecursion (IsUpTo l.version) (drop l.snapshot-index l.snapshots) ↔ AllByRecursion (IsUpTo l.version) l.snapshots
