use Rattle.std.proofs.Common.{ℤ, ◌≤ℤ◌, drop}
use Rattle.std.specs.Prelude.{◌↔◌}
use Rattle.std.specs.List.{AllByRecursion}
use Rattle.target_iceberg.proofs.form.are_within.Given as goal

abbrev pub invariant-loop-id : goal.invariant-loop-id
invariant-loop-id l = AllByRecursion (λ (id : ℤ). id ≤ℤ l.last) (drop l.id-index l.ids) ↔ AllByRecursion (λ (id : ℤ). id ≤ℤ l.last) l.ids
