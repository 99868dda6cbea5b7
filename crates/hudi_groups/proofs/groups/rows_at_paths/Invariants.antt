use Rattle.std.proofs.Common.{◌≡◌, ◌++◌}
use Rattle.hudi_groups.specs.GroupSets.{rows_at_paths}
use Rattle.hudi_groups.proofs.groups.rows_at_paths.Given as goal

-- what is left to look up ends what is found
abbrev pub invariant-loop-group : goal.invariant-loop-group
invariant-loop-group l = l.found.items ++ rows_at_paths l.form l.rows l.group-iterator ≡ rows_at_paths l.form l.rows l.initial.group-iterator
