use Rattle.std.proofs.Common.{◌≡◌, ◌++◌}
use Rattle.hudi_groups.specs.GroupIndex.{rows_among}
use Rattle.hudi_groups.proofs.index.with_rows_at.Given as goal

-- what is left to look up ends what is found
abbrev pub invariant-loop-path : goal.invariant-loop-path
invariant-loop-path l = l.all.items ++ rows_among l.rows l.group l.path-iterator ≡ l.initial.all.items ++ rows_among l.rows l.group l.initial.path-iterator
