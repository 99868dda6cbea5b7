use Rattle.std.proofs.Common.{◌≡◌, ℕ, List, ◌++◌, ◌⊎◌, Contains}
use Rattle.std.specs.List.{IsDistinct}
use Rattle.std.specs.Str.{bytes_eq}
use Rattle.hudi_groups.specs.GroupIndex.{paths_at, rows_by_index}
use Rattle.hudi_groups.proofs.index.rows_by_index.Given as goal

-- what is left to look up ends what is found, and the paths of each group that is done are distinct
abbrev pub invariant-loop-group : goal.invariant-loop-group
invariant-loop-group l =
    (l.found.items ++ rows_by_index l.rows l.index l.group-iterator ≡ rows_by_index l.rows l.index l.initial.group-iterator)
    × ((k : List ℕ) → Contains l.initial.group-iterator k → Contains l.group-iterator k ⊎ IsDistinct bytes_eq (paths_at l.index k))
