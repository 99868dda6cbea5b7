use Rattle.std.proofs.Common.{◌≡◌, ℕ, ◌||◌, List, take}
use Rattle.std.specs.List.{list_any}
use Rattle.hudi_groups.specs.GroupSets.{has_group, names_group}
use Rattle.hudi_groups.proofs.groups.with_replaced.Given as goal

abbrev pub invariant-loop-pair : goal.invariant-loop-pair
invariant-loop-pair l = (q : List ℕ) → has_group l.all q ≡ (has_group l.fn.groups q || list_any (names_group q) (take l.pair-index l.replaced))
