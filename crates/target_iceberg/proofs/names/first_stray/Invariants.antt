use Rattle.std.proofs.Common.{ℕ, List, take, Contains}
use Rattle.target_iceberg.specs.Leftovers.{IsLeftoverName}
use Rattle.target_iceberg.proofs.names.first_stray.Given as goal

abbrev pub invariant-loop-name : goal.invariant-loop-name
invariant-loop-name l = (name : List ℕ) → Contains (take l.name-index l.names) name → IsLeftoverName name
