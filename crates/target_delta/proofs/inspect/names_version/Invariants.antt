use Rattle.std.proofs.Common.{ℕ, List, take, Contains}
use Rattle.delta_log.specs.VersionName.{IsVersionName}
use Rattle.target_delta.proofs.inspect.names_version.Given as goal

abbrev pub invariant-loop-name : goal.invariant-loop-name
invariant-loop-name l = (name : List ℕ) → Contains (take l.name-index l.names) name → IsVersionName name l.version → ⊥
