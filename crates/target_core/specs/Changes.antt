-- When two changes are one as far as a commit's rows go.
use Rattle.std.specs.Prelude.{◌↔◌, ℕ, List, Contains}
use Rattle.table_history.specs.Rows.{HasPath, SameRows}
use Rattle.table_history.specs.declared.table.Change.{Change}

-- the path is removed and not added again
abbrev pub IsGone : Change → List ℕ → Type 0
IsGone change path = Contains change.removed path × ¬ HasPath change.added path

-- They add the same rows, and the same paths are gone.
pub record SameRowChange (a b : Change) : Type 0 where
  pub added : SameRows a.added b.added
  pub gone : (path : List ℕ) → IsGone a path ↔ IsGone b path
