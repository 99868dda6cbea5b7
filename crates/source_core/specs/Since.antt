-- The commits of a source after a position.
use Rattle.std.specs.Prelude.{◌≡◌, ℕ, List, [], ◌∷◌}
use Rattle.table_history.specs.Tables.{CanApply, IsAfter}
use Rattle.table_history.specs.declared.table.Commit.{Commit}
use Rattle.table_history.specs.declared.table.Table.{Table}
use Rattle.target_core.specs.Conditions.{IsPublishable}
use Rattle.source_core.specs.declared.error.SourceError.{SourceError}
use Rattle.source_core.specs.declared.error.SourceError.TheVariants.{Memory, Absent, Malformed, Unsupported, Limit, StoreFault}
use Rattle.source_core.specs.declared.since.Since.{Since}
use Rattle.source_core.specs.declared.since.Since.TheVariants.{Commits, NotReached}

-- They are told exactly where all of them are there.
abbrev pub IsSinceAnswer : Type 0 → (List Commit → Type 0) → Since → Type 0
IsSinceAnswer reached is_since (Commits commits) = reached × is_since commits
IsSinceAnswer reached is_since NotReached = ¬ reached

-- Want of memory and a fault of the store have no cause in the files. What has one is told only where all of them are there.
abbrev pub IsSinceRefusal : Type 0 → (SourceError → Type 0) → SourceError → Type 0
IsSinceRefusal reached shows Memory = Unit {0}
IsSinceRefusal reached shows Absent = ⊥
IsSinceRefusal reached shows (Malformed path) = reached × shows (Malformed path)
IsSinceRefusal reached shows (Unsupported feature path) = reached × shows (Unsupported feature path)
IsSinceRefusal reached shows (Limit which number) = reached × shows (Limit which number)
IsSinceRefusal reached shows StoreFault = Unit {0}

-- Each change fits the table that the commits before it make of this one, and the table after it may be published.
abbrev pub CanApplyAll : Table → List Commit → Type 0
CanApplyAll before [] = Unit {0}
CanApplyAll before (commit ∷ commits) =
    CanApply before commit.change × ((after : Table) → IsAfter before commit.change after → IsPublishable after × CanApplyAll after commits)

-- Each change fits the table that the commits before it make of this one, whatever may be published.
abbrev pub FitAll : Table → List Commit → Type 0
FitAll before [] = Unit {0}
FitAll before (commit ∷ commits) = CanApply before commit.change × ((after : Table) → IsAfter before commit.change after → FitAll after commits)

abbrev pub FitSince : Table → Since → Type 0
FitSince before (Commits commits) = FitAll before commits
FitSince before NotReached = Unit {0}

abbrev pub CanApplySince : Table → Since → Type 0
CanApplySince before (Commits commits) = CanApplyAll before commits
CanApplySince before NotReached = Unit {0}

-- The last of the commits after this position has the head's, and without one this is the head's.
abbrev pub EndAt : List ℕ → List ℕ → List Commit → Type 0
EndAt head position [] = position ≡ head
EndAt head position (commit ∷ commits) = EndAt head commit.position commits
