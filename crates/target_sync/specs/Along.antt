-- Where a sync leaves a target in each history of its table that the source's files hold.
use Rattle.std.specs.Prelude.{◌≡◌, ◌⊎◌, ◌≤◌, ◌+◌, ℕ, Bool, false, true, List, [], ◌∷◌, Contains, drop, length, slice_get, Option, Some}
use Rattle.lake_store.specs.Disk.{Files}
use Rattle.lake_store.specs.Runs.{IsEachMoment}
use Rattle.lake_store.specs.declared.store.Store.{Ghosts}
use Rattle.source_core.specs.Histories.{IsAt, IsLast, LeadAlong, ShowsEntry}
use Rattle.source_core.specs.declared.head.Head.{Head}
use Rattle.table_history.specs.History.{History, IsHistory, positions_of}
use Rattle.table_history.specs.Rows.{SameRows}
use Rattle.table_history.specs.Tables.{IsDiff}
use Rattle.table_history.specs.declared.kind.Kind.{Kind}
use Rattle.table_history.specs.declared.table.Commit.{Commit}
use Rattle.table_history.specs.declared.table.Table.{Table}
use Rattle.target_core.specs.Conditions.{GoesOn}
use Rattle.target_core.specs.Gained.{Gained}
use Rattle.target_core.specs.Meaning.{Meaning}
use Rattle.target_core.specs.Views.{IsUnpublished, Standing, View}
use Rattle.target_sync.specs.Answered.{Answer, IsDone, IsSync, IsUndisturbed}
use Rattle.target_sync.specs.Dues.{Due, IsMarked, IsWhole, MayBeSame, TakesCommits, origin_of}
use Rattle.target_sync.specs.Sources.{SourceMeaning}
use Rattle.target_sync.specs.Synced.{IsAsBefore, with_columns}
use Rattle.target_sync.specs.Targets.{TargetFacts}
use Rattle.target_sync.specs.declared.plan.Mode.{Mode}

-- How far so many of the commits that are due lead from the k-th table: since a mark one table with each, in full nowhere with none and to the last
-- table with the only one.
abbrev pub LeadsAsFar : Bool → History → ℕ → ℕ → ℕ → Type 0
LeadsAsFar false history k count j = j ≡ k + count
LeadsAsFar true history k count j = ((count ≡ 0) × (j ≡ k)) ⊎ ((count ≡ 1) × (j ≡ length history))

-- The target has gained as many of the commits that are due as lead from the k-th table to the j-th, and no other one.
pub record HasGoneTo (source : SourceMeaning) (target : Meaning) (mode : Mode) (history : History) (k j : ℕ) (start : View) (before files : Files) : Type 0 where
  pub due : Due source mode before start
  pub columns : (due.partition ≡ start.table.partition) ⊎ IsUnpublished start
  pub count : ℕ
  pub gained : Gained target (origin_of due) (with_columns due.partition start) before due.commits count files
  pub as_far : LeadsAsFar due.full history k count j

-- The target stands at a table of the history that isn't before the k-th, at which it stood with the view `start`. It has the commits that it had, and
-- just those more that lead there.
pub record StandsFrom (source : SourceMeaning) (target : Meaning) (mode : Mode) (history : History) (k : ℕ) (start : View) (before files : Files) : Type 0 where
  pub j : ℕ
  pub from : k ≤ j
  pub within : j ≤ length history
  pub at : IsAt source.kind target history files j
  pub by : ((j ≡ k) × IsAsBefore target start before files) ⊎ HasGoneTo source target mode history k j start before files

-- The view has the rows, the partition columns and the schema, as the target's types hold it, of the table that the source's files make, read from
-- scratch, where they can be read so.
abbrev pub HasEachTable : SourceMeaning → Meaning → Files → View → Type 0
HasEachTable source target before view = (table : Table) → source.is_table before table → SameRows view.table.rows table.rows × (view.table.partition ≡ table.partition) × (target.image table.schema ≡ Some view.table.schema)

-- It stands at the last table, whichever way it took.
pub record IsAtLast (source : SourceMeaning) (target : Meaning) (history : History) (before files : Files) : Type 0 where
  pub at : IsAt source.kind target history files (length history)
  pub equals : HasEachTable source target before at.view

-- From the k-th table of the history the target goes on along it by the commits that are due, and no crash takes it back. A target that is done stands
-- at the last.
pub record GoesOnAlong {S : Type 0} (store : Ghosts S) (source : SourceMeaning) (target : Meaning) (mode : Mode) (history : History) (k : ℕ) (start : View) (Uncontested Done : Type 0) (old new : S) : Type 0 where
  pub at_return : Uncontested → StandsFrom source target mode history k start (store.disk old).files (store.disk new).files
  pub moments : Uncontested → IsEachMoment store old new (StandsFrom source target mode history k start (store.disk old).files)
  pub done : Done → IsAtLast source target history (store.disk old).files (store.disk new).files
  pub since : Done → (image : Files) → store.left_since new (store.time new) image → IsAtLast source target history (store.disk old).files image

-- One commit, with the last position and with what differs between the target's rows and those of the last table.
pub record IsToLast (history : History) (start : View) (commits : List Commit) : Type 0 where
  pub entry : List ℕ × Table
  pub last : IsLast history entry
  pub commit : Commit
  pub only : commits ≡ commit ∷ []
  pub position : commit.position ≡ entry.0
  pub rows : IsDiff start.table.rows entry.1.rows commit.change.removed commit.change.added

-- The target has gained exactly the one commit that is due in full, and stands at the last table.
pub record HasEnded (source : SourceMeaning) (target : Meaning) (mode : Mode) (history : History) (start : View) (before files : Files) : Type 0 where
  pub due : Due source mode before start
  pub full : due.full ≡ true
  pub only : IsToLast history start due.commits
  pub columns : (due.partition ≡ start.table.partition) ⊎ IsUnpublished start
  pub gained : Gained target (origin_of due) (with_columns due.partition start) before due.commits 1 files
  pub last : IsAtLast source target history before files

-- the target is as it was, with no commit more, or has ended at the last table
abbrev pub StaysOrEnds : SourceMeaning → Meaning → Mode → History → View → Files → Files → Type 0
StaysOrEnds source target mode history start before files = IsAsBefore target start before files ⊎ HasEnded source target mode history start before files

-- A target that takes the whole table stays as it was until it stands at the last one, wherever it stood.
pub record EndsAlong {S : Type 0} (store : Ghosts S) (source : SourceMeaning) (target : Meaning) (mode : Mode) (history : History) (start : View) (Uncontested Done : Type 0) (old new : S) : Type 0 where
  pub at_return : Uncontested → StaysOrEnds source target mode history start (store.disk old).files (store.disk new).files
  pub moments : Uncontested → IsEachMoment store old new (StaysOrEnds source target mode history start (store.disk old).files)
  pub done : Done → HasEnded source target mode history start (store.disk old).files (store.disk new).files
  pub since : Done → (image : Files) → store.left_since new (store.time new) image → HasEnded source target mode history start (store.disk old).files image

-- The mark and the source both state the id of the source's table, and the two differ.
pub record IsOfAnotherTable (source : SourceMeaning) (files : Files) (standing : Standing) : Type 0 where
  pub head : Head
  pub is_head : source.is_head files head
  pub other : ¬ MayBeSame head.table standing.origin.table

-- A target of the source's format is astray: its newest mark is of another table, or the history has no such position.
pub record IsAstray (source : SourceMeaning) (history : History) (files : Files) (start : View) : Type 0 where
  pub standing : Standing
  pub mark : start.mark ≡ Some standing
  pub format : standing.origin.source ≡ source.kind
  pub strays : IsOfAnotherTable source files standing ⊎ ¬ Contains (positions_of history) standing.to

-- So it goes in each history that the source's files hold. The commits that are due since a mark are one for each later table, with what differs
-- between that table and the one before it; in full one commit is due.
pub record IsAlong {S : Type 0} (store : Ghosts S) (source : SourceMeaning) (target : Meaning) (mode : Mode) (old new : S) (answer : Answer) : Type 0 where
  pub goes : store.tells → (history : History) → IsHistory history → source.holds (store.disk old).files history → (k : ℕ) → (at : IsAt source.kind target history (store.disk old).files k) → target.settled (store.disk old)
      → GoesOnAlong store source target mode history k at.view (IsUndisturbed answer) (IsDone answer) old new
  pub ends : store.tells → (history : History) → IsHistory history → source.holds (store.disk old).files history → (start : View) → target.reads (store.disk old).files start → GoesOn source.kind start → target.settled (store.disk old)
      → ¬ TakesCommits source mode (store.disk old).files start → EndsAlong store source target mode history start (IsUndisturbed answer) (IsDone answer) old new
  pub each_once : store.tells → (history : History) → IsHistory history → source.holds (store.disk old).files history → (k : ℕ) (entry : List ℕ × Table) → slice_get history k ≡ Some entry → (start : View) → ShowsEntry source.kind target.image entry start
      → (due : Due source mode (store.disk old).files start) → due.full ≡ false → LeadAlong entry.1 (drop (k + 1) history) due.commits
  pub in_full : store.tells → (history : History) → IsHistory history → source.holds (store.disk old).files history → (start : View) (due : Due source mode (store.disk old).files start) → due.full ≡ true → IsToLast history start due.commits
  -- The history since the mark of a target that is astray isn't whole, so what `ends` says is so of it: it stands as it was until it stands at the last.
  pub astray : store.tells → (history : History) → IsHistory history → source.holds (store.disk old).files history → (start : View) → target.reads (store.disk old).files start → IsAstray source history (store.disk old).files start
      → (¬ IsMarked start (IsWhole source (store.disk old).files)) × (target.settled (store.disk old) → EndsAlong store source target mode history start (IsUndisturbed answer) (IsDone answer) old new)

-- A sync of one target, by what is due and by each history. The command may name another target.
pub record IsWholeSync {S : Type 0} (store : Ghosts S) (source : SourceMeaning) (target : TargetFacts) (other : Option Kind) (mode : Mode) (now : ℕ) (old new : S) (answer : Answer) : Type 0 where
  pub sync : IsSync store source target other mode now old new answer
  pub along : IsAlong store source target.files mode old new answer
