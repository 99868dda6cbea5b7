-- Where a target stands while it is brought to the source's head, and behind that.
use Rattle.std.specs.Prelude.{◌≡◌, ◌≢◌, ◌⊎◌, ◌+◌, ◌<◌, ◌≤◌, ℕ, true, List, length, take, Some}
use Rattle.lake_store.specs.Disk.{Files, IsClean}
use Rattle.lake_store.specs.Runs.{IsEachMoment, IsIn, LeavesAlone}
use Rattle.lake_store.specs.declared.store.Store.{Ghosts}
use Rattle.table_history.specs.Rows.{SameRows}
use Rattle.table_history.specs.declared.limit.LimitKind.{LimitKind}
use Rattle.table_history.specs.declared.limit.LimitKind.TheVariants.{Names}
use Rattle.table_history.specs.declared.table.Commit.{Commit}
use Rattle.table_history.specs.declared.table.Table.{Table}
use Rattle.target_core.specs.Folders.{after_crash, folder_of}
use Rattle.target_core.specs.Gained.{Carries, Gained, GainedSome, StillCarries}
use Rattle.target_core.specs.Meaning.{Meaning}
use Rattle.target_core.specs.Views.{IsUnpublished, Origin, SameView, View}
use Rattle.target_core.specs.Written.{IsAsLeft, KeepsTheirs, StayAfter}
use Rattle.target_sync.specs.Applied.{StayShown, position_at}
use Rattle.target_sync.specs.Dues.{Due, origin_of}
use Rattle.target_sync.specs.Sources.{SameSource, SourceMeaning}
use Rattle.target_sync.specs.declared.plan.Mode.{Mode}

-- The target reads as it did, and each commit carries what it carried.
pub record IsAsBefore (target : Meaning) (start : View) (before files : Files) : Type 0 where
  pub view : View
  pub same : SameView start view
  pub reads : target.reads files view
  pub earlier : StillCarries target start.commits before files

-- the view with these partition columns
abbrev pub with_columns : List (List ℕ) → View → View
with_columns partition view = record { commits = view.commits; mark = view.mark; table = record { schema = view.table.schema; partition = partition; rows = view.table.rows } }

-- The target has gained some first part of the commits that are due, each of which carries its own change and nothing more.
-- A target without a commit takes the source's partition columns over, and any other has them.
pub record IsUnderway (source : SourceMeaning) (target : Meaning) (mode : Mode) (start : View) (before files : Files) : Type 0 where
  pub due : Due source mode before start
  pub columns : (due.partition ≡ start.table.partition) ⊎ IsUnpublished start
  pub gained : GainedSome target (origin_of due) (with_columns due.partition start) before due.commits files

-- It has the source's rows and partition columns, and the source's schema as its types hold it.
pub record HasTable (source : SourceMeaning) (target : Meaning) (before : Files) (view : View) : Type 0 where
  pub table : Table
  pub is_table : source.is_table before table
  pub rows : SameRows view.table.rows table.rows
  pub partition : view.table.partition ≡ table.partition
  pub schema : target.image table.schema ≡ Some view.table.schema

-- The target has gained all commits that are due, and its mark has the position of the source's head. Where it took the whole table, it has that.
pub record IsAtHead (source : SourceMeaning) (target : Meaning) (mode : Mode) (start : View) (before files : Files) : Type 0 where
  pub due : Due source mode before start
  pub columns : (due.partition ≡ start.table.partition) ⊎ IsUnpublished start
  pub gained : Gained target (origin_of due) (with_columns due.partition start) before due.commits (length due.commits) files
  pub position : position_at gained.view.mark ≡ due.head.position
  pub in_full : due.full ≡ true → HasTable source target before gained.view

-- Over these files, publishing these commits of a source of these partition columns, whose marks say this of it, leaves these files.
abbrev pub Leaving : Type 1
Leaving = Files → List (List ℕ) → Origin → List Commit → Files → Type 0

-- Publishing the commits that are due ended with a refusal. The first so many of them left just what they write, and what they reach stays byte for byte
-- from then on. Unless another writer was in the way at most one more is published, and what commits reach is just what the published ones leave.
pub record IsStopped {S : Type 0} (store : Ghosts S) (source : SourceMeaning) (target : Meaning) (leaves : Leaving) (mode : Mode) (start : View) (Uncontested : Type 0) (before : Files) (new : S) : Type 0 where
  pub due : Due source mode before start
  pub columns : (due.partition ≡ start.table.partition) ⊎ IsUnpublished start
  pub place : ℕ
  pub within : place ≤ length due.commits
  pub left : StayAfter store target (leaves before due.partition (origin_of due) (take place due.commits)) new
  pub gained : Uncontested → (n : ℕ) × (place ≤ n) × (n ≤ place + 1) × Gained target (origin_of due) (with_columns due.partition start) before due.commits n (store.disk new).files
      × IsAsLeft target.reached (leaves before due.partition (origin_of due) (take n due.commits)) (store.disk new).files

-- Publishing one of the commits that are due met another writer's. Those before it left just what they write, and what they reach stays byte for byte
-- from then on; they stand, each with its own change, as does each that a crash at any moment would have shown. That writer's commit came after them and
-- stays byte for byte too. Nothing is published after it.
pub record IsContested {S : Type 0} (store : Ghosts S) (source : SourceMeaning) (target : Meaning) (leaves : Leaving) (mode : Mode) (start : View) (before : Files) (old new : S) : Type 0 where
  pub due : Due source mode before start
  pub columns : (due.partition ≡ start.table.partition) ⊎ IsUnpublished start
  pub place : ℕ
  pub within : place < length due.commits
  pub published : Carries target (origin_of due) start.commits due.commits place (store.disk new).files
  pub left : StayAfter store target (leaves before due.partition (origin_of due) (take place due.commits)) new
  pub newest : target.commits_in (store.disk new).files ≤ start.commits + place + 1
  pub stay : IsEachMoment store old new (StayShown target (origin_of due) start.commits due.commits (store.disk new).files)
  pub theirs : KeepsTheirs store target left.middle new

-- Publishing one of the commits that are due passes this number. The target has gained those before it, and not that one. They left just what they
-- write, and what they reach stays byte for byte from then on. Where it isn't the number of names, there are some before it, and no file of the target has
-- changed since.
pub record IsLimited {S : Type 0} (store : Ghosts S) (source : SourceMeaning) (target : Meaning) (passes : Files → List (List ℕ) → Origin → List Commit → LimitKind → ℕ → Type 0) (leaves : Leaving) (mode : Mode) (start : View) (before : Files) (new : S) (which : LimitKind) (number : ℕ) : Type 0 where
  pub due : Due source mode before start
  pub columns : (due.partition ≡ start.table.partition) ⊎ IsUnpublished start
  pub place : ℕ
  pub within : place < length due.commits
  pub passed : passes before due.partition (origin_of due) (take (place + 1) due.commits) which number
  pub left : StayAfter store target (leaves before due.partition (origin_of due) (take place due.commits)) new
  pub gained : Gained target (origin_of due) (with_columns due.partition start) before due.commits place (store.disk new).files
  pub untouched : which ≢ Names → (0 < place) × leaves before due.partition (origin_of due) (take place due.commits) (store.disk new).files

abbrev pub IsAsBeforeOrUnderway : SourceMeaning → Meaning → Mode → View → Files → Files → Type 0
IsAsBeforeOrUnderway source target mode start before files = IsAsBefore target start before files ⊎ IsUnderway source target mode start before files

-- From files that stand for the view and are settled the target gains the commits that are due one after another, or stays as it is, and no crash
-- leaves anything else.
pub record Synced {S : Type 0} (store : Ghosts S) (source : SourceMeaning) (target : Meaning) (mode : Mode) (start : View) (Uncontested Done : Type 0) (old new : S) : Type 0 where
  -- unless another writer was in the way, at return and after a crash at any moment
  pub at_return : Uncontested → IsAsBeforeOrUnderway source target mode start (store.disk old).files (store.disk new).files
  pub settled : Uncontested → target.settled (store.disk new)
  pub moments : Uncontested → IsEachMoment store old new (λ image. IsAsBeforeOrUnderway source target mode start (store.disk old).files image × target.settled (after_crash image))
  -- A target that is done is at the head, and stays there after a crash from then on.
  pub done : Done → IsAtHead source target mode start (store.disk old).files (store.disk new).files
  pub since : Done → (image : Files) → store.left_since new (store.time new) image → IsAtHead source target mode start (store.disk old).files image
  -- What was published before stays, byte for byte and also where another writer was in the way.
  pub earlier : StillCarries target start.commits (store.disk old).files (store.disk new).files
  pub bytes : LeavesAlone store (target.reached (store.disk old).files) old new

-- The source's folder, in which no path was dirty, shows at return and after a crash at any moment what it showed, and no path in it is dirty.
pub record KeepsSource {S : Type 0} (store : Ghosts S) (source : SourceMeaning) (old new : S) : Type 0 where
  pub at_return : SameSource source (store.disk old).files (store.disk new).files
  pub clean : (path : List ℕ) → IsIn (folder_of source.kind) path → IsClean (store.disk new) path
  pub moments : IsEachMoment store old new (SameSource source (store.disk old).files)
