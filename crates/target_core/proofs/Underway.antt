-- How far publishing a list of commits has come, with a view that the files now stand for.
use Rattle.std.specs.Prelude.{ℕ, ◌≤◌, List, length, take}
use Rattle.lake_store.specs.Disk.{Files}
use Rattle.lake_store.specs.Runs.{IsEachMoment, LeavesAlone}
use Rattle.lake_store.specs.declared.store.Store.{Ghosts}
use Rattle.table_history.specs.declared.table.Commit.{Commit}
use Rattle.target_core.specs.Folders.{after_crash}
use Rattle.target_core.specs.Gained.{Carries, GainedSome, StillCarries}
use Rattle.target_core.specs.Meaning.{Meaning}
use Rattle.target_core.specs.Views.{IsAdvancedAll, Origin, View}

-- a crash leaves at most n of them published, and nothing that another crash may damage
abbrev pub LeavesFew : Meaning → Origin → View → Files → List Commit → ℕ → Files → Type 0
LeavesFew target origin start before commits n image = (some : GainedSome target origin start before commits image) × (some.count ≤ n) × target.settled (after_crash image)

-- the first n commits are published
pub record IsUnderWay {S : Type 0} (store : Ghosts S) (target : Meaning) (origin : Origin) (start : View) (commits : List Commit) (n : ℕ) (here : View) (old new : S) : Type 0 where
  pub within : n ≤ length commits
  pub leads : IsAdvancedAll target.image origin start (take n commits) here
  pub each : Carries target origin start.commits commits n (store.disk new).files
  pub earlier : StillCarries target start.commits (store.disk old).files (store.disk new).files
  pub moments : IsEachMoment store old new (LeavesFew target origin start (store.disk old).files commits n)
  pub settled : target.settled (store.disk new)
  pub bytes : LeavesAlone store (target.reached (store.disk old).files) old new
