-- What publishing a list of commits leaves, from files that stand for a view and are settled.
use Rattle.std.specs.Prelude.{◌≡◌, Bool, true, List, length}
use Rattle.lake_store.specs.Disk.{Files}
use Rattle.lake_store.specs.Runs.{IsEachMoment, LeavesAlone}
use Rattle.lake_store.specs.declared.store.Store.{Ghosts}
use Rattle.table_history.specs.declared.table.Commit.{Commit}
use Rattle.target_core.specs.Folders.{after_crash}
use Rattle.target_core.specs.Gained.{Gained, GainedSome, StillCarries}
use Rattle.target_core.specs.Meaning.{Meaning}
use Rattle.target_core.specs.Views.{Origin, View}

-- a crash leaves some first part of the commits published, and nothing that another crash may damage
abbrev pub LeavesSome : Meaning → Origin → View → Files → List Commit → Files → Type 0
LeavesSome target origin start before commits image = GainedSome target origin start before commits image × target.settled (after_crash image)

pub record Publishes {S : Type 0} (store : Ghosts S) (target : Meaning) (origin : Origin) (start : View) (commits : List Commit) (Uncontested : Type 0) (done : Bool) (old new : S) : Type 0 where
  -- all of them, where it is done
  pub all : done ≡ true → Gained target origin start (store.disk old).files commits (length commits) (store.disk new).files
  -- unless another writer was in the way, a first part of them, at return and after a crash at any moment
  pub at_return : Uncontested → GainedSome target origin start (store.disk old).files commits (store.disk new).files
  pub moments : Uncontested → IsEachMoment store old new (LeavesSome target origin start (store.disk old).files commits)
  pub settled : Uncontested → target.settled (store.disk new)
  -- What was published before stays, byte for byte and also where another writer was in the way.
  pub earlier : StillCarries target start.commits (store.disk old).files (store.disk new).files
  pub bytes : LeavesAlone store (target.reached (store.disk old).files) old new
