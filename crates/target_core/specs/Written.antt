-- What publishing a list of commits writes.
use Rattle.std.specs.Prelude.{◌≡◌, ℕ, List, [], ◌∷◌}
use Rattle.std.specs.FinMap as map
use Rattle.lake_store.specs.Cause.{Rose}
use Rattle.lake_store.specs.Disk.{Files}
use Rattle.lake_store.specs.Runs.{IsEachMoment, LeavesAlone}
use Rattle.lake_store.specs.declared.store.Store.{Ghosts}
use Rattle.table_history.specs.declared.table.Commit.{Commit}
use Rattle.target_core.specs.Meaning.{Meaning}

-- Over files of which `kept` is kept, each of these commits has left just what it writes, one behind the other, and `last` is kept of the files at the end.
abbrev pub AreWritten : {K : Type 0} → (K → Files → Type 0) → (K → Files → Commit → Files → Type 0) → K → Files → List Commit → K → Files → Type 0
AreWritten stands_for writes kept before [] last after = (last ≡ kept) × (after ≡ before)
AreWritten {K} stands_for writes kept before (commit ∷ commits) last after =
    (next : K) × (middle : Files) × writes kept before commit middle × stands_for next middle × AreWritten stands_for writes next middle commits last after

-- they have, whatever is kept at the end
abbrev pub HaveLeft : {K : Type 0} → (K → Files → Type 0) → (K → Files → Commit → Files → Type 0) → K → Files → List Commit → Files → Type 0
HaveLeft {K} stands_for writes kept before commits after = (last : K) × AreWritten stands_for writes kept before commits last after

-- Files that are left so have at each path that their commits reach just what these have.
abbrev pub IsAsLeft : (Files → List ℕ → Type 0) → (Files → Type 0) → Files → Type 0
IsAsLeft reached Left files = (left : Files) × Left left × ((path : List ℕ) → reached left path → map.get files path ≡ map.get left path)

-- At some moment before the end the files were so. No file that a commit published by then reaches changes from then on, and none becomes dirty, at return
-- and at any moment.
pub record StayAfter {S : Type 0} (store : Ghosts S) (target : Meaning) (Left : Files → Type 0) (new : S) : Type 0 where
  pub middle : S
  pub left : Left (store.disk middle).files
  pub stay : LeavesAlone store (target.reached (store.disk middle).files) middle new

-- Each file that a commit reaches in an image, whoever published the commit, is there with just these bytes.
abbrev pub HasReached : Meaning → Files → Files → Type 0
HasReached target files image = (path : List ℕ) → target.reached image path → map.get files path ≡ map.get image path

-- Another writer published a commit after this moment. It stays byte for byte: no file goes or changes that a crash from then on would have shown as
-- reached by a commit, whoever published that.
pub record KeepsTheirs {S : Type 0} (store : Ghosts S) (target : Meaning) (middle new : S) : Type 0 where
  pub came : Rose (store.contests middle) (store.contests new)
  pub stay : IsEachMoment store middle new (HasReached target (store.disk new).files)
