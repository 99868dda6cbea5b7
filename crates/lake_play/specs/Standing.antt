-- Where lists of events leave the source and the targets.
use Rattle.std.specs.Prelude.{◌≡◌, ◌⊎◌, ◌≤◌, ◌<◌, ◌+◌, ◌&&◌, max, ℕ, Bool, true, false, List, [], ◌∷◌, length, slice_get, IsSome, Some, if◌then◌else◌}
use Rattle.std.specs.FinMap as map
use Rattle.conformance.specs.Histories.{extensions}
use Rattle.conformance.specs.declared.event.Event.{Event}
use Rattle.conformance.specs.declared.event.Event.TheVariants as event
use Rattle.delta_table.specs.Versions.{HasVersion, HoldsVersion, IsVersionPath, log_folder}
use Rattle.lake_store.specs.Disk.{Disk, Files, MayLeave, empty_disk}
use Rattle.lake_store.specs.Fuse.{contests_of, faults_of, fuse_disk}
use Rattle.lake_store.specs.Runs.{IsIn}
use Rattle.lake_store.specs.declared.fuse.FuseStore.{FuseStore}
use Rattle.source_core.specs.Histories.{IsAt}
use Rattle.table_history.specs.History.{History}
use Rattle.table_history.specs.declared.kind.Kind.{Kind}
use Rattle.table_history.specs.declared.kind.Kind.TheVariants.{Delta, Hudi, Iceberg}
use Rattle.target_core.specs.Meaning.{Meaning}
use Rattle.target_hudi.specs.HudiMeaning.{hudi_meaning}
use Rattle.target_iceberg.specs.IcebergMeaning.{iceberg_meaning}
use Rattle.target_iceberg.specs.TableId.{table_id}
use Rattle.target_sync.specs.declared.status.Status.{Status}
use Rattle.target_sync.specs.declared.status.Status.TheVariants as status
use Rattle.lake_play.specs.Formats.{place}

-- ---- answers

-- how many events are answered: each Sync and each Full
abbrev pub answer_count : List Event → ℕ
answer_count [] = 0
answer_count (event.Extend bytes ∷ events) = answer_count events
answer_count (event.Shorten below ∷ events) = answer_count events
answer_count (event.Sync target ∷ events) = answer_count events + 1
answer_count (event.Full target ∷ events) = answer_count events + 1
answer_count (event.Stop call ∷ events) = answer_count events
answer_count (event.Crash choices ∷ events) = answer_count events

-- ---- the floor

abbrev pub is_same : Kind → Kind → Bool
is_same Delta Delta = true
is_same Hudi Hudi = true
is_same Iceberg Iceberg = true
is_same _ _ = false

abbrev pub is_done : Status → Bool
is_done status.Done = true
is_done _ = false

-- The floor after a target of this format was synced behind so many commits.
abbrev pub floor_behind : Kind → Kind → ℕ → ℕ → Status → ℕ
floor_behind target synced count floor given = if is_same target synced && is_done given then count else floor

-- the same, behind so many commits and with this floor before
abbrev pub floor_from : Kind → ℕ → ℕ → List Event → List Status → ℕ
floor_from target count floor [] answers = floor
floor_from target count floor (event.Extend bytes ∷ events) answers = floor_from target (count + 1) floor events answers
floor_from target count floor (event.Shorten below ∷ events) answers = floor_from target count floor events answers
floor_from target count floor (event.Sync synced ∷ events) [] = floor
floor_from target count floor (event.Sync synced ∷ events) (given ∷ answers) = floor_from target count (floor_behind target synced count floor given) events answers
floor_from target count floor (event.Full synced ∷ events) [] = floor
floor_from target count floor (event.Full synced ∷ events) (given ∷ answers) = floor_from target count (floor_behind target synced count floor given) events answers
floor_from target count floor (event.Stop call ∷ events) answers = floor_from target count floor events answers
floor_from target count floor (event.Crash choices ∷ events) answers = floor_from target count floor events answers

-- how many commits stood before the last Sync or Full of the target that was answered Done, and 0 where there was none
abbrev pub floor_of : Kind → List Event → List Status → ℕ
floor_of target events answers = floor_from target 0 0 events answers

-- ---- the source

-- Each file in the log's folder is that of a version.
abbrev pub HasVersionsAlone : Files → Type 0
HasVersionsAlone files = (path : List ℕ) → IsIn log_folder path → IsSome (map.get files path) → (version : ℕ) × IsVersionPath path version

-- The log holds the commits from one of them on, each as the version of its place, and its folder has no other file.
pub record HoldsFrom (first : ℕ) (commits : List (List ℕ)) (files : Files) : Type 0 where
  pub holds : (version : ℕ) (bytes : List ℕ) → first ≤ version → slice_get commits version ≡ Some bytes → HoldsVersion files version bytes
  pub only : (version : ℕ) → HasVersion files version → (first ≤ version) × (version < length commits)
  pub alone : HasVersionsAlone files

-- the first version that Shortens leave, where those below this one are gone
abbrev pub first_from : ℕ → List Event → ℕ
first_from first [] = first
first_from first (event.Extend bytes ∷ events) = first_from first events
first_from first (event.Shorten below ∷ events) = first_from (max first below) events
first_from first (event.Sync target ∷ events) = first_from first events
first_from first (event.Full target ∷ events) = first_from first events
first_from first (event.Stop call ∷ events) = first_from first events
first_from first (event.Crash choices ∷ events) = first_from first events

-- The log holds all commits but those of the versions that a Shorten names, in the files and in each image of a crash.
abbrev pub LogHolds : List Event → Disk → Type 0
LogHolds events disk = (image : Files) → MayLeave disk image → HoldsFrom (first_from 0 events) (extensions events) image

-- ---- the targets

-- No file is there and no path is dirty, no publication is to find another writer's file, and nothing was counted.
pub record IsFresh (store : FuseStore) : Type 0 where
  pub disk : fuse_disk store ≡ empty_disk
  pub contested : store.script.contested.items ≡ []
  pub faults : faults_of store ≡ 0
  pub contests : contests_of store ≡ 0

-- The target stands at a table of the history, counted from 1 and 0 where nothing is published, from one on and up to another.
pub record StandsWithin (target : Meaning) (history : History) (from to : ℕ) (files : Files) : Type 0 where
  pub j : ℕ
  pub from_there : from ≤ j
  pub up_to : j ≤ to
  pub at : IsAt Delta target history files j

abbrev pub meaning_of_hudi : Meaning
meaning_of_hudi = hudi_meaning

abbrev pub meaning_of_iceberg : Meaning
meaning_of_iceberg = iceberg_meaning (table_id place)

-- The target stands at some table of the history, not before the one where a sync was last answered Done.
abbrev pub Stands : Meaning → List Event → List Status → History → Files → Type 0
Stands target events answers history files = StandsWithin target history (floor_of target.kind events answers) (length (extensions events)) files

-- So do both targets, in the files and in each image of a crash, one of which the files are themselves.
abbrev pub BothStand : List Event → List Status → History → Disk → Type 0
BothStand events answers history disk = (image : Files) → MayLeave disk image → Stands meaning_of_hudi events answers history image × Stands meaning_of_iceberg events answers history image

-- ---- each commit once

-- After so many commits, and with this floor: each commit but the first comes behind a sync of the target that was done. Nothing but syncs brings the
-- target on, and no version is removed.
abbrev pub IsSyncedEarly : Kind → ℕ → ℕ → List Event → List Status → Type 0
IsSyncedEarly target count floor [] answers = Unit {0}
IsSyncedEarly target count floor (event.Extend bytes ∷ events) answers = ((count ≡ 0) ⊎ (0 < floor)) × IsSyncedEarly target (count + 1) floor events answers
IsSyncedEarly target count floor (event.Shorten below ∷ events) answers = ⊥
IsSyncedEarly target count floor (event.Sync synced ∷ events) [] = Unit {0}
IsSyncedEarly target count floor (event.Sync synced ∷ events) (given ∷ answers) = IsSyncedEarly target count (floor_behind target synced count floor given) events answers
IsSyncedEarly target count floor (event.Full synced ∷ events) [] = Unit {0}
IsSyncedEarly target count floor (event.Full synced ∷ events) (given ∷ answers) = (is_same target synced ≡ false) × IsSyncedEarly target count floor events answers
IsSyncedEarly target count floor (event.Stop call ∷ events) answers = IsSyncedEarly target count floor events answers
IsSyncedEarly target count floor (event.Crash choices ∷ events) answers = IsSyncedEarly target count floor events answers

-- A target that was synced so has one commit for each table up to the one at which it stands.
abbrev pub HasEachOnce : Meaning → List Event → List Status → History → Files → Type 0
HasEachOnce target events answers history files = IsSyncedEarly target.kind 0 0 events answers → (j : ℕ) → IsAt Delta target history files j → target.commits_in files ≡ j

-- So have both targets, in the files and in each image of a crash.
abbrev pub BothHaveEachOnce : List Event → List Status → History → Disk → Type 0
BothHaveEachOnce events answers history disk = (image : Files) → MayLeave disk image → HasEachOnce meaning_of_hudi events answers history image × HasEachOnce meaning_of_iceberg events answers history image
