-- What a run of store calls makes of a timeline.
use Rattle.std.specs.Prelude.{◌≡◌, ◌≢◌, ◌⊎◌, ◌<◌, ℕ, List, length, [], Option, None, Some, Result, Ok, Err, IsSome}
use Rattle.std.specs.FinMap as map
use Rattle.lake_basics.specs.declared.limits.TheConstants.{MAX_NAMES}
use Rattle.lake_store.specs.Disk.{Disk, Files, IsClean, IsName, moved, names_in, removed, synced, with_file, written}
use Rattle.lake_store.specs.Runs.{IsEachMoment, IsIn}
use Rattle.lake_store.specs.declared.store.Store.{Ghosts}
use Rattle.lake_store.specs.declared.store.StoreError.{StoreError}
use Rattle.lake_store.specs.declared.store.StoreError.TheVariants.{Taken}
use Rattle.hudi_names.specs.Time.{IsDigits, IsSomeTime}
use Rattle.hudi_names.specs.declared.name.State.{State}
use Rattle.hudi_names.specs.declared.name.State.TheVariants.{Completed}
use Rattle.hudi_commit.specs.Names.{IsInstantIn, IsLeftover, IsOf, IsOpenLeftover, IsThere, Stage, StaysOrGoes, Requested, Inflight, claim_path, claims_folder, completed_path, pending_path, properties_path, staged_properties_path, timeline_path}
use Rattle.hudi_commit.specs.Orderly.{IsOrderly}
use Rattle.hudi_commit.specs.Settled.{IsSettled, IsUnannounced, Stands, StandsAt}

-- no other writer was in the way
abbrev pub IsUncontested : {T : Type 0} → Result T StoreError → Type 0
IsUncontested (Ok x) = Unit {0}
IsUncontested (Err e) = e ≡ Taken → ⊥

-- The instant's completed file has come: the call is done; or it is refused, no other writer was in the way, and the file is there.
abbrev pub HasCome : {T : Type 0} → Result T StoreError → List ℕ → Files → Type 0
HasCome (Ok x) instant files = Unit {0}
HasCome (Err e) instant files = (e ≡ Taken → ⊥) × IsThere files (completed_path instant)

-- the folder has no file that it hadn't before
abbrev pub HasNotGrown : List ℕ → Files → Files → Type 0
HasNotGrown folder old new = (path : List ℕ) → IsIn folder path → IsThere new path → IsThere old path

-- ---- the commit as a whole

-- What a refusal for so many claims says. Nothing is published then.
pub record HasManyClaims {S : Type 0} (store : Ghosts S) (instant : List ℕ) (n : ℕ) (old new : S) : Type 0 where
  -- They are more than a folder may have.
  pub many : MAX_NAMES < n
  -- That is how many the folder of claims had.
  pub names : store.tells → n ≡ length (names_in (store.disk old).files claims_folder)
  -- The instant's completed file isn't there.
  pub unpublished : store.tells → map.get (store.disk new).files (completed_path instant) ≡ None
  -- Orderly files stand as before.
  pub unmoved : store.tells → IsOrderly (store.disk old).files → Stands (store.disk old).files (store.disk new)

-- Properties are given before the first commit, where no completed instant is there. Without any the table's properties are there.
abbrev pub IsReady : Option (List ℕ) → Files → Type 0
IsReady None files = IsThere files properties_path
IsReady (Some properties) files = (name : List ℕ) → IsName name → IsInstantIn Completed name → IsThere files (timeline_path name) → ⊥

-- these files before the commit: as they are, without properties, or with the new ones
abbrev pub IsBase : Option (List ℕ) → Files → Files → Type 0
IsBase None entry base = base ≡ entry
IsBase (Some properties) entry base = (base ≡ entry) ⊎ (base ≡ with_file entry properties_path None) ⊎ (base ≡ with_file entry properties_path (Some properties))

-- the files with the properties that are given
abbrev pub prepared : Option (List ℕ) → Files → Files
prepared None entry = entry
prepared (Some properties) entry = with_file entry properties_path (Some properties)

-- and with the instant's completed file
abbrev pub with_commit : Option (List ℕ) → Files → List ℕ → List ℕ → Files
with_commit properties entry instant text = with_file (prepared properties entry) (completed_path instant) (Some text)

-- The files are orderly, and read as before the commit.
pub record IsBefore (properties : Option (List ℕ)) (entry image : Files) : Type 0 where
  pub base : Files
  pub is_base : IsBase properties entry base
  pub stands : StandsAt base image

-- The files are orderly, and read as these and the instant's completed file. Its pending names are empty files and its claim is gone.
pub record IsAfter (base : Files) (instant text : List ℕ) (image : Files) : Type 0 where
  pub stands : StandsAt (with_file base (completed_path instant) (Some text)) image
  pub pending : (stage : Stage) → map.get image (pending_path stage instant) ≡ Some []
  pub claim : map.get image (claim_path instant) ≡ None

-- The files are orderly, and read as before the commit or as after it.
abbrev pub IsBeforeOrAfter : Option (List ℕ) → Files → List ℕ → List ℕ → Files → Type 0
IsBeforeOrAfter properties entry instant text image = IsBefore properties entry image ⊎ IsAfter (prepared properties entry) instant text image

-- So it is at return and after a crash at any moment, and the disk is settled at return.
pub record IsOneStep {S : Type 0} (store : Ghosts S) (properties : Option (List ℕ)) (instant text : List ℕ) (old new : S) : Type 0 where
  pub settled : IsSettled (store.disk new)
  pub disk : IsBeforeOrAfter properties (store.disk old).files instant text (store.disk new).files
  pub moments : IsEachMoment store old new (IsBeforeOrAfter properties (store.disk old).files instant text)

-- The instant is completed with this text, and the timeline reads so. Its pending names are empty files and its claim is gone.
-- Nothing is dirty, and no claim of another instant is left but of completed ones.
pub record IsCommitted (properties : Option (List ℕ)) (instant text : List ℕ) (old new : Disk) : Type 0 where
  pub stands : Stands (with_commit properties old.files instant text) new
  pub clean : (path : List ℕ) → IsClean new path
  pub pending : (stage : Stage) → map.get new.files (pending_path stage instant) ≡ Some []
  pub claim : map.get new.files (claim_path instant) ≡ None
  pub recovered : (other : List ℕ) → IsSomeTime other → IsThere new.files (claim_path other) → IsThere new.files (completed_path other)

abbrev pub NotGiven : Option (List ℕ) → List ℕ → Type 0
NotGiven None path = Unit {0}
NotGiven (Some properties) path = path ≢ properties_path

-- Another writer's file is there: the instant's completed one, or properties where they are given.
abbrev pub IsTakenBy : Option (List ℕ) → List ℕ → Files → Type 0
IsTakenBy properties instant files = IsThere files (completed_path instant) ⊎ (IsSome properties × IsThere files properties_path)

-- As far as the instant's completed file wasn't dirty, it isn't in this image, or the image is the files as they are now.
abbrev pub LacksOrIs : List ℕ → Disk → Files → Files → Type 0
LacksOrIs instant old now image = IsClean old (completed_path instant) → (map.get image (completed_path instant) ≡ None) ⊎ ((path : List ℕ) → map.get image path ≡ map.get now path)

-- A path that the commit leaves alone: no leftover but those of completed instants, and neither the new completed file nor properties that are given.
pub record IsKept (properties : Option (List ℕ)) (instant : List ℕ) (entry : Files) (path : List ℕ) : Type 0 where
  pub leftover : IsOpenLeftover entry path → ⊥
  pub completed : path ≢ completed_path instant
  pub given : NotGiven properties path

-- A path of none of the files that the commit adds: the instant's completed one, its pending names, and properties that are given.
pub record IsOther (properties : Option (List ℕ)) (instant path : List ℕ) : Type 0 where
  pub completed : path ≢ completed_path instant
  pub pending : (stage : Stage) → path ≢ pending_path stage instant
  pub given : NotGiven properties path

-- What stands once the instant's completed file has come, settled before or not. It has this text, and behind properties that are given no staged ones are
-- left. Each other file is as before, or was a leftover of a stopped commit and is gone.
pub record HasCompleted (properties : Option (List ℕ)) (instant text : List ℕ) (old new : Disk) : Type 0 where
  pub committed : IsOrderly old.files → IsReady properties old.files → IsCommitted properties instant text old new
  pub completed : map.get new.files (completed_path instant) ≡ Some text
  pub staged : IsSome properties → map.get new.files staged_properties_path ≡ None
  pub others : (path : List ℕ) → IsOther properties instant path → StaysOrGoes old.files new.files path
  pub not_grown : HasNotGrown claims_folder old.files new.files

-- ---- its parts

abbrev pub IsNoLeftover : List ℕ → Type 0
IsNoLeftover path = IsLeftover path → ⊥

abbrev pub IsNotOf : List ℕ → List ℕ → Type 0
IsNotOf instant path = IsOf instant path → ⊥

abbrev pub IsNotOpen : Files → List ℕ → Type 0
IsNotOpen files path = IsOpenLeftover files path → ⊥

-- The timeline reads as these files do, at return and after a crash at any moment.
pub record StaysAlike {S : Type 0} (store : Ghosts S) (base : Files) (old new : S) : Type 0 where
  pub disk : Stands base (store.disk new)
  pub moments : IsEachMoment store old new (StandsAt base)

-- the disk without an instant's leftovers
abbrev pub cleared : List ℕ → Disk → Disk
cleared instant disk = removed (removed (removed disk (pending_path Inflight instant)) (pending_path Requested instant)) (claim_path instant)

-- the disk with a claim
abbrev pub claimed : List ℕ → List ℕ → Disk → Disk
claimed instant bytes disk = synced (written disk (claim_path instant) bytes)

-- the disk with an instant's pending names
abbrev pub announced : List ℕ → Disk → Disk
announced instant disk = synced (written (written disk (pending_path Requested instant) []) (pending_path Inflight instant) [])

-- the disk with an instant's completed file, which was its claim
abbrev pub completed : List ℕ → List ℕ → Disk → Disk
completed instant bytes disk = moved (announced instant (claimed instant bytes disk)) (claim_path instant) (completed_path instant) bytes

abbrev pub IsAllClean : Disk → Type 0
IsAllClean disk = (path : List ℕ) → IsClean disk path

-- open leftovers alone are gone
pub record IsTidied (old new : Disk) : Type 0 where
  pub files : (path : List ℕ) → StaysOrGoes old.files new.files path
  pub clean : (path : List ℕ) → IsClean old path → IsClean new path

-- a claim of this name is one of a completed instant
abbrev pub IsRecoveredAt : Disk → List ℕ → Type 0
IsRecoveredAt disk name = IsSomeTime name → IsThere disk.files (claim_path name) → IsThere disk.files (completed_path name)

-- there is no claim but of completed instants
abbrev pub IsRecovered : Disk → Type 0
IsRecovered disk = (name : List ℕ) → IsRecoveredAt disk name

-- no instant's name is there, and no pending name is dirty
pub record IsQuiet (disk : Disk) : Type 0 where
  pub bare : (state : State) (name : List ℕ) → IsName name → IsInstantIn state name → IsThere disk.files (timeline_path name) → ⊥
  pub clean : (stage : Stage) (instant : List ℕ) → IsDigits instant → IsClean disk (pending_path stage instant)

-- Nothing is dirty, and nothing is pending but completed instants.
pub record IsIdle (disk : Disk) : Type 0 where
  pub clean : IsAllClean disk
  pub done : (stage : Stage) (instant : List ℕ) → IsDigits instant → IsThere disk.files (pending_path stage instant) → IsThere disk.files (completed_path instant)

-- The properties have come from the staged ones, which are gone, durably, and all else is as before.
pub record HasProperties (properties : List ℕ) (old new : Disk) : Type 0 where
  pub here : map.get new.files properties_path ≡ Some properties
  pub staged : map.get new.files staged_properties_path ≡ None
  pub others : (path : List ℕ) → path ≢ staged_properties_path → path ≢ properties_path → map.get new.files path ≡ map.get old.files path
  pub clean : IsAllClean new

-- The disk is settled at return, and the timeline reads as before the commit, then and after a crash at any moment.
pub record StaysBefore {S : Type 0} (store : Ghosts S) (properties : Option (List ℕ)) (entry : Files) (old new : S) : Type 0 where
  pub settled : IsSettled (store.disk new)
  pub disk : IsBefore properties entry (store.disk new).files
  pub moments : IsEachMoment store old new (IsBefore properties entry)

-- Nothing of the instant is pending, and the properties are there.
pub record IsNext (instant : List ℕ) (disk : Disk) : Type 0 where
  pub unannounced : IsUnannounced disk instant
  pub properties : IsThere disk.files properties_path

-- neither the properties nor the staged ones
pub record IsNoProperties (path : List ℕ) : Type 0 where
  pub staged : path ≢ staged_properties_path
  pub properties : path ≢ properties_path

-- neither properties that are given nor staged ones
pub record IsKeptBut (properties : Option (List ℕ)) (path : List ℕ) : Type 0 where
  pub staged : path ≢ staged_properties_path
  pub given : NotGiven properties path

-- neither the instant's completed file nor a leftover of it
pub record IsNoFileOf (instant path : List ℕ) : Type 0 where
  pub leftover : IsNotOf instant path
  pub completed : path ≢ completed_path instant

-- The given properties are there. Nothing is dirty, and nothing is pending but completed instants.
pub record IsPrepared (properties : Option (List ℕ)) (base : Files) (old new : Disk) : Type 0 where
  pub stands : Stands (prepared properties base) new
  pub idle : IsIdle new
  pub there : IsThere new.files properties_path
  pub completed : (instant : List ℕ) → IsDigits instant → map.get new.files (completed_path instant) ≡ map.get old.files (completed_path instant)
  pub recovered : IsRecovered old → IsRecovered new

-- The instant's file has these bytes, its pending names are empty files and its claim is gone.
pub record IsPublished (base : Files) (instant bytes : List ℕ) (old new : Disk) : Type 0 where
  pub stands : Stands (with_file base (completed_path instant) (Some bytes)) new
  pub clean : IsAllClean new
  pub pending : (stage : Stage) → map.get new.files (pending_path stage instant) ≡ Some []
  pub claim : map.get new.files (claim_path instant) ≡ None
  pub recovered : IsRecovered old → IsRecovered new

-- as these files do, or as published
pub record StaysOrGains {S : Type 0} (store : Ghosts S) (base : Files) (instant text : List ℕ) (old new : S) : Type 0 where
  pub disk : Stands base (store.disk new) ⊎ IsPublished base instant text (store.disk old) (store.disk new)
  pub moments : IsEachMoment store old new (λ image. StandsAt base image ⊎ IsAfter base instant text image)
