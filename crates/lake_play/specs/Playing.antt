-- What events do to a store, one after another. Nothing is said here of tables.
use Rattle.std.specs.Prelude.{◌≡◌, ◌⊎◌, ℕ, ◌+◌, ◌≤◌, ◌<◌, min, max, List, [], ◌∷◌, ◌++◌, Some, None, Result, Ok, Err}
use Rattle.std.specs.FinMap as map
use Rattle.delta_table.specs.Versions.{IsVersionPath}
use Rattle.lake_store.specs.Crash.{IsCrashed}
use Rattle.lake_store.specs.Disk.{Disk, IsClean, MayLeave, synced, written}
use Rattle.lake_store.specs.Fuse.{fuse_disk, room_of, with_stop}
use Rattle.lake_store.specs.declared.fuse.FuseStore.{FuseStore}
use Rattle.conformance.specs.declared.event.Event.{Event}
use Rattle.conformance.specs.declared.event.Event.TheVariants as event
use Rattle.table_history.specs.declared.kind.Kind.{Kind}
use Rattle.table_history.specs.declared.kind.Kind.TheVariants.{Delta, Hudi, Iceberg}
use Rattle.target_hudi.specs.TableName.{IsTableName}
use Rattle.target_hudi.specs.declared.target.HudiTarget.{HudiTarget}
use Rattle.target_iceberg.specs.TableId.{table_id}
use Rattle.target_iceberg.specs.declared.target.IcebergTarget.{IcebergTarget}
use Rattle.target_sync.specs.Along.{IsWholeSync}
use Rattle.target_sync.specs.Targets.{TargetFacts, target_facts}
use Rattle.target_sync.specs.declared.apply.Report.{Report}
use Rattle.target_sync.specs.declared.plan.Mode.{Mode}
use Rattle.target_sync.specs.declared.plan.Mode.TheVariants as modes
use Rattle.target_sync.specs.declared.status.Status.{Status}
use Rattle.target_sync.specs.declared.status.Status.TheVariants as status
use Rattle.lake_play.specs.Formats.{from_delta, place, to_hudi, to_iceberg}
use Rattle.lake_play.specs.Scripted.{scripted_store}
use Rattle.lake_play.specs.declared.playing.Progress.{Progress}
use Rattle.lake_play.specs.declared.scripted.Scripted.{Scripted}

-- ---- the source

-- The version's file has these bytes, durably, and so has each other file those that it had.
pub record Extends (version : ℕ) (bytes : List ℕ) (old new : FuseStore) : Type 0 where
  pub path : List ℕ
  pub is : IsVersionPath path version
  pub disk : fuse_disk new ≡ synced (written (fuse_disk old) path bytes)
  pub outside : new ≡ record old { inner = new.inner }

-- the path of a version from one on and below another
abbrev pub IsPathFrom : ℕ → ℕ → List ℕ → Type 0
IsPathFrom from to path = (version : ℕ) × (from ≤ version) × (version < to) × IsVersionPath path version

-- The files of these versions are gone, durably, and all other paths stay.
pub record Sheds (from to : ℕ) (old new : Disk) : Type 0 where
  pub gone : (path : List ℕ) → IsPathFrom from to path → map.get new.files path ≡ None
  pub others : (path : List ℕ) → ¬ IsPathFrom from to path → map.get new.files path ≡ map.get old.files path
  pub clean : (path : List ℕ) → IsClean old path → IsClean new path

pub record Shortens (from to : ℕ) (old new : FuseStore) : Type 0 where
  pub disk : Sheds from to (fuse_disk old) (fuse_disk new)
  pub outside : new ≡ record old { inner = new.inner }

-- ---- a crash

-- The fuse has no stop, and the store inside is what a crash leaves by these choices.
pub record Crashes (choices : List ℕ) (old new : FuseStore) : Type 0 where
  pub disk : IsCrashed (fuse_disk old) choices (fuse_disk new)
  pub image : MayLeave (fuse_disk old) (fuse_disk new).files
  pub outside : new ≡ record (with_stop old None) { inner = new.inner }

-- ---- a target

abbrev pub status_of : Result Report Status → Status
status_of (Ok report) = status.Done
status_of (Err e) = e

-- the store in which a fuse stands while a target is synced
abbrev pub scripted : ℕ → FuseStore → Scripted
scripted room fuse = record { fuse = fuse; room = room }

-- The target was synced from the Delta source, over a store of the room that the fuse had, and this was answered.
pub record Brings (target : TargetFacts) (mode : Mode) (now : ℕ) (old new : FuseStore) (given : Status) : Type 0 where
  pub answer : Result Report Status
  pub told : given ≡ status_of answer
  pub room : ℕ
  pub sync : IsWholeSync scripted_store from_delta target None mode now (scripted (room_of old) old) (scripted room new) (Some answer)

-- nothing was done, for this reason
abbrev pub GivesUp : Status → FuseStore → FuseStore → Status → Type 0
GivesUp why old new given = (given ≡ why) × (new ≡ old)

-- A table can't be brought to itself. Without memory for what is kept of a target nothing is done.
abbrev pub IsSynced : Kind → Mode → ℕ → FuseStore → FuseStore → Status → Type 0
IsSynced Delta mode now old new given = GivesUp status.Usage old new given
IsSynced Hudi mode now old new given = GivesUp status.Memory old new given ⊎ ((target : HudiTarget) × IsTableName place target.name × Brings (target_facts to_hudi target) mode now old new given)
IsSynced Iceberg mode now old new given = GivesUp status.Memory old new given ⊎ ((target : IcebergTarget) × (target.id ≡ table_id place) × (target.location ≡ place) × Brings (target_facts to_iceberg target) mode now old new given)

-- ---- events

abbrev pub nothing_played : Progress
nothing_played = record { first = 0; next = 0; answers = [] }

abbrev pub with_answer : Progress → Status → Progress
with_answer so_far given = record so_far { answers = so_far.answers ++ given ∷ [] }

-- what an event does at this time
abbrev pub Plays : ℕ → Event → Progress → FuseStore → Progress → FuseStore → Type 0
Plays now (event.Extend bytes) before old after new = Extends before.next bytes old new × (after ≡ record before { next = before.next + 1 })
Plays now (event.Shorten below) before old after new = Shortens before.first (min below before.next) old new × (after ≡ record before { first = max before.first (min below before.next) })
Plays now (event.Sync target) before old after new = (given : Status) × IsSynced target modes.Sync now old new given × (after ≡ with_answer before given)
Plays now (event.Full target) before old after new = (given : Status) × IsSynced target modes.Full now old new given × (after ≡ with_answer before given)
Plays now (event.Stop call) before old after new = (new ≡ with_stop old (Some call)) × (after ≡ before)
Plays now (event.Crash choices) before old after new = Crashes choices old new × (after ≡ before)

-- what they do one after another
abbrev pub PlaysAll : ℕ → List Event → Progress → FuseStore → Progress → FuseStore → Type 0
PlaysAll now [] before old after new = (before ≡ after) × (old ≡ new)
PlaysAll now (event ∷ events) before old after new = (mid : Progress) × (between : FuseStore) × Plays now event before old mid between × PlaysAll now events mid between after new
