-- Why the syncs of a list of events are answered so.
use Rattle.std.specs.Prelude.{◌≡◌, ◌⊎◌, ◌+◌, ℕ, Bool, true, false, List, [], ◌∷◌, ◌++◌, drop, length, slice_get, Contains, Some}
use Rattle.conformance.specs.declared.event.Event.{Event}
use Rattle.conformance.specs.declared.event.Event.TheVariants as event
use Rattle.lake_store.specs.Cause.{Rose}
use Rattle.lake_store.specs.Disk.{Files}
use Rattle.lake_store.specs.Fuse.{CanFail, fuse_disk}
use Rattle.lake_store.specs.declared.fuse.FuseStore.{FuseStore}
use Rattle.lake_store.specs.declared.fuse.Script.{Script}
use Rattle.source_core.specs.Histories.{LeadAlong, ShowsTable}
use Rattle.table_history.specs.History.{History}
use Rattle.table_history.specs.TypeTree.{ColumnTrees}
use Rattle.table_history.specs.declared.feature.Feature.{Feature}
use Rattle.table_history.specs.declared.feature.Feature.TheVariants.{NeedsCheckpoint}
use Rattle.table_history.specs.declared.kind.Kind.{Kind}
use Rattle.table_history.specs.declared.kind.Kind.TheVariants.{Delta, Hudi, Iceberg}
use Rattle.table_history.specs.declared.table.Commit.{Commit}
use Rattle.table_history.specs.declared.table.Table.{Table}
use Rattle.target_core.specs.Views.{View}
use Rattle.target_core.specs.declared.target.TargetError.TheVariants as target_error
use Rattle.target_hudi.specs.TableName.{IsTableName}
use Rattle.target_hudi.specs.declared.target.HudiTarget.{HudiTarget}
use Rattle.target_iceberg.specs.TableId.{table_id}
use Rattle.target_iceberg.specs.declared.target.IcebergTarget.{IcebergTarget}
use Rattle.target_sync.specs.Along.{IsToLast}
use Rattle.target_sync.specs.Answered.{IsRefusal}
use Rattle.target_sync.specs.Targets.{TargetFacts, target_facts}
use Rattle.target_sync.specs.declared.plan.Mode.{Mode}
use Rattle.target_sync.specs.declared.plan.Mode.TheVariants as modes
use Rattle.target_sync.specs.declared.status.Side.TheVariants as side
use Rattle.target_sync.specs.declared.status.Status.{Status}
use Rattle.target_sync.specs.declared.status.Status.TheVariants as status
use Rattle.lake_play.specs.Formats.{from_delta, place, to_hudi, to_iceberg}
use Rattle.lake_play.specs.Playing.{PlaysAll}
use Rattle.lake_play.specs.Standing.{HoldsFrom, StandsWithin}
use Rattle.lake_play.specs.declared.playing.Progress.{Progress}

-- ---- what was played before an answer

-- How many commits there were, from which of them on the source's versions are there, whether one was removed, and whether a Stop stands there with no
-- Crash behind it.
pub record Before : Type 0 where
  pub commits : List (List ℕ)
  pub shortened : Bool
  pub stopped : Bool

abbrev pub nothing_before : Before
nothing_before = record { commits = []; shortened = false; stopped = false }

abbrev pub behind : Event → Before → Before
behind (event.Extend bytes) before = record before { commits = before.commits ++ bytes ∷ [] }
behind (event.Shorten below) before = record before { shortened = true }
behind (event.Sync target) before = before
behind (event.Full target) before = before
behind (event.Stop call) before = record before { stopped = true }
behind (event.Crash choices) before = record before { stopped = false }

-- ---- the files that a sync is over

-- The source's log holds the commits from one of them on, and no other version.
abbrev pub HoldsLog : List (List ℕ) → Files → Type 0
HoldsLog commits files = (first : ℕ) × HoldsFrom first commits files

-- The files hold these commits, and the target stands at one of the tables that they make.
pub record IsOver (target : TargetFacts) (history : History) (commits : List (List ℕ)) (files : Files) : Type 0 where
  pub log : HoldsLog commits files
  pub stands : StandsWithin target.files history 0 (length commits) files

-- ---- the causes

-- the commits lead from the j-th table of the history, counted from 1, to the last: one for each table behind it, or one alone
abbrev pub LeadFrom : History → ℕ → View → List Commit → Type 0
LeadFrom history j start commits = ((k : ℕ) × (entry : List ℕ × Table) × (j ≡ k + 1) × (slice_get history k ≡ Some entry) × LeadAlong entry.1 (drop (k + 1) history) commits) ⊎ IsToLast history start commits

-- Each schema that one of the commits states is that of a table of the history.
abbrev pub StateSchemasOf : History → List Commit → Type 0
StateSchemasOf history commits = (commit : Commit) (schema : ColumnTrees) → Contains commits commit → commit.change.schema ≡ Some schema → (entry : List ℕ × Table) × Contains history entry × (entry.1.schema ≡ schema)

-- a table of the history has these partition columns
abbrev pub HasColumns : History → List (List ℕ) → Type 0
HasColumns history partition = (entry : List ℕ × Table) × Contains history entry × (entry.1.partition ≡ partition)

-- Over these files, commits that lead from one table of the history to a later one, of a source of its partition columns, don't fit the target that stands
-- there, for this feature.
pub record IsUnfitBetween (target : TargetFacts) (history : History) (commits : List (List ℕ)) (files : Files) (feature : Feature) (path : List ℕ) : Type 0 where
  pub over : IsOver target history commits files
  pub start : View
  pub reads : target.files.reads files start
  pub j : ℕ
  pub shows : ShowsTable Delta target.files.image history j start
  pub front : History
  pub rest : History
  pub split : history ≡ front ++ rest
  pub count : length front ≡ length commits
  pub due : List Commit
  pub leads : LeadFrom front j start due
  pub schemas : StateSchemasOf front due
  pub partition : List (List ℕ)
  pub columns : HasColumns front partition
  pub unfit : target.unfit files partition due (target_error.Unsupported feature path)

-- This number is passed in what is read of these files, or in what would be written over them.
pub record PassesNumber (target : TargetFacts) (mode : Mode) (now : ℕ) (history : History) (commits : List (List ℕ)) (files : Files) (given : Status) : Type 0 where
  pub over : IsOver target history commits files
  pub passes : IsRefusal (Unit {0}) from_delta target mode now files given

-- why a sync of this target over these files is answered so
abbrev pub IsCauseAt : TargetFacts → Mode → ℕ → History → Before → Files → Type 0 → Status → Type 0
IsCauseAt target mode now history before files Faulty status.Done = Unit {0}
IsCauseAt target mode now history before files Faulty status.Memory = Unit {0}
IsCauseAt target mode now history before files Faulty status.StoreFault = Faulty
IsCauseAt target mode now history before files Faulty status.Absent = before.commits ≡ []
IsCauseAt target mode now history before files Faulty (status.Unsupported side.Source feature path) = (feature ≡ NeedsCheckpoint) × (before.shortened ≡ true)
IsCauseAt target mode now history before files Faulty (status.Unsupported (side.Target kind) feature path) = (kind ≡ target.files.kind) × IsUnfitBetween target history before.commits files feature path
IsCauseAt target mode now history before files Faulty (status.Limit of which number) = PassesNumber target mode now history before.commits files (status.Limit of which number)
IsCauseAt target mode now history before files Faulty _ = ⊥

abbrev pub IsCause : Kind → Mode → ℕ → History → Before → Files → Type 0 → Status → Type 0
IsCause Delta mode now history before files Faulty given = given ≡ status.Usage
IsCause Hudi mode now history before files Faulty given = (given ≡ status.Memory) ⊎ ((target : HudiTarget) × IsTableName place target.name × IsCauseAt (target_facts to_hudi target) mode now history before files Faulty given)
IsCause Iceberg mode now history before files Faulty given = (given ≡ status.Memory) ⊎ ((target : IcebergTarget) × (target.id ≡ table_id place) × IsCauseAt (target_facts to_iceberg target) mode now history before files Faulty given)

-- A fault has two causes: the fuse counted it, and its script named a call that fails, or a Stop stands before it with no Crash between the two.
abbrev pub IsFaulty : Script → ℕ → ℕ → Before → Type 0
IsFaulty script old new before = Rose old new × (CanFail script ⊎ (before.stopped ≡ true))

-- Each answer of this run has its cause in the files that the store had before that sync.
abbrev pub AreCaused : (Before → Type 0) → (now : ℕ) → History → Before → (events : List Event) (so_far : Progress) (old : FuseStore) (after : Progress) (new : FuseStore) → PlaysAll now events so_far old after new → Type 0
AreCaused faulty now history before [] so_far old after new plays = Unit {0}
AreCaused faulty now history before (event.Extend bytes ∷ events) so_far old after new plays = AreCaused faulty now history (behind (event.Extend bytes) before) events plays.0 plays.1 after new plays.3
AreCaused faulty now history before (event.Shorten below ∷ events) so_far old after new plays = AreCaused faulty now history (behind (event.Shorten below) before) events plays.0 plays.1 after new plays.3
AreCaused faulty now history before (event.Sync target ∷ events) so_far old after new plays =
    IsCause target modes.Sync now history before (fuse_disk old).files (faulty before) plays.2.0 × AreCaused faulty now history before events plays.0 plays.1 after new plays.3
AreCaused faulty now history before (event.Full target ∷ events) so_far old after new plays =
    IsCause target modes.Full now history before (fuse_disk old).files (faulty before) plays.2.0 × AreCaused faulty now history before events plays.0 plays.1 after new plays.3
AreCaused faulty now history before (event.Stop call ∷ events) so_far old after new plays = AreCaused faulty now history (behind (event.Stop call) before) events plays.0 plays.1 after new plays.3
AreCaused faulty now history before (event.Crash choices ∷ events) so_far old after new plays = AreCaused faulty now history (behind (event.Crash choices) before) events plays.0 plays.1 after new plays.3
