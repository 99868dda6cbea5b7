-- The commits of a Delta log after a version (Delta protocol, "Delta Log Entries" and "Action Reconciliation").
use Rattle.std.specs.Prelude.{◌≡◌, ◌⊎◌, ◌<◌, ◌≤◌, ◌+◌, ℕ, zero, suc, List, [], ◌∷◌, length, Some}
use Rattle.std.specs.Fmt.{decimal}
use Rattle.lake_basics.specs.declared.limits.TheConstants.{MAX_ACTIONS, MAX_COMMITS}
use Rattle.lake_store.specs.Disk.{Files}
use Rattle.table_history.specs.Tables.{IsAfter}
use Rattle.table_history.specs.declared.limit.LimitKind.TheVariants as limit
use Rattle.table_history.specs.declared.table.Commit.{Commit}
use Rattle.table_history.specs.declared.table.Table.{Table}
use Rattle.delta_change.specs.Change.{CanFollow, IsChangeOf, IsChangeRefusal}
use Rattle.delta_log.specs.declared.commit.DeltaCommit.{DeltaCommit}
use Rattle.delta_log.specs.declared.error.DeltaError.{DeltaError}
use Rattle.delta_table.specs.Log.{SaysCommit}
use Rattle.delta_table.specs.Refusals.{IsVersionRefusal}
use Rattle.delta_table.specs.Versions.{HasVersion}
use Rattle.delta_table.specs.declared.error.LogError.{LogError}
use Rattle.source_core.specs.declared.error.SourceError.{SourceError}
use Rattle.source_core.specs.declared.error.SourceError.TheVariants.{Limit}
use Rattle.source_delta.specs.Heads.{IsNewest}
use Rattle.source_delta.specs.Reading.{Tells, TellsCommit}

-- ---- whether they are there

-- The position is a version up to the newest, and each later one up to that is there. Of the version itself and of those before it nothing is asked.
pub record IsReached (files : Files) (position : List ℕ) (version newest : ℕ) : Type 0 where
  pub spelled : position ≡ decimal version
  pub is : IsNewest files newest
  pub within : version ≤ newest
  pub later : (v : ℕ) → version < v → v ≤ newest → HasVersion files v

abbrev pub Reaches : Files → List ℕ → Type 0
Reaches files position = (version newest : ℕ) × IsReached files position version newest

-- ---- the commits

-- What the version says can be taken over the table before it, and makes this change of that. The commit's position is the version in decimal.
pub record IsMadeOf (version : ℕ) (says : DeltaCommit) (before : Table) (commit : Commit) : Type 0 where
  pub position : commit.position ≡ decimal version
  pub taken : CanFollow says (Some before)
  pub change : IsChangeOf says (Some before) commit.change

-- The version is there, and its commit takes the table before it to the one after it.
pub record IsCommitOf (files : Files) (version : ℕ) (before : Table) (commit : Commit) (after : Table) : Type 0 where
  pub says : DeltaCommit
  pub read : SaysCommit files version says
  pub made : IsMadeOf version says before commit
  pub leads : IsAfter before commit.change after

-- the commits of as many versions after this one, each over the table that those before it leave; the last leaves `last`
abbrev pub AreCommits : Files → ℕ → Table → List Commit → Table → Type 0
AreCommits files version before [] last = before ≡ last
AreCommits files version before (commit ∷ commits) last =
    (after : Table) × IsCommitOf files (version + 1) before commit after × AreCommits files (version + 1) after commits last

-- So many versions after this one have so many adds and removes together.
abbrev pub HaveActions : Files → ℕ → ℕ → ℕ → Type 0
HaveActions files version zero actions = actions ≡ 0
HaveActions files version (suc count) actions =
    (before : ℕ) × HaveActions files version count before × (c : DeltaCommit) × SaysCommit files (version + suc count) c × (actions ≡ before + length c.files)

-- One commit for each version after the position up to the newest. They aren't more than are read, nor are their file actions together.
pub record IsSince (files : Files) (position : List ℕ) (base : Table) (commits : List Commit) : Type 0 where
  pub version : ℕ
  pub spelled : position ≡ decimal version
  pub newest : IsNewest files (version + length commits)
  pub few : length commits ≤ MAX_COMMITS
  pub last : Table
  pub are : AreCommits files version base commits last
  pub actions : ℕ
  pub counted : HaveActions files version (length commits) actions
  pub few_actions : actions ≤ MAX_ACTIONS

-- ---- causes

-- The version is refused by itself.
abbrev pub IsRefusedVersion : Files → ℕ → SourceError → Type 0
IsRefusedVersion files version e = (cause : LogError) × IsVersionRefusal files version cause × Tells cause e

-- More actions than are read, where so many come before those of this commit.
abbrev pub HasManyActions : ℕ → DeltaCommit → SourceError → Type 0
HasManyActions actions says e = (MAX_ACTIONS < actions + length says.files) × (e ≡ Limit limit.Actions MAX_ACTIONS)

-- What the version says can't be taken over the table before it.
abbrev pub IsRefusedOver : ℕ → DeltaCommit → Table → SourceError → Type 0
IsRefusedOver version says before e = (cause : DeltaError) × IsChangeRefusal says (Some before) cause × TellsCommit version cause e

-- The version can't be read; or there are too many actions up to it; or there aren't, and it can't be taken over the table before it.
abbrev pub IsRefusedBehind : Files → ℕ → Table → ℕ → SourceError → Type 0
IsRefusedBehind files version before actions e =
    IsRefusedVersion files version e
    ⊎ ((says : DeltaCommit) × SaysCommit files version says
    × (HasManyActions actions says e ⊎ ((actions + length says.files ≤ MAX_ACTIONS) × IsRefusedOver version says before e)))

-- A version after this one up to the newest is refused so, and those before it are taken one after another.
pub record StopsBehind (files : Files) (version newest : ℕ) (base : Table) (e : SourceError) : Type 0 where
  pub commits : List Commit
  pub before : Table
  pub are : AreCommits files version base commits before
  pub actions : ℕ
  pub counted : HaveActions files version (length commits) actions
  pub few_actions : actions ≤ MAX_ACTIONS
  pub within : version + length commits < newest
  pub refused : IsRefusedBehind files (version + length commits + 1) before actions e

-- More versions come after this one than are read.
abbrev pub HasManyCommits : ℕ → ℕ → SourceError → Type 0
HasManyCommits version newest e = (version + MAX_COMMITS < newest) × (e ≡ Limit limit.Commits MAX_COMMITS)

-- Reading from a position that is reached reads the versions after it, where they aren't more commits than are read.
abbrev pub ShowsFromPosition : Files → List ℕ → Table → SourceError → Type 0
ShowsFromPosition files position base e =
    (version newest : ℕ) × IsReached files position version newest
    × (HasManyCommits version newest e ⊎ ((newest ≤ version + MAX_COMMITS) × StopsBehind files version newest base e))
