-- A plan of what is due to a target.
use Rattle.std.specs.Prelude.{◌≡◌, ◌⊎◌, ◌<◌, ℕ, true, false, List, [], ◌∷◌, length, Option, Some, None}
use Rattle.lake_store.specs.Disk.{Files}
use Rattle.source_core.specs.Since.{CanApplyAll}
use Rattle.source_core.specs.declared.head.Head.{Head}
use Rattle.source_core.specs.declared.since.Since.{Since}
use Rattle.source_core.specs.declared.since.Since.TheVariants.{Commits, NotReached}
use Rattle.table_history.specs.Tables.{LeadsTo}
use Rattle.table_history.specs.TypeTree.{ColumnTrees}
use Rattle.table_history.specs.declared.kind.Kind.{Kind}
use Rattle.table_history.specs.declared.table.Commit.{Commit}
use Rattle.table_history.specs.declared.table.Table.{Table}
use Rattle.target_core.specs.Conditions.{CanPublish, IsPublishable}
use Rattle.target_core.specs.Views.{IsOfSource, Standing, View, absent}
use Rattle.target_core.specs.declared.target.Seen.{Seen}
use Rattle.target_core.specs.declared.target.Seen.TheVariants.{Absent, Ours, Foreign}
use Rattle.target_sync.specs.Applied.{CanApplyPlan}
use Rattle.target_sync.specs.Dues.{AreSinceMark, IsChangeTo, IsIdBehind, IsInFull, IsMarked, IsWhole, TakesCommits}
use Rattle.target_sync.specs.Sources.{SourceMeaning}
use Rattle.target_sync.specs.declared.plan.Mode.{Mode}
use Rattle.target_sync.specs.declared.plan.Mode.TheVariants as modes
use Rattle.target_sync.specs.declared.plan.Plan.{Plan}

-- ---- what was found of a target

-- what inspecting found: a target without a commit, or what is kept of ours
abbrev pub IsFound : {K : Type 0} → (Files → View → Type 0) → (K → Files → Type 0) → Files → Option K → Type 0
IsFound reads stands_for files None = reads files (absent [])
IsFound reads stands_for files (Some kept) = stands_for kept files

-- what is kept of ours has a commit, and a mark of the source's format
abbrev pub IsFoundOurs : {K : Type 0} → (K → View) → Kind → Option K → Type 0
IsFoundOurs view source None = Unit {0}
IsFoundOurs view source (Some kept) = IsOfSource source (view kept) × (0 < (view kept).commits)

-- the mark of what is kept of ours is of the source's format
abbrev pub IsFoundOfSource : {K : Type 0} → (K → View) → Kind → Option K → Type 0
IsFoundOfSource view source None = Unit {0}
IsFoundOfSource view source (Some kept) = IsOfSource source (view kept)

-- the table of what is kept of ours may be published
abbrev pub IsFoundPublishable : {K : Type 0} → (K → View) → Option K → Type 0
IsFoundPublishable view None = Unit {0}
IsFoundPublishable view (Some kept) = IsPublishable (view kept).table

abbrev pub IsSeenPublishable : {K : Type 0} → (K → View) → Seen K → Type 0
IsSeenPublishable view Absent = Unit {0}
IsSeenPublishable view (Ours kept) = IsPublishable (view kept).table
IsSeenPublishable view (Foreign path) = Unit {0}

-- What was found of ours, or else what is kept before the first commit of a target of these partition columns.
abbrev pub IsStartOf : {K : Type 0} → (K → View) → (Files → View → Type 0) → (K → Files → Type 0) → Option K → List (List ℕ) → K → Type 0
IsStartOf view reads stands_for None partition kept = (view kept ≡ absent partition) × ((files : Files) → reads files (absent []) → stands_for kept files)
IsStartOf view reads stands_for (Some found) partition kept = kept ≡ found

-- it takes the whole table, since the commits after its mark aren't taken
abbrev pub IsFoundInFull : {K : Type 0} → (K → View) → SourceMeaning → Mode → Files → Option K → Type 0
IsFoundInFull view source mode files None = Unit {0}
IsFoundInFull view source mode files (Some kept) = ¬ TakesCommits source mode files (view kept)

-- ---- the commits since its mark

-- the commits since the view's mark, over its table, where the history since it is whole
abbrev pub IsSinceMark : SourceMeaning → Files → View → Since → Type 0
IsSinceMark source files view (Commits commits) = IsMarked view (λ standing. IsWhole source files standing × source.is_since files standing.to view.table commits)
IsSinceMark source files view NotReached = ¬ IsMarked view (IsWhole source files)

-- the id that the mark states
abbrev pub marked_id : Option Standing → Option (List ℕ)
marked_id None = None
marked_id (Some standing) = standing.origin.table

-- the first id, or else the second
abbrev pub id_or : Option (List ℕ) → Option (List ℕ) → Option (List ℕ)
id_or None other = other
id_or (Some id) other = Some id

-- ---- plans

-- These commits, over what is kept.
pub record IsSincePlan {K : Type 0} (view : K → View) (head : Head) (kept : K) (since : List Commit) (plan : Plan K) : Type 0 where
  pub is_kept : plan.kept ≡ kept
  pub partition : plan.partition ≡ (view kept).table.partition
  pub commits : plan.commits ≡ since
  pub full : plan.full ≡ false
  pub id : plan.table ≡ id_or head.table (marked_id (view kept).mark)

-- One commit with the table at the head, over what is kept.
pub record IsFullPlan {K : Type 0} (view : K → View) (head : Head) (table : Table) (stated : Option (List ℕ)) (kept : K) (plan : Plan K) : Type 0 where
  pub is_kept : plan.kept ≡ kept
  pub commit : Commit
  pub commits : plan.commits ≡ commit ∷ []
  pub position : commit.position ≡ head.position
  pub change : IsChangeTo (view kept).table table commit.change
  pub leads : LeadsTo (view kept).table.rows commit.change.removed commit.change.added table.rows
  pub partition : plan.partition ≡ table.partition
  pub full : plan.full ≡ true
  pub id : plan.table ≡ stated
  pub can : (view kept).table.partition ≡ table.partition → CanPublish (view kept) commit

-- What is planned may be applied, also where the store tells nothing. In full it is one commit, and by the command `full` it is in full. Other
-- commits fit what is kept whatever types a target has.
pub record IsSoundPlan {K : Type 0} (view : K → View) (image : ColumnTrees → Option ColumnTrees) (source : Kind) (mode : Mode) (plan : Plan K) : Type 0 where
  pub can : CanApplyPlan image source (record { source = source; table = plan.table }) plan.partition plan.commits (view plan.kept)
  pub one : plan.full ≡ true → length plan.commits ≡ 1
  pub way : mode ≡ modes.Full → plan.full ≡ true
  pub since : plan.full ≡ false → CanApplyAll (view plan.kept).table plan.commits

-- What is planned is what is due, over what is kept of these files.
pub record IsDuePlan {K : Type 0} (view : K → View) (stands_for : K → Files → Type 0) (source : SourceMeaning) (mode : Mode) (files : Files) (head : Head) (plan : Plan K) : Type 0 where
  pub stands : stands_for plan.kept files
  pub is_id : IsIdBehind source files (view plan.kept) head.table plan.table
  pub way : AreSinceMark source mode files (view plan.kept) plan.partition plan.commits plan.full ⊎ IsInFull source mode files (view plan.kept) head plan.partition plan.commits plan.full
