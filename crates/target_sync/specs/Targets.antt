-- What the files of a target mean, and why commits aren't published over them, whatever code keeps of them.
use Rattle.std.specs.Prelude.{◌≡◌, ◌⊎◌, ◌<◌, ℕ, List}
use Rattle.lake_store.specs.Disk.{Files}
use Rattle.table_history.specs.declared.kind.Kind.{Kind}
use Rattle.table_history.specs.declared.limit.LimitKind.{LimitKind}
use Rattle.table_history.specs.declared.table.Commit.{Commit}
use Rattle.target_core.specs.Meaning.{Meaning}
use Rattle.target_core.specs.TargetMeanings.{meaning}
use Rattle.target_core.specs.Views.{IsOfSource, IsUnpublished, Origin, View}
use Rattle.target_core.specs.Written.{HaveLeft}
use Rattle.target_core.specs.declared.target.Target.{Ghosts}
use Rattle.target_core.specs.declared.target.TargetError.{TargetError}

pub record TargetFacts : Type 1 where
  pub files : Meaning
  -- for a source of this format the target is neither absent nor ours, and this is the first path at fault
  pub is_foreign : Kind → Files → List ℕ → Type 0
  -- what inspecting for a source of this format lists or reads passes this number
  pub is_crowded : Kind → Files → LimitKind → ℕ → Type 0
  -- these commits of a source of these partition columns don't fit what the files hold, for this cause
  pub unfit : Files → List (List ℕ) → List Commit → TargetError → Type 0
  -- publishing these commits of a source of these partition columns over the files, at this time, passes this number at the last of them
  pub passes : Files → List (List ℕ) → Origin → ℕ → List Commit → LimitKind → ℕ → Type 0
  -- over the files, publishing these commits of a source of these partition columns one behind the other, at this time, leaves these files
  pub writes : Files → List (List ℕ) → Origin → ℕ → List Commit → Files → Type 0

-- A target without a commit has these partition columns.
abbrev pub Begins : List (List ℕ) → View → Type 0
Begins partition view = IsUnpublished view → view.table.partition ≡ partition

-- What is kept is what the files hold, and before the first commit it is of these partition columns.
abbrev pub IsKept : {T K : Type 0} → Ghosts T K → T → Files → List (List ℕ) → K → Type 0
IsKept target t files partition kept = target.stands_for t kept files × Begins partition (target.view t kept)

-- Over these files, of which this is kept, publishing these commits one behind the other, at this time, leaves these files.
abbrev pub HaveWritten : {T K : Type 0} → Ghosts T K → T → K → Files → Origin → ℕ → List Commit → Files → Type 0
HaveWritten {T} {K} target t kept files origin now commits after = HaveLeft (target.stands_for t) (λ here before commit next. target.writes t here before origin now commit next) kept files commits after

abbrev pub target_facts : {T K : Type 0} → Ghosts T K → T → TargetFacts
target_facts {T} {K} target t = record {
  files = meaning target t;
  is_foreign = target.is_foreign t;
  is_crowded = target.is_crowded t;
  unfit = λ files partition commits e. (kept : K) × IsKept target t files partition kept × target.unfit t kept partition commits e;
  passes = λ files partition origin now commits which number. (kept : K) × IsKept target t files partition kept × target.passes t kept files origin now commits which number;
  writes = λ files partition origin now commits after. (kept : K) × IsKept target t files partition kept × HaveWritten target t kept files origin now commits after;
}

-- Nothing is published and the partition columns are these, or a commit is published and its mark names a source of this format.
abbrev pub IsStart : Kind → List (List ℕ) → View → Type 0
IsStart source partition view = (IsUnpublished view × (view.table.partition ≡ partition)) ⊎ (IsOfSource source view × (0 < view.commits))
