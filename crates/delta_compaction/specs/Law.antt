-- A log compaction stands for its commits: behind every commits before them and over every table it leaves the same live rows, and the same newest
-- protocol and metadata (Delta protocol, "Log Compaction Files" and "Action Reconciliation").
use Rattle.std.specs.Prelude.{◌≡◌, ◌↔◌, List, [], ◌∷◌, ◌++◌, All, Contains, Option, Some, None}
use Rattle.table_history.specs.Row.{Row}
use Rattle.delta_log.specs.declared.commit.DeltaCommit.{DeltaCommit}
use Rattle.delta_log.specs.declared.commit.FileAction.{FileAction}
use Rattle.delta_log.specs.declared.commit.MetaData.{MetaData}
use Rattle.delta_log.specs.declared.commit.Protocol.{Protocol}
use Rattle.delta_log.specs.Commit.{file_path}
use Rattle.delta_live.specs.Live.{ActsOn, IsLiveOver, PartColumns}

-- Of the commits, the newest that has such a part has this one.
pub record IsNewestPart {A : Type 0} (part : DeltaCommit → Option A) (commits : List DeltaCommit) (a : A) : Type 0 where
  pub front : List DeltaCommit
  pub commit : DeltaCommit
  pub later : List DeltaCommit
  pub split : commits ≡ front ++ commit ∷ later
  pub is : part commit ≡ Some a
  pub newest : All (λ c. part c ≡ None) later

-- One of the commits has the file action, and no later one acts on its path.
pub record IsNewestAction (commits : List DeltaCommit) (action : FileAction) : Type 0 where
  pub front : List DeltaCommit
  pub commit : DeltaCommit
  pub later : List DeltaCommit
  pub split : commits ≡ front ++ commit ∷ later
  pub acts : Contains commit.files action
  pub newest : All (λ c. ¬ ActsOn (file_path action) c) later

-- The one commit says the newest that the commits say of each thing.
pub record Joins (commits : List DeltaCommit) (c : DeltaCommit) : Type 0 where
  pub protocol : (p : Protocol) → (c.protocol ≡ Some p) ↔ IsNewestPart (λ d. d.protocol) commits p
  pub meta : (m : MetaData) → (c.meta ≡ Some m) ↔ IsNewestPart (λ d. d.meta) commits m
  pub files : (action : FileAction) → Contains c.files action ↔ IsNewestAction commits action

-- Whatever commits come before, and whatever rows before these, the one commit leaves what the commits leave.
pub record StandsFor (commits : List DeltaCommit) (c : DeltaCommit) : Type 0 where
  pub rows : (columns : PartColumns) (origin : List Row) (before : List DeltaCommit) (row : Row) → IsLiveOver columns origin (before ++ c ∷ []) row ↔ IsLiveOver columns origin (before ++ commits) row
  pub protocol : (before : List DeltaCommit) (p : Protocol) → IsNewestPart (λ d. d.protocol) (before ++ c ∷ []) p ↔ IsNewestPart (λ d. d.protocol) (before ++ commits) p
  pub meta : (before : List DeltaCommit) (m : MetaData) → IsNewestPart (λ d. d.meta) (before ++ c ∷ []) m ↔ IsNewestPart (λ d. d.meta) (before ++ commits) m
