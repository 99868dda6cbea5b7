-- What applying a plan answers and leaves.
use Rattle.std.specs.Prelude.{◌≡◌, ◌≢◌, ◌⊎◌, ◌+◌, ◌<◌, ◌≤◌, ℕ, Bool, List, [], length, take, Option, Some, None, IfErr, IfOk, IsErrOf, Result, Ok, Err, is_ok, true}
use Rattle.lake_basics.specs.declared.limits.TheConstants.{MAX_FILE_BYTES}
use Rattle.lake_store.specs.Disk.{AddsShort, Files}
use Rattle.lake_store.specs.Runs.{FailsBy, IsContestedBy, IsEachMoment, OnlyReads}
use Rattle.lake_store.specs.declared.store.Store.{Ghosts}
use Rattle.source_core.specs.declared.error.SourceError.{SourceError}
use Rattle.source_core.specs.declared.error.SourceError.TheVariants as source
use Rattle.table_history.specs.Rows.{HasDistinctPaths}
use Rattle.table_history.specs.TypeTree.{ColumnTrees}
use Rattle.table_history.specs.declared.kind.Kind.{Kind}
use Rattle.table_history.specs.declared.limit.LimitKind.{LimitKind}
use Rattle.table_history.specs.declared.limit.LimitKind.TheVariants.{Names}
use Rattle.table_history.specs.declared.table.Commit.{Commit}
use Rattle.target_core.specs.Conditions.{CanPublishAll}
use Rattle.target_core.specs.Gained.{Carries, CarriesAt, Gained}
use Rattle.target_core.specs.Meaning.{Meaning}
use Rattle.target_core.specs.Outcome.{Uncontested}
use Rattle.target_core.specs.OwnFiles.{TouchesOwn}
use Rattle.target_core.specs.Publishing.{Publishes}
use Rattle.target_core.specs.Views.{IsAdvancedAll, Origin, Standing, View}
use Rattle.target_core.specs.Written.{IsAsLeft, KeepsTheirs, StayAfter}
use Rattle.target_core.specs.declared.target.TargetError.{TargetError}
use Rattle.target_core.specs.declared.target.TargetError.TheVariants.{Memory, StoreFault, Contested, Limit, Unsupported}
use Rattle.target_sync.specs.Targets.{IsStart}
use Rattle.target_sync.specs.declared.apply.Report.{Report}
use Rattle.target_sync.specs.declared.status.Side.TheVariants as side
use Rattle.target_sync.specs.declared.status.Status.{Status}
use Rattle.target_sync.specs.declared.status.Status.TheVariants as status

-- ---- refusals as statuses

abbrev pub status_of_source : SourceError → Status
status_of_source source.Memory = status.Memory
status_of_source source.Absent = status.Absent
status_of_source (source.Malformed path) = status.Malformed path
status_of_source (source.Unsupported feature path) = status.Unsupported side.Source feature path
status_of_source (source.Limit which number) = status.Limit side.Source which number
status_of_source source.StoreFault = status.StoreFault

-- an answer of a source, as a command's
abbrev pub answer_of_source : {A : Type 0} → Result A SourceError → Result A Status
answer_of_source (Ok value) = Ok value
answer_of_source (Err e) = Err (status_of_source e)

abbrev pub status_of_target : Kind → TargetError → Status
status_of_target kind Memory = status.Memory
status_of_target kind StoreFault = status.StoreFault
status_of_target kind Contested = status.Contested kind
status_of_target kind (Limit which number) = status.Limit (side.Target kind) which number
status_of_target kind (Unsupported feature path) = status.Unsupported (side.Target kind) feature path

-- ---- what may be applied

-- The commits go on from what is kept, and may be published over it where it has these partition columns.
pub record CanApplyPlan (image : ColumnTrees → Option ColumnTrees) (source : Kind) (origin : Origin) (partition : List (List ℕ)) (commits : List Commit) (view : View) : Type 0 where
  pub start : IsStart source partition view
  pub can : view.table.partition ≡ partition → CanPublishAll image origin view commits

-- ---- what is answered

abbrev pub position_at : Option Standing → List ℕ
position_at None = []
position_at (Some standing) = standing.to

-- So many commits were published, and the target shows this view.
pub record IsReportOf (count : ℕ) (full : Bool) (last : View) (report : Report) : Type 0 where
  pub way : report.full ≡ full
  pub published : report.published ≡ count
  pub distinct : HasDistinctPaths last.table.rows
  pub files : report.files ≡ length last.table.rows
  pub at : report.at ≡ position_at last.mark

-- The commits were published, and what is reported is what the files now stand for.
pub record IsTold (target : Meaning) (origin : Origin) (start : View) (commits : List Commit) (full : Bool) (Stands : Type 0) (files : Files) (report : Report) : Type 0 where
  pub last : View
  pub leads : IsAdvancedAll target.image origin start commits last
  pub is : IsReportOf (length commits) full last report
  pub reads : Stands → target.reads files last

-- each of these commits that the image shows stands in the files
abbrev pub StayShown : Meaning → Origin → ℕ → List Commit → Files → Files → Type 0
StayShown target origin count commits files image = (i : ℕ) → CarriesAt target origin count commits i image → CarriesAt target origin count commits i files

-- Publishing one of the commits met another writer's. Those before it left just what they write, which stays byte for byte, and they stand, as does each
-- that a crash would have shown. That writer's stays byte for byte too, and nothing is published after it.
pub record IsContestedAt {S : Type 0} (store : Ghosts S) (target : Meaning) (written : List Commit → Files → Type 0) (origin : Origin) (start : View) (partition : List (List ℕ)) (commits : List Commit) (old new : S) : Type 0 where
  pub place : ℕ
  pub within : place < length commits
  pub columns : start.table.partition ≡ partition
  pub published : Carries target origin start.commits commits place (store.disk new).files
  pub left : StayAfter store target (written (take place commits)) new
  pub newest : target.commits_in (store.disk new).files ≤ start.commits + place + 1
  pub stay : IsEachMoment store old new (StayShown target origin start.commits commits (store.disk new).files)
  pub theirs : KeepsTheirs store target left.middle new

-- Publishing one of the commits passes this number. Those before it are published and left just what they write, which stays byte for byte, and it isn't.
-- Where it isn't the number of names, there are some before it, and no file has changed since.
pub record IsLimitedAt {S : Type 0} (store : Ghosts S) (target : Meaning) (passes : List Commit → LimitKind → ℕ → Type 0) (written : List Commit → Files → Type 0) (origin : Origin) (start : View) (partition : List (List ℕ)) (commits : List Commit) (old new : S) (which : LimitKind) (number : ℕ) : Type 0 where
  pub place : ℕ
  pub within : place < length commits
  pub columns : start.table.partition ≡ partition
  pub passed : passes (take (place + 1) commits) which number
  pub left : StayAfter store target (written (take place commits)) new
  pub gained : Gained target origin start (store.disk old).files commits place (store.disk new).files
  pub untouched : which ≢ Names → (0 < place) × written (take place commits) (store.disk new).files

-- Publishing the commits ended with a refusal. The first so many of them left just what they write, which stays byte for byte. Unless another writer was
-- in the way at most one more is published, and what commits reach is just what the published ones leave.
pub record IsStoppedAt {S : Type 0} (store : Ghosts S) (target : Meaning) (written : List Commit → Files → Type 0) (Uncontested : Type 0) (origin : Origin) (start : View) (commits : List Commit) (old new : S) : Type 0 where
  pub place : ℕ
  pub within : place ≤ length commits
  pub left : StayAfter store target (written (take place commits)) new
  pub gained : Uncontested → (n : ℕ) × (place ≤ n) × (n ≤ place + 1) × Gained target origin start (store.disk old).files commits n (store.disk new).files
      × IsAsLeft target.reached (written (take n commits)) (store.disk new).files

-- Some first commits of the list pass the number.
abbrev pub PassesIn : (List Commit → LimitKind → ℕ → Type 0) → List Commit → LimitKind → ℕ → Type 0
PassesIn passes commits which number = (place : ℕ) × (place < length commits) × passes (take (place + 1) commits) which number

-- The first commit of the list passes the number.
abbrev pub PassesAtFirst : (List Commit → LimitKind → ℕ → Type 0) → List Commit → LimitKind → ℕ → Type 0
PassesAtFirst passes commits which number = (0 < length commits) × passes (take 1 commits) which number

-- The commits don't fit, and no file changed; or publishing one of them was refused.
abbrev pub IsApplyRefusal : Type 0 → (TargetError → Type 0) → (LimitKind → ℕ → Type 0) → TargetError → Type 0
IsApplyRefusal Idle unfit passes Memory = Unit {0}
IsApplyRefusal Idle unfit passes StoreFault = Unit {0}
IsApplyRefusal Idle unfit passes Contested = Unit {0}
IsApplyRefusal Idle unfit passes (Limit which number) = (Idle × unfit (Limit which number)) ⊎ passes which number
IsApplyRefusal Idle unfit passes (Unsupported feature path) = Idle × unfit (Unsupported feature path)

-- an answer of a target of this format, as a command's
abbrev pub answer_of_target : Kind → Result Report TargetError → Result Report Status
answer_of_target kind (Ok report) = Ok report
answer_of_target kind (Err e) = Err (status_of_target kind e)

-- What applying a plan does. The partition columns are the same wherever something is published, and where all are published just what they write has
-- come. `Stands` says that what was kept stood for the files, and that these were settled.
pub record Applies {S : Type 0} (store : Ghosts S) (target : Meaning) (unfit : TargetError → Type 0) (passes : List Commit → LimitKind → ℕ → Type 0) (written : List Commit → Files → Type 0) (origin : Origin) (start : View) (partition : List (List ℕ)) (commits : List Commit) (full : Bool) (Stands : Type 0)
    (old new : S) (answer : Result Report TargetError) : Type 0 where
  pub alone : store.tells → TouchesOwn store target.kind old new
  pub short : store.tells → AddsShort MAX_FILE_BYTES (store.disk old).files (store.disk new).files
  pub publishes : store.tells → Stands → Publishes store target origin start commits (Uncontested answer) (is_ok answer) old new
  pub none : store.tells → commits ≡ [] → OnlyReads store old new
  pub columns : commits ≢ [] → (start.table.partition ≡ partition) ⊎ ((is_ok answer ≡ true → ⊥) × (store.tells → OnlyReads store old new))
  pub writes : store.tells → Stands → IfOk answer (λ report. written commits (store.disk new).files)
  pub reported : IfOk answer (IsTold target origin start commits full (store.tells × Stands) (store.disk new).files)
  pub refused : store.tells → IfErr answer (IsApplyRefusal (OnlyReads store old new) unfit (PassesIn passes commits))
  pub stopped : store.tells → Stands → IfErr answer (λ e. OnlyReads store old new ⊎ IsStoppedAt store target written (e ≡ Contested → ⊥) origin start commits old new)
  pub contested : store.tells → Stands → IsErrOf answer Contested → IsContestedAt store target written origin start partition commits old new
  pub limited : store.tells → Stands → (which : LimitKind) (number : ℕ) → IsErrOf answer (Limit which number)
      → (OnlyReads store old new × (unfit (Limit which number) ⊎ PassesAtFirst passes commits which number)) ⊎ IsLimitedAt store target passes written origin start partition commits old new which number
  pub fault : FailsBy store old new (IsErrOf answer StoreFault)
  pub contest : IsContestedBy store old new (IsErrOf answer Contested)
