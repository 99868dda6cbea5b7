-- What a sync of one target answers, and why.
use Rattle.std.specs.Prelude.{◌≡◌, ◌⊎◌, ℕ, List, length, Option, Some, None, Result, Ok, Err, true}
use Rattle.lake_basics.specs.declared.limits.TheConstants.{MAX_FILE_BYTES}
use Rattle.lake_store.specs.Cause.{Rose}
use Rattle.lake_store.specs.Disk.{AddsShort, Files, IsClean}
use Rattle.lake_store.specs.Runs.{FailsBy, IsIn}
use Rattle.lake_store.specs.declared.store.Store.{Ghosts}
use Rattle.table_history.specs.Rows.{HasDistinctPaths}
use Rattle.table_history.specs.declared.kind.Kind.{Kind}
use Rattle.table_history.specs.declared.limit.LimitKind.{LimitKind}
use Rattle.table_history.specs.declared.table.Commit.{Commit}
use Rattle.source_core.specs.Answers.{IsReadRefusal}
use Rattle.source_core.specs.declared.error.SourceError.{SourceError}
use Rattle.source_core.specs.declared.error.SourceError.TheVariants as source_error
use Rattle.source_core.specs.declared.head.Head.{Head}
use Rattle.target_core.specs.Conditions.{GoesOn}
use Rattle.target_core.specs.Folders.{folder_of}
use Rattle.target_core.specs.Gained.{Gained}
use Rattle.target_core.specs.Views.{IsAdvancedAll, IsUnpublished, Origin, View}
use Rattle.target_core.specs.declared.target.TargetError.{TargetError}
use Rattle.target_core.specs.declared.target.TargetError.TheVariants as target_error
use Rattle.target_sync.specs.Applied.{PassesAtFirst, PassesIn, status_of_source}
use Rattle.target_sync.specs.Dues.{Due, IsMarked, IsSinceFault, IsWhole, TakesCommits, origin_of}
use Rattle.target_sync.specs.Others.{ChangesTargets, CountsContest, HasWritten, IsApart, IsIdle}
use Rattle.target_sync.specs.Sources.{HasHead, SourceMeaning}
use Rattle.target_sync.specs.Synced.{HasTable, IsContested, IsLimited, IsStopped, KeepsSource, Synced, with_columns}
use Rattle.target_sync.specs.Targets.{TargetFacts}
use Rattle.target_sync.specs.declared.apply.Report.{Report}
use Rattle.target_sync.specs.declared.plan.Mode.{Mode}
use Rattle.target_sync.specs.declared.plan.Mode.TheVariants as modes
use Rattle.target_sync.specs.declared.status.Side.TheVariants as side
use Rattle.target_sync.specs.declared.status.Status.{Status}
use Rattle.target_sync.specs.declared.status.Status.TheVariants as status

-- ---- the causes

-- The target stands at a view of this kind.
abbrev pub StandsAt : TargetFacts → Files → (View → Type 0) → Type 0
StandsAt target files P = (start : View) × target.files.reads files start × P start

-- What is read of the source behind its head has this for a fault. Where the history since the target's mark is whole, a sync reads the commits after it, over the
-- target's table, and otherwise the whole table from scratch.
abbrev pub IsReadFault : SourceMeaning → TargetFacts → Mode → Files → SourceError → Type 0
IsReadFault source target mode files e =
    HasHead source files
    × StandsAt target files (λ start. GoesOn source.kind start
    × (((mode ≡ modes.Sync) × IsSinceFault source files start e)
    ⊎ ((¬ TakesCommits source mode files start) × source.from_scratch files e)))

abbrev pub IsSourceFault : SourceMeaning → TargetFacts → Mode → Files → SourceError → Type 0
IsSourceFault source target mode files e = source.at_head files e ⊎ IsReadFault source target mode files e

-- The commits that are due don't fit the target, for this cause.
abbrev pub IsUnfit : SourceMeaning → TargetFacts → Mode → Files → TargetError → Type 0
IsUnfit source target mode files e = StandsAt target files (λ start. GoesOn source.kind start
    × ((due : Due source mode files start) × target.unfit files due.partition due.commits e))

-- Publishing one of the commits that are due, behind those before it, passes this number.
abbrev pub IsPassed : SourceMeaning → TargetFacts → Mode → ℕ → Files → LimitKind → ℕ → Type 0
IsPassed source target mode now files which number = StandsAt target files (λ start. GoesOn source.kind start
    × ((due : Due source mode files start) × PassesIn (target.passes files due.partition (origin_of due) now) due.commits which number))

-- the first of the commits that are due passes this number
abbrev pub IsPassedAtFirst : SourceMeaning → TargetFacts → Mode → ℕ → Files → LimitKind → ℕ → Type 0
IsPassedAtFirst source target mode now files which number = StandsAt target files (λ start. GoesOn source.kind start
    × ((due : Due source mode files start) × PassesAtFirst (target.passes files due.partition (origin_of due) now) due.commits which number))

-- This number is passed before anything is published: by what inspecting the target lists or reads, by the list of the commits that are due, or by the
-- first of them.
abbrev pub IsOverAtFirst : SourceMeaning → TargetFacts → Mode → ℕ → Files → LimitKind → ℕ → Type 0
IsOverAtFirst source target mode now files which number =
    target.is_crowded source.kind files which number ⊎ (IsUnfit source target mode files (target_error.Limit which number) ⊎ IsPassedAtFirst source target mode now files which number)

-- Why a sync is refused. Want of memory and a fault of the store have no cause in the files, nor has a contest. `Idle` says that no file of the target
-- changed.
abbrev pub IsRefusal : Type 0 → SourceMeaning → TargetFacts → Mode → ℕ → Files → Status → Type 0
IsRefusal Idle source target mode now files status.Done = ⊥
IsRefusal Idle source target mode now files status.Memory = Unit {0}
IsRefusal Idle source target mode now files status.Usage = ⊥
IsRefusal Idle source target mode now files status.Absent = Idle × source.is_absent files
IsRefusal Idle source target mode now files (status.Malformed path) = Idle × IsSourceFault source target mode files (source_error.Malformed path)
IsRefusal Idle source target mode now files (status.Unsupported side.Source feature path) = Idle × IsSourceFault source target mode files (source_error.Unsupported feature path)
IsRefusal Idle source target mode now files (status.Unsupported (side.Target kind) feature path) = Idle × (kind ≡ target.files.kind) × IsUnfit source target mode files (target_error.Unsupported feature path)
IsRefusal Idle source target mode now files (status.Limit side.Source which number) = Idle × IsSourceFault source target mode files (source_error.Limit which number)
IsRefusal Idle source target mode now files (status.Limit (side.Target kind) which number) =
    (kind ≡ target.files.kind)
    × ((Idle × HasHead source files × target.is_crowded source.kind files which number)
    ⊎ ((Idle × IsUnfit source target mode files (target_error.Limit which number))
    ⊎ IsPassed source target mode now files which number))
IsRefusal Idle source target mode now files (status.Foreign kind path) = Idle × (kind ≡ target.files.kind) × HasHead source files × target.is_foreign source.kind files path
IsRefusal Idle source target mode now files (status.Contested kind) = kind ≡ target.files.kind
IsRefusal Idle source target mode now files status.StoreFault = Unit {0}
IsRefusal Idle source target mode now files status.SinkFault = ⊥
IsRefusal Idle source target mode now files (status.Behind kind at head) = ⊥
IsRefusal Idle source target mode now files (status.Differs kind path) = ⊥
IsRefusal Idle source target mode now files (status.Stale path) = ⊥

-- a refusal of a sync with a target of this format, also where the store tells nothing
abbrev pub IsOfSync : Kind → Status → Type 0
IsOfSync target status.Memory = Unit {0}
IsOfSync target status.Absent = Unit {0}
IsOfSync target (status.Malformed path) = Unit {0}
IsOfSync target (status.Unsupported side.Source feature path) = Unit {0}
IsOfSync target (status.Unsupported (side.Target kind) feature path) = kind ≡ target
IsOfSync target (status.Limit side.Source which number) = Unit {0}
IsOfSync target (status.Limit (side.Target kind) which number) = kind ≡ target
IsOfSync target (status.Foreign kind path) = kind ≡ target
IsOfSync target (status.Contested kind) = kind ≡ target
IsOfSync target status.StoreFault = Unit {0}
IsOfSync target _ = ⊥

-- why inspecting a target is refused
abbrev pub IsLookRefusal : Kind → (LimitKind → ℕ → Type 0) → Status → Type 0
IsLookRefusal target is_crowded status.Memory = Unit {0}
IsLookRefusal target is_crowded status.StoreFault = Unit {0}
IsLookRefusal target is_crowded (status.Limit (side.Target kind) which number) = (kind ≡ target) × is_crowded which number
IsLookRefusal target is_crowded _ = ⊥

-- a refusal of inspecting a target of this format, or that it is foreign, also where the store tells nothing
abbrev pub IsOfLook : Kind → Status → Type 0
IsOfLook target status.Memory = Unit {0}
IsOfLook target status.StoreFault = Unit {0}
IsOfLook target (status.Limit (side.Target kind) which number) = kind ≡ target
IsOfLook target (status.Foreign kind path) = kind ≡ target
IsOfLook target _ = ⊥

-- it isn't that a target is foreign
abbrev pub IsNotForeign : Status → Type 0
IsNotForeign (status.Foreign kind path) = ⊥
IsNotForeign _ = Unit {0}

-- why a target that is inspected isn't gone on from: it is foreign, or inspecting it is refused
abbrev pub IsEarly : SourceMeaning → TargetFacts → Files → Status → Type 0
IsEarly source target files status.Memory = Unit {0}
IsEarly source target files status.StoreFault = Unit {0}
IsEarly source target files (status.Limit (side.Target kind) which number) = (kind ≡ target.files.kind) × target.is_crowded source.kind files which number
IsEarly source target files (status.Foreign kind path) = (kind ≡ target.files.kind) × target.is_foreign source.kind files path
IsEarly source target files _ = ⊥

-- it came when that was done: for what is read of the source, or for what is due to the target
abbrev pub IsLate : SourceMeaning → TargetFacts → Mode → ℕ → Files → Status → Type 0
IsLate source target mode now files (status.Limit (side.Target kind) which number) = IsUnfit source target mode files (target_error.Limit which number) ⊎ IsPassed source target mode now files which number
IsLate source target mode now files (status.Foreign kind path) = ⊥
IsLate source target mode now files _ = Unit {0}

-- Why planning is refused: the target is foreign, or reading the source is refused.
abbrev pub IsPlanRefusal : SourceMeaning → TargetFacts → Mode → Files → Status → Type 0
IsPlanRefusal source target mode files e =
    ((path : List ℕ) × (e ≡ status.Foreign target.files.kind path) × target.is_foreign source.kind files path)
    ⊎ ((fault : SourceError) × (e ≡ status_of_source fault) × IsReadRefusal (IsReadFault source target mode files) fault)

-- ---- answers, of which there is none where the command ended before

abbrev pub Answer : Type 0
Answer = Option (Result Report Status)

abbrev pub IsCaused : Type 0 → SourceMeaning → TargetFacts → Mode → ℕ → Files → Answer → Type 0
IsCaused Idle source target mode now files None = Idle
IsCaused Idle source target mode now files (Some (Ok report)) = Unit {0}
IsCaused Idle source target mode now files (Some (Err e)) = IsRefusal Idle source target mode now files e

abbrev pub IsFew : Kind → Answer → Type 0
IsFew target None = Unit {0}
IsFew target (Some (Ok report)) = Unit {0}
IsFew target (Some (Err e)) = IsOfSync target e

abbrev pub IsDone : Answer → Type 0
IsDone None = ⊥
IsDone (Some (Ok report)) = Unit {0}
IsDone (Some (Err e)) = ⊥

abbrev pub IsContest : Status → Type 0
IsContest (status.Contested kind) = Unit {0}
IsContest _ = ⊥

-- another writer was not in the way
abbrev pub IsUndisturbed : Answer → Type 0
IsUndisturbed None = Unit {0}
IsUndisturbed (Some (Ok report)) = Unit {0}
IsUndisturbed (Some (Err e)) = ¬ IsContest e

-- ---- which answers come first

-- It came with the head of a source of which nothing is there.
abbrev pub IsAbsence : SourceMeaning → Files → Status → Type 0
IsAbsence source files status.Absent = Unit {0}
IsAbsence source files status.Memory = Unit {0}
IsAbsence source files status.StoreFault = Unit {0}
IsAbsence source files (status.Limit side.Source which number) = source.at_head files (source_error.Limit which number)
IsAbsence source files _ = ⊥

-- of two targets one may have no answer, since the command ended with the other
abbrev pub MayLack : Option Kind → Type 0
MayLack None = ⊥
MayLack (Some other) = Unit {0}

abbrev pub IsAbsent : Option Kind → SourceMeaning → Files → Answer → Type 0
IsAbsent other source files None = MayLack other
IsAbsent other source files (Some (Ok report)) = ⊥
IsAbsent other source files (Some (Err e)) = IsAbsence source files e

-- It came before the target was inspected to its end: with the source's head, for a number that inspecting passes, for want of memory or for a fault.
abbrev pub CameBefore : SourceMeaning → TargetFacts → Files → Status → Type 0
CameBefore source target files status.Memory = Unit {0}
CameBefore source target files status.StoreFault = Unit {0}
CameBefore source target files status.Absent = source.is_absent files
CameBefore source target files (status.Malformed path) = source.at_head files (source_error.Malformed path)
CameBefore source target files (status.Unsupported side.Source feature path) = source.at_head files (source_error.Unsupported feature path)
CameBefore source target files (status.Limit side.Source which number) = source.at_head files (source_error.Limit which number)
CameBefore source target files (status.Limit (side.Target kind) which number) = HasHead source files × target.is_crowded source.kind files which number
CameBefore source target files _ = ⊥

-- the answer is this status, unless another one came before; or there is none
abbrev pub IsStatus : SourceMeaning → TargetFacts → Files → Status → Answer → Type 0
IsStatus source target files due None = Unit {0}
IsStatus source target files due (Some (Ok report)) = ⊥
IsStatus source target files due (Some (Err e)) = (e ≡ due) ⊎ CameBefore source target files e

-- ---- when a sync is done

-- The source has a head and what is to be read of it can be read, the target is absent or ours, and no cause of a refusal is there.
pub record CanSync (source : SourceMeaning) (target : TargetFacts) (mode : Mode) (now : ℕ) (files : Files) : Type 0 where
  pub there : ¬ source.is_absent files
  pub readable : (e : SourceError) → ¬ IsSourceFault source target mode files e
  pub served : StandsAt target files (GoesOn source.kind)
  pub roomy : (which : LimitKind) (number : ℕ) → ¬ target.is_crowded source.kind files which number
  pub fits : (e : TargetError) → ¬ IsUnfit source target mode files e
  pub small : (which : LimitKind) (number : ℕ) → ¬ IsPassed source target mode now files which number

-- it is done, or memory ran out, or there is no answer
abbrev pub IsComplete : Answer → Type 0
IsComplete None = Unit {0}
IsComplete (Some (Ok report)) = Unit {0}
IsComplete (Some (Err e)) = e ≡ status.Memory

-- what publishing commits to the target at this time writes to its folder
abbrev pub Leaves : TargetFacts → Option Kind → ℕ → Files → List (List ℕ) → Origin → List Commit → Files → Type 0
Leaves target other now before partition origin commits files = HasWritten target.files.kind other (λ from to. target.writes from partition origin now commits to) before files

-- The commits that were due were published, in this way, and over the view they lead to the last one, which has so many rows, and in full the source's
-- table; they end at this position. A settled target reads as that last view, and just what publishing them at this time writes has come.
pub record IsReport (source : SourceMeaning) (target : TargetFacts) (other : Option Kind) (mode : Mode) (now : ℕ) (start : View) (Settled : Type 0) (before files : Files) (report : Report) : Type 0 where
  pub due : Due source mode before start
  pub columns : (due.partition ≡ start.table.partition) ⊎ IsUnpublished start
  pub last : View
  pub leads : IsAdvancedAll target.files.image (origin_of due) (with_columns due.partition start) due.commits last
  pub in_full : due.full ≡ true → HasTable source target.files before last
  pub way : report.full ≡ due.full
  pub published : report.published ≡ length due.commits
  pub distinct : HasDistinctPaths last.table.rows
  pub files_are : report.files ≡ length last.table.rows
  pub position : report.at ≡ due.head.position
  pub reads : Settled → target.files.reads files last
  pub gained : Settled → Gained target.files (origin_of due) (with_columns due.partition start) before due.commits (length due.commits) files
  pub written : Settled → Leaves target other now before due.partition (origin_of due) due.commits files

-- ---- one target

abbrev pub IsReported : SourceMeaning → TargetFacts → Option Kind → Mode → ℕ → View → Type 0 → Files → Files → Answer → Type 0
IsReported source target other mode now start Settled before files None = Unit {0}
IsReported source target other mode now start Settled before files (Some (Ok report)) = IsReport source target other mode now start Settled before files report
IsReported source target other mode now start Settled before files (Some (Err e)) = Unit {0}

-- A refusal leaves no file of the target changed, or, after some first commits, just what these write.
abbrev pub StopsSo : {S : Type 0} → Ghosts S → SourceMeaning → TargetFacts → Option Kind → Mode → ℕ → View → S → S → Answer → Type 0
StopsSo store source target other mode now start old new None = Unit {0}
StopsSo store source target other mode now start old new (Some (Ok report)) = Unit {0}
StopsSo store source target other mode now start old new (Some (Err e)) =
    IsIdle store other old new ⊎ IsStopped store source target.files (Leaves target other now) mode start (¬ IsContest e) (store.disk old).files new

-- What is told of each target that is done: in full it took one commit, and the command `full` goes no other way.
abbrev pub IsOneInFull : Mode → Answer → Type 0
IsOneInFull mode None = Unit {0}
IsOneInFull mode (Some (Ok report)) = (report.full ≡ true → report.published ≡ 1) × (mode ≡ modes.Full → report.full ≡ true)
IsOneInFull mode (Some (Err e)) = Unit {0}

-- a target that is absent or ours, and that a crash can't damage
pub record IsReady (source : SourceMeaning) (target : TargetFacts) (files : Files) (start : View) (Settled : Type 0) : Type 0 where
  pub reads : target.files.reads files start
  pub goes_on : GoesOn source.kind start
  pub settled : Settled

-- the history since the target's mark is whole, and the mark has the head's position
abbrev pub StandsAtHead : SourceMeaning → Files → View → Type 0
StandsAtHead source files start = IsMarked start (λ standing. IsWhole source files standing × ((head : Head) × source.is_head files head × (standing.to ≡ head.position)))

-- A sync of one target: what it answers, and what it leaves. The command may name another target, which is synced beside it.
pub record IsSync {S : Type 0} (store : Ghosts S) (source : SourceMeaning) (target : TargetFacts) (other : Option Kind) (mode : Mode) (now : ℕ) (old new : S) (answer : Answer) : Type 0 where
  -- No file changes but the targets' own.
  pub alone : store.tells → ChangesTargets store target.files.kind other old new
  -- Each file is as before, or can be read whole, whatever is answered.
  pub short : store.tells → AddsShort MAX_FILE_BYTES (store.disk old).files (store.disk new).files
  pub source_stays : store.tells → IsApart source.kind target.files.kind other → ((path : List ℕ) → IsIn (folder_of source.kind) path → IsClean (store.disk old) path) → KeepsSource store source old new
  pub synced : store.tells → (start : View) → IsReady source target (store.disk old).files start (target.files.settled (store.disk old))
      → Synced store source target.files mode start (IsUndisturbed answer) (IsDone answer) old new
  -- What is told of a target that is absent or ours, also of one that a crash can damage.
  pub reported : store.tells → (start : View) → target.files.reads (store.disk old).files start → GoesOn source.kind start
      → IsReported source target other mode now start (target.files.settled (store.disk old)) (store.disk old).files (store.disk new).files answer
  pub in_full : IsOneInFull mode answer
  -- Of a target whose mark has the head's position files are read alone.
  pub still : store.tells → mode ≡ modes.Sync → IsDone answer → (start : View) → target.files.reads (store.disk old).files start → GoesOn source.kind start → StandsAtHead source (store.disk old).files start → IsIdle store other old new
  -- Where another writer was in the way, the commits published before stay, and nothing is published behind that writer's.
  pub contested : store.tells → answer ≡ Some (Err (status.Contested target.files.kind)) → (start : View) → IsReady source target (store.disk old).files start (target.files.settled (store.disk old))
      → IsContested store source target.files (Leaves target other now) mode start (store.disk old).files old new
  -- Where a number is passed, the target's files stay where that is before anything is published, and else just the commits before the one that passes it
  -- are published.
  pub limited : store.tells → (which : LimitKind) (number : ℕ) → answer ≡ Some (Err (status.Limit (side.Target target.files.kind) which number)) → (start : View) → IsReady source target (store.disk old).files start (target.files.settled (store.disk old))
      → (IsIdle store other old new × IsOverAtFirst source target mode now (store.disk old).files which number) ⊎ IsLimited store source target.files (λ files partition origin. target.passes files partition origin now) (Leaves target other now) mode start (store.disk old).files new which number
  -- Whatever refuses it, the commits published before left just what they write, and what they reach stays byte for byte.
  pub stopped : store.tells → (start : View) → IsReady source target (store.disk old).files start (target.files.settled (store.disk old)) → StopsSo store source target other mode now start old new answer
  -- Each refusal is one of a sync, and a target's names this target.
  pub few : IsFew target.files.kind answer
  -- Each refusal has its cause, and comes exactly where it is due.
  pub caused : store.tells → IsCaused (IsIdle store other old new) source target mode now (store.disk old).files answer
  pub absent : store.tells → source.is_absent (store.disk old).files → IsAbsent other source (store.disk old).files answer
  pub foreign : store.tells → (path : List ℕ) → target.is_foreign source.kind (store.disk old).files path → IsStatus source target (store.disk old).files (status.Foreign target.files.kind path) answer
  pub fault : FailsBy store old new (answer ≡ Some (Err status.StoreFault))
  pub contest : CountsContest store other old new (answer ≡ Some (Err (status.Contested target.files.kind)))
  pub complete : store.tells → CanSync source target mode now (store.disk old).files → ¬ Rose (store.faults old) (store.faults new) → ¬ (answer ≡ Some (Err (status.Contested target.files.kind))) → IsComplete answer
