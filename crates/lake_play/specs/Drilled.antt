-- What a drill leaves in its store, and what it prints of that.
use Rattle.std.specs.Prelude.{◌≡◌, ◌⊎◌, ◌≤◌, ◌<◌, ℕ, true, List, ◌∷◌, ◌++◌, take}
use Rattle.std.specs.List.{AllByRecursion}
use Rattle.conformance.specs.Drill.{commit_count, drill_bytes, drill_time}
use Rattle.conformance.specs.Events.{drill_events}
use Rattle.conformance.specs.Histories.{AreLegal, IsHistoryOf}
use Rattle.delta_table.specs.Versions.{HasVersion, HoldsVersion}
use Rattle.lake_store.specs.Cause.{Rose}
use Rattle.lake_store.specs.Disk.{Files}
use Rattle.lake_store.specs.Fuse.{CanFail, fuse_disk, script_of}
use Rattle.lake_store.specs.declared.fuse.FuseStore.{FuseStore}
use Rattle.lake_store.specs.declared.sink.Sink.{Ghosts}
use Rattle.source_core.specs.Answers.{IsHeadRefusal, IsReadRefusal}
use Rattle.source_core.specs.Histories.{IsAt, IsLast}
use Rattle.source_core.specs.declared.error.SourceError.{SourceError}
use Rattle.source_core.specs.declared.error.SourceError.TheVariants as source_error
use Rattle.source_delta.specs.Heads.{IsAbsent}
use Rattle.source_delta.specs.Reading.{ShowsAtHead, ShowsFromScratch}
use Rattle.table_history.specs.History.{History}
use Rattle.table_history.specs.Row.{Row}
use Rattle.table_history.specs.Rows.{IsInPathOrder, SameRows}
use Rattle.table_history.specs.declared.kind.Kind.{Kind}
use Rattle.table_history.specs.declared.kind.Kind.TheVariants.{Delta, Hudi, Iceberg}
use Rattle.table_history.specs.declared.limit.LimitKind.{LimitKind}
use Rattle.table_history.specs.declared.table.Table.{Table}
use Rattle.target_core.specs.Meaning.{Meaning}
use Rattle.target_core.specs.Views.{IsOfSource, View}
use Rattle.target_hudi.specs.Inspecting as hudi
use Rattle.target_iceberg.specs.Inspecting as iceberg
use Rattle.target_sync.specs.declared.status.Side.TheVariants as side
use Rattle.target_sync.specs.declared.status.Status.{Status}
use Rattle.target_sync.specs.declared.status.Status.TheVariants as status
use Rattle.lake_play.specs.Lines.{source_line, target_line}
use Rattle.lake_play.specs.Playing.{PlaysAll, nothing_played}
use Rattle.lake_play.specs.Standing.{HasVersionsAlone, IsFresh, meaning_of_hudi, meaning_of_iceberg}
use Rattle.lake_play.specs.declared.playing.Progress.{Progress}

-- ---- what is left

-- The target stands at the last table, and has one commit for each commit of the source.
pub record IsBrought (target : Meaning) (history : History) (files : Files) : Type 0 where
  pub at : IsAt Delta target history files commit_count
  pub commits : target.commits_in files ≡ commit_count

-- a sync is done, or the store failed in it
abbrev pub IsEnded : Status → Type 0
IsEnded given = (given ≡ status.Done) ⊎ (given ≡ status.StoreFault)

-- the first answer that isn't so
abbrev pub IsFirstRefusal : List Status → Status → Type 0
IsFirstRefusal answers given = (front : List Status) × (behind : List Status) × (answers ≡ front ++ given ∷ behind) × AllByRecursion IsEnded front × ¬ IsEnded given

-- The drill was played from a store without files that fails by no script, and each sync of it was done, or the store stopped in it. This is the store on
-- which it was played: its disk and all that stands around it are as the last event left them.
pub record IsPlayedThrough (number : ℕ) (store : FuseStore) : Type 0 where
  pub start : FuseStore
  pub fresh : IsFresh start
  pub unscripted : ¬ CanFail (script_of start)
  pub after : Progress
  pub end : FuseStore
  pub plays : PlaysAll drill_time (drill_events number true) nothing_played start after end
  pub ended : AllByRecursion IsEnded after.answers
  pub disk : fuse_disk store ≡ fuse_disk end
  pub outside : store ≡ record end { inner = store.inner }

-- The log holds the drill's commits as its versions from 0 on, and its folder has no other file. Of each history that they make, and there is one, both
-- targets stand at the last table.
pub record LeavesDrill (number : ℕ) (files : Files) : Type 0 where
  pub legal : AreLegal (drill_events number true)
  pub holds : (version : ℕ) → version < commit_count → HoldsVersion files version (drill_bytes number version)
  pub only : (version : ℕ) → HasVersion files version → version < commit_count
  pub alone : HasVersionsAlone files
  pub hudi : (history : History) → IsHistoryOf (drill_events number true) history → IsBrought meaning_of_hudi history files
  pub iceberg : (history : History) → IsHistoryOf (drill_events number true) history → IsBrought meaning_of_iceberg history files

-- ---- what is printed

-- the rows of the last table, in byte order of paths
abbrev pub AreLastRows : History → List Row → Type 0
AreLastRows history rows = (entry : List ℕ × Table) × IsLast history entry × IsInPathOrder rows × SameRows rows entry.1.rows

-- the text is this line of the last table's rows
abbrev pub TellsLast : (List Row → List ℕ) → History → List ℕ → Type 0
TellsLast line history text = (rows : List Row) × AreLastRows history rows × (text ≡ line rows)

-- a line of the source and one of each target, which all have the numbers of the last table's rows
abbrev pub AreDrillLines : ℕ → History → List ℕ → Type 0
AreDrillLines number history lines = TellsLast (λ rows. source_line number rows ++ (target_line Hudi commit_count rows ++ target_line Iceberg commit_count rows)) history lines

-- The drill was played through on this store, and the lines tell of what it left there.
pub record IsDrilled (number : ℕ) (store : FuseStore) (lines : List ℕ) : Type 0 where
  pub played : IsPlayedThrough number store
  pub leaves : LeavesDrill number (fuse_disk store).files
  pub are : (history : History) → IsHistoryOf (drill_events number true) history → AreDrillLines number history lines

-- the text is this line of the rows, in byte order of paths
abbrev pub TellsOf : (List Row → List ℕ) → List Row → List ℕ → Type 0
TellsOf line rows text = (ordered : List Row) × IsInPathOrder ordered × SameRows ordered rows × (text ≡ line ordered)

-- the files stand for this view, whose newest mark is of a Delta source
abbrev pub IsRead : Meaning → Files → View → Type 0
IsRead target files view = target.reads files view × IsOfSource Delta view

abbrev pub IsBroughtOnce : Meaning → Files → Type 0
IsBroughtOnce target files = (view : View) × IsRead target files view

-- the text is the line of what the target's files stand for
abbrev pub TellsTarget : Meaning → Files → List ℕ → Type 0
TellsTarget target files text = (view : View) → target.reads files view → TellsOf (target_line target.kind view.commits) view.table.rows text

-- ---- why a line isn't made

-- what inspecting the target of this format reads of the files at the end passes this number
abbrev pub IsReadPast : Files → Kind → LimitKind → ℕ → Type 0
IsReadPast files Delta which n = ⊥
IsReadPast files Hudi which n = hudi.IsCrowded Delta files which n
IsReadPast files Iceberg which n = iceberg.IsCrowded Delta files which n

-- memory ran out, or what is read of a target at the end passes a number
abbrev pub IsReadEnd : Files → Status → Type 0
IsReadEnd files status.Memory = Unit {0}
IsReadEnd files (status.Limit (side.Target target) which n) = IsReadPast files target which n
IsReadEnd files _ = ⊥

-- memory ran out, or what inspecting a target of this format reads passes a number
abbrev pub IsLookEnd : Kind → (LimitKind → ℕ → Type 0) → Status → Type 0
IsLookEnd target is_crowded given = (given ≡ status.Memory) ⊎ ((which : LimitKind) × (n : ℕ) × (given ≡ status.Limit (side.Target target) which n) × is_crowded which n)

-- why the source's table isn't read from a store that never fails
abbrev pub IsTableRefusal : Files → SourceError → Type 0
IsTableRefusal files e = (IsHeadRefusal (IsAbsent files) (ShowsAtHead files) e ⊎ IsReadRefusal (ShowsFromScratch files) e) × ¬ (e ≡ source_error.StoreFault)

-- ---- putting

-- The lines are out; or memory ran out, or the sink failed, and a front of them is.
pub record PutsText {O : Type 0} (sink : Ghosts O) (old new : O) (text : List ℕ) (given : Status) : Type 0 where
  pub later : sink.faults old ≤ sink.faults new
  pub can_fail : sink.may_fail new → sink.may_fail old
  pub ends : (given ≡ status.Done) ⊎ (given ≡ status.Memory) ⊎ ((given ≡ status.SinkFault) × Rose (sink.faults old) (sink.faults new) × sink.may_fail old)
  pub done : given ≡ status.Done → sink.tells → sink.output new ≡ sink.output old ++ text
  pub front : sink.tells → (n : ℕ) × (sink.output new ≡ sink.output old ++ take n text)

-- ---- the answer

-- At Done the lines are out, and the store is the one that they tell of. Where the sink failed, it is too, and a front of them is out. Where memory ran out,
-- nothing is out, or a front of the lines that tell of the store.
pub record Drills {O : Type 0} (sink : Ghosts O) (number : ℕ) (old new : O) (given : Status) (store : FuseStore) : Type 0 where
  pub later : sink.faults old ≤ sink.faults new
  pub can_fail : sink.may_fail new → sink.may_fail old
  pub ends : (given ≡ status.Done) ⊎ (given ≡ status.Memory) ⊎ ((given ≡ status.SinkFault) × Rose (sink.faults old) (sink.faults new) × sink.may_fail old)
  pub done : given ≡ status.Done → (lines : List ℕ) × IsDrilled number store lines × (sink.tells → sink.output new ≡ sink.output old ++ lines)
  pub sink_fault : given ≡ status.SinkFault → (lines : List ℕ) × IsDrilled number store lines × (sink.tells → (n : ℕ) × (sink.output new ≡ sink.output old ++ take n lines))
  pub memory : given ≡ status.Memory → sink.tells → (sink.output new ≡ sink.output old) ⊎ ((lines : List ℕ) × (n : ℕ) × IsDrilled number store lines × (sink.output new ≡ sink.output old ++ take n lines))
