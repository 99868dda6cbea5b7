-- What compacting a Delta log answers, and what is told of it.
use Rattle.std.specs.Prelude.{◌≡◌, ◌⊎◌, ℕ, List, Result, Ok, Err, IfErr, IfOk, IsErrOf}
use Rattle.lake_store.specs.Cause.{Rose}
use Rattle.lake_store.specs.Runs.{FailsBy, IsContestedBy, OnlyReads}
use Rattle.lake_store.specs.declared.sink.Sink as sinks
use Rattle.lake_store.specs.declared.store.Store.{Ghosts}
use Rattle.delta_compact.specs.Blocks.{IsBlockPath}
use Rattle.delta_compact.specs.Compacting.{CompactsUpTo, IsDone, StopsBefore}
use Rattle.delta_compact.specs.Refusals.{HasCause, IsEarly, IsRefused}
use Rattle.delta_compact.specs.declared.compacting.Compacted.{Compacted}
use Rattle.delta_compact.specs.declared.error.CompactFault.{CompactFault}
use Rattle.delta_compact.specs.declared.error.CompactFault.TheVariants as compaction
use Rattle.table_history.specs.declared.kind.Kind.TheVariants.{Delta}
use Rattle.target_sync.specs.declared.status.Side.TheVariants.{Source}
use Rattle.target_sync.specs.declared.status.Status.{Status}
use Rattle.target_sync.specs.declared.status.Status.TheVariants as status
use Rattle.sync_driver.specs.Lines.{compacted_line, refusal_line}
use Rattle.sync_driver.specs.Tellings.{Tells}

-- what was written and kept, or why the log isn't compacted
abbrev pub CompactionAnswer : Type 0
CompactionAnswer = Result Compacted CompactFault

abbrev pub status_of_compact : CompactFault → Status
status_of_compact compaction.Memory = status.Memory
status_of_compact compaction.Absent = status.Absent
status_of_compact (compaction.Malformed path) = status.Malformed path
status_of_compact (compaction.Unsupported feature path) = status.Unsupported Source feature path
status_of_compact (compaction.Limit which number) = status.Limit Source which number
status_of_compact compaction.Contested = status.Contested Delta
status_of_compact (compaction.Stale path) = status.Stale path
status_of_compact compaction.StoreFault = status.StoreFault

abbrev pub compacted_status : CompactionAnswer → Status
compacted_status (Ok compacted) = status.Done
compacted_status (Err e) = status_of_compact e

abbrev pub compacted_text : CompactionAnswer → List ℕ
compacted_text (Ok compacted) = compacted_line compacted
compacted_text (Err e) = refusal_line (status_of_compact e)

-- What a compaction answers and leaves. At `Ok` each block up to the head has a log compaction that agrees with its commits. Whatever it answers, no file
-- is changed at any moment but these, each of which comes whole, and the one that is staged: block by block up to the one at which it ends.
pub record IsCompaction {S : Type 0} (store : Ghosts S) (old new : S) (answer : CompactionAnswer) : Type 0 where
  pub done : store.tells → IfOk answer (IsDone (store.disk old).files (store.disk new).files)
  pub compacts : store.tells → (end : ℕ) × CompactsUpTo store end (IsErrOf answer compaction.Contested) old new
  pub stale : store.tells → (path : List ℕ) (block : ℕ) → IsErrOf answer (compaction.Stale path) → IsBlockPath path block → StopsBefore store block old new
  pub refused : store.tells → IfErr answer (HasCause (IsRefused (store.disk old).files))
  pub early : store.tells → IfErr answer (λ e. IsEarly e → OnlyReads store old new)
  pub fault : FailsBy store old new (IsErrOf answer compaction.StoreFault)
  pub contest : IsContestedBy store old new (IsErrOf answer compaction.Contested)

-- The answer is told. Where no refusal has a cause in the files and no count rises, the status is `Done`, or memory ran out.
pub record TellsCompaction {S O : Type 0} (store : Ghosts S) (sink : sinks.Ghosts O) (old new : S) (out_old out_new : O) (given : Status) : Type 0 where
  pub answer : CompactionAnswer
  pub compaction : IsCompaction store old new answer
  pub told : Tells sink out_old out_new (compacted_text answer) (compacted_status answer) given
  pub complete : store.tells → ((e : CompactFault) → ¬ IsRefused (store.disk old).files e) → ¬ Rose (store.faults old) (store.faults new)
      → ¬ Rose (store.contests old) (store.contests new) → ¬ Rose (sink.faults out_old) (sink.faults out_new) → (given ≡ status.Done) ⊎ (given ≡ status.Memory)
