-- What a command over a source tells of its head, and what a sync of one target tells.
use Rattle.std.specs.Prelude.{◌≡◌, ◌⊎◌, ◌++◌, ℕ, List, [], Option, Some, None, Ok, Err}
use Rattle.lake_store.specs.Cause.{Rose}
use Rattle.lake_store.specs.Disk.{Files}
use Rattle.lake_store.specs.Runs.{OnlyReads}
use Rattle.lake_store.specs.declared.sink.Sink as sinks
use Rattle.lake_store.specs.declared.store.Store.{Ghosts}
use Rattle.source_core.specs.Answers.{IsHeadRefusal}
use Rattle.source_core.specs.declared.error.SourceError.{SourceError}
use Rattle.source_core.specs.declared.head.Head.{Head}
use Rattle.table_history.specs.declared.kind.Kind.{Kind}
use Rattle.target_sync.specs.Along.{IsWholeSync}
use Rattle.target_sync.specs.Answered.{Answer, CanSync}
use Rattle.target_sync.specs.Applied.{status_of_source}
use Rattle.sync_driver.specs.Lines.{pending_line, refusal_line, report_line}
use Rattle.target_sync.specs.Sources.{SourceMeaning}
use Rattle.target_sync.specs.Targets.{TargetFacts}
use Rattle.sync_driver.specs.Tellings.{Tells}
use Rattle.target_sync.specs.declared.plan.Mode.{Mode}
use Rattle.target_sync.specs.declared.status.Status.{Status}
use Rattle.target_sync.specs.declared.status.Status.TheVariants.{Done, Memory}

-- It is what is pending behind the head; or there is none, since finding the head was refused.
abbrev pub IsPending : SourceMeaning → Files → Option (List ℕ) → (SourceError → Type 0) → Type 0
IsPending source files pending Refused =
    ((head : Head) × source.is_head files head × (pending ≡ head.pending))
    ⊎ ((pending ≡ None) × ((e : SourceError) × IsHeadRefusal (source.is_absent files) (source.at_head files) e × Refused e))

abbrev pub answer_line : Kind → Answer → List ℕ
answer_line kind None = []
answer_line kind (Some (Ok report)) = report_line kind report
answer_line kind (Some (Err e)) = refusal_line e

abbrev pub answer_status : Answer → Status
answer_status None = Done
answer_status (Some (Ok report)) = Done
answer_status (Some (Err e)) = e

-- A sync of one target, its lines and its status. There is no answer only where the pending commit's line was cut.
-- Where nothing is in the way and no count rises, the status is `Done`, or memory ran out.
pub record Syncs {S O : Type 0} (store : Ghosts S) (sink : sinks.Ghosts O) (source : SourceMeaning) (target : TargetFacts) (mode : Mode) (now : ℕ) (old new : S) (out_old out_new : O) (status : Status) : Type 0 where
  pub pending : Option (List ℕ)
  pub answer : Answer
  pub sync : IsWholeSync store source target None mode now old new answer
  pub pending_is : store.tells → IsPending source (store.disk old).files pending (λ e. (answer ≡ Some (Err (status_of_source e))) × OnlyReads store old new)
  pub told : Tells sink out_old out_new (pending_line pending ++ answer_line target.files.kind answer) (answer_status answer) status
  -- where there is an answer, the pending commit's line went out whole before it
  pub first : sink.tells → ¬ (answer ≡ None) → (rest : List ℕ) × (sink.output out_new ≡ sink.output out_old ++ pending_line pending ++ rest)
  pub answered : answer ≡ None → ¬ (status ≡ Done)
  pub complete : store.tells → CanSync source target mode now (store.disk old).files → ¬ Rose (store.faults old) (store.faults new) → ¬ Rose (store.contests old) (store.contests new)
      → ¬ Rose (sink.faults out_old) (sink.faults out_new) → (status ≡ Done) ⊎ (status ≡ Memory)
