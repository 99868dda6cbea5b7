-- What a sync of one target tells, by how it ends.
use Rattle.std.proofs.Common.{◌≡◌, ◌⊎◌, ◌++◌, ℕ, List, Option, Some, None, inl, inr, ⊎_elim, ◌∙◌}
use Rattle.std.specs.Prelude.{Ok, Err}
use Rattle.lake_store.specs.Cause.{Rose}
use Rattle.lake_store.specs.Runs.{OnlyReads}
use Rattle.lake_store.specs.declared.sink.Sink as sinks
use Rattle.lake_store.specs.declared.store.Store.{Ghosts}
use Rattle.target_sync.specs.Answered.{Answer, IsComplete, IsSync}
use Rattle.target_sync.specs.Applied.{status_of_source}
use Rattle.sync_driver.specs.Commands.{IsPending, Syncs, answer_line, answer_status}
use Rattle.sync_driver.specs.Lines.{pending_line}
use Rattle.target_sync.specs.Sources.{SourceMeaning}
use Rattle.target_sync.specs.Targets.{TargetFacts}
use Rattle.sync_driver.specs.Tellings.{Tells}
use Rattle.target_sync.specs.declared.plan.Mode.{Mode}
use Rattle.target_sync.specs.declared.status.Status.{Status}
use Rattle.target_sync.specs.declared.status.Status.TheVariants as status
use Rattle.target_sync.proofs.Along.{AlongLaws, with_histories}

module _ {S : Type 0} (store : Ghosts S) (source : SourceMeaning) (target : TargetFacts) (mode : Mode) (now : ℕ) where
  module _ {O : Type 0} (sink : sinks.Ghosts O) (old new : S) (out_old out_new : O) (given : Status) where
    ends : (answer : Answer) (line : List ℕ) → IsComplete answer → Tells sink out_old out_new line (answer_status answer) given → (Rose (sink.faults out_old) (sink.faults out_new) → ⊥) → (given ≡ status.Done) ⊎ (given ≡ status.Memory)
    ends None line complete told no_sink = ⊎_elim (λ due. inl due) (λ other. ⊎_elim (λ memory. inr memory) (λ failed. absurd (no_sink failed.1.1.0)) other) told.status
    ends (Some (Ok report)) line complete told no_sink = ⊎_elim (λ due. inl due) (λ other. ⊎_elim (λ memory. inr memory) (λ failed. absurd (no_sink failed.1.1.0)) other) told.status
    ends (Some (Err e)) line complete told no_sink = ⊎_elim (λ due. inr (due ∙ complete)) (λ other. ⊎_elim (λ memory. inr memory) (λ failed. absurd (no_sink failed.1.1.0)) other) told.status

    pub syncs : (pending : Option (List ℕ)) (answer : Answer) → AlongLaws source target.files → IsSync store source target None mode now old new answer
        → (store.tells → IsPending source (store.disk old).files pending (λ e. (answer ≡ Some (Err (status_of_source e))) × OnlyReads store old new))
        → (sink.tells → ¬ (answer ≡ None) → (rest : List ℕ) × (sink.output out_new ≡ sink.output out_old ++ pending_line pending ++ rest))
        → Tells sink out_old out_new (pending_line pending ++ answer_line target.files.kind answer) (answer_status answer) given → (answer ≡ None → ¬ (given ≡ status.Done))
        → Syncs store sink source target mode now old new out_old out_new given
    syncs pending answer laws sync pending_is first told answered = record {
      pending = pending;
      answer = answer;
      sync = with_histories store source target laws None mode now old new answer sync;
      pending_is = pending_is;
      told = told;
      first = first;
      answered = answered;
      complete = λ tells can no_fault no_contest no_sink. ends answer _ (sync.complete tells can no_fault (λ is. no_contest (sync.contest.rose is))) told no_sink;
    }
