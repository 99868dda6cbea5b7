-- What comparing a target with its source tells, by how it ends.
use Rattle.std.proofs.Common.{◌≡◌, ◌++◌, inl, inr, ⊎_elim, ℕ, List, Option, Some, None, refl, sym, ap, subst}
use Rattle.std.specs.Prelude.{Ok, Err}
use Rattle.lake_store.specs.Cause.{Rose}
use Rattle.lake_store.specs.Disk.{Disk, Files}
use Rattle.lake_store.specs.Runs.{FailsBy, IsUncontestedBy, OnlyReads}
use Rattle.lake_store.specs.declared.sink.Sink as sinks
use Rattle.lake_store.specs.declared.store.Store.{Ghosts}
use Rattle.lake_store.proofs.RunLaws.{reading_further}
use Rattle.source_core.specs.Answers.{IsHeadRefusal, IsReadable}
use Rattle.source_core.specs.declared.error.SourceError.{SourceError}
use Rattle.source_core.specs.declared.error.SourceError.TheVariants as source_error
use Rattle.table_history.specs.declared.kind.Kind.{Kind}
use Rattle.table_history.specs.declared.limit.LimitKind.{LimitKind}
use Rattle.target_core.specs.Conditions.{GoesOn}
use Rattle.target_core.specs.Views.{View}
use Rattle.target_sync.specs.Answered.{StandsAt}
use Rattle.target_sync.specs.Applied.{status_of_source}
use Rattle.sync_driver.specs.Checked.{CheckAnswer, Checks, IsCheck, IsCheckAbsent, IsCheckEnd, IsCheckFault, IsCheckRefusal, IsCheckStatus, IsCheckedSo, IsOfCheck, StandsBehind, check_line, check_status}
use Rattle.sync_driver.specs.Commands.{IsPending}
use Rattle.sync_driver.specs.Lines.{pending_line}
use Rattle.target_sync.specs.Sources.{SourceMeaning}
use Rattle.target_sync.specs.Targets.{TargetFacts}
use Rattle.sync_driver.specs.Tellings.{Tells}
use Rattle.target_sync.specs.declared.plan.Mode.TheVariants as modes
use Rattle.target_sync.specs.declared.status.Side.TheVariants as side
use Rattle.target_sync.specs.declared.status.Status.{Status}
use Rattle.target_sync.specs.declared.status.Status.TheVariants as status
use Rattle.target_sync.proofs.Counting.{fails_as, fails_then, uncontested_then}
use Rattle.target_sync.proofs.Finding.{source_fault}
use Rattle.target_sync.proofs.Refusing.{absence_of_head, before_of_head}

-- a refusal of reading the source
pub few_of_source : (kind : Kind) (e : SourceError) → IsOfCheck kind (status_of_source e)
few_of_source kind source_error.Memory = tt
few_of_source kind source_error.Absent = tt
few_of_source kind (source_error.Malformed path) = tt
few_of_source kind (source_error.Unsupported feature path) = tt
few_of_source kind (source_error.Limit which number) = tt
few_of_source kind source_error.StoreFault = tt

module _ {S : Type 0} (store : Ghosts S) (source : SourceMeaning) (target : TargetFacts) where
  -- over a run that only read
  pub check_behind : (old mid new : S) → (store.tells → OnlyReads store old mid) → (A B : Type 0) → FailsBy store old mid A → IsUncontestedBy store old mid B → (answer : CheckAnswer) → IsCheck store source target mid new answer → IsCheck store source target old new answer
  check_behind old mid new reading A B cause quiet answer check = record {
    reads = reading_further store old mid new reading check.reads;
    fault = fails_then store.faults store.may_fail old mid new A _ cause check.fault;
    contest = uncontested_then store.contests store.may_contest old mid new B ⊥ quiet check.contest;
    few = check.few;
    checked = λ told. subst (λ (d : Disk). IsCheckedSo source target d.files answer) (reading told).disk (check.checked told);
    absent = λ told is. subst (λ (d : Disk). IsCheckAbsent source d.files answer) (reading told).disk (check.absent told (subst (λ (d : Disk). source.is_absent d.files) (sym (reading told).disk) is));
    foreign = λ told path is. subst (λ (d : Disk). IsCheckStatus source target d.files (status.Foreign target.files.kind path) answer) (reading told).disk (check.foreign told path (subst (λ (d : Disk). target.is_foreign source.kind d.files path) (sym (reading told).disk) is));
    behind = λ told head at is. subst (λ (d : Disk). IsCheckStatus source target d.files (status.Behind target.files.kind at head.position) answer) (reading told).disk
        (check.behind told head at (subst (λ (d : Disk). StandsBehind source target d.files head at) (sym (reading told).disk) is));
  }

  -- the pending commit's line was cut
  pub check_none : (old new : S) → (store.tells → OnlyReads store old new) → (A B : Type 0) → FailsBy store old new A → IsUncontestedBy store old new B → (store.tells → ¬ source.is_absent (store.disk old).files) → IsCheck store source target old new None
  check_none old new reading A B cause quiet there = record {
    reads = reading;
    fault = fails_as store.faults store.may_fail old new A (None ≡ Some (Err status.StoreFault)) (λ is. absurd (cc is)) cause;
    contest = record { same = quiet.same; still = quiet.still; never = λ never. never };
    few = tt;
    checked = λ told. tt;
    absent = λ told is. there told is;
    foreign = λ told path is. tt;
    behind = λ told head at is. tt;
  }

  head_checked : (files : Files) (e : SourceError) → IsHeadRefusal (source.is_absent files) (source.at_head files) e → IsCheckRefusal source target files (status_of_source e)
  head_checked files source_error.Memory is = tt
  head_checked files source_error.Absent is = is
  head_checked files (source_error.Malformed path) is = inl is.1
  head_checked files (source_error.Unsupported feature path) is = inl is.1
  head_checked files (source_error.Limit which number) is = inl is
  head_checked files source_error.StoreFault is = tt

  -- finding the head was refused
  pub check_headless : (old new : S) (e : SourceError) → (store.tells → OnlyReads store old new) → FailsBy store old new (e ≡ source_error.StoreFault) → IsUncontestedBy store old new ⊥
      → (store.tells → IsHeadRefusal (source.is_absent (store.disk old).files) (source.at_head (store.disk old).files) e) → IsCheck store source target old new (Some (Err (status_of_source e)))
  check_headless old new e reading cause quiet refused = record {
    reads = reading;
    fault = fails_as store.faults store.may_fail old new (e ≡ source_error.StoreFault) _ (λ same. let one : status_of_source e ≡ status.StoreFault = cc same in source_fault e one) cause;
    contest = quiet;
    few = few_of_source target.files.kind e;
    checked = λ told. head_checked (store.disk old).files e (refused told);
    absent = λ told is. absence_of_head source target modes.Sync 0 (store.disk old).files (Unit {0}) tt e (refused told) is;
    foreign = λ told path is. inr (before_of_head source target modes.Sync 0 (store.disk old).files (Unit {0}) tt e (refused told));
    behind = λ told head at is. inr (before_of_head source target modes.Sync 0 (store.disk old).files (Unit {0}) tt e (refused told));
  }

  module _ {O : Type 0} (sink : sinks.Ghosts O) (old new : S) (out_old out_new : O) (given : Status) where
    no_fault : (files : Files) → IsReadable (source.is_absent files) (source.at_head files) (source.from_scratch files) → (e : SourceError) → IsCheckFault source target files e → ⊥
    no_fault files readable e (inl is) = readable.head e is
    no_fault files readable e (inr is) = readable.table e is.1

    refusal_ends : (not_foreign : (files : Files) (path : List ℕ) (v : View) → target.is_foreign source.kind files path → target.files.reads files v → GoesOn source.kind v → ⊥) (files : Files)
        → IsReadable (source.is_absent files) (source.at_head files) (source.from_scratch files) → StandsAt target files (GoesOn source.kind) → ((which : LimitKind) (number : ℕ) → ¬ target.is_crowded source.kind files which number)
        → (e : Status) → IsCheckRefusal source target files e → (e ≡ status.StoreFault → ⊥) → IsCheckEnd e
    refusal_ends not_foreign files readable served roomy status.Done is fault = absurd is
    refusal_ends not_foreign files readable served roomy status.Memory is fault = tt
    refusal_ends not_foreign files readable served roomy status.Usage is fault = absurd is
    refusal_ends not_foreign files readable served roomy status.Absent is fault = absurd (readable.there is)
    refusal_ends not_foreign files readable served roomy (status.Malformed path) is fault = absurd (no_fault files readable (source_error.Malformed path) is)
    refusal_ends not_foreign files readable served roomy (status.Unsupported side.Source feature path) is fault = absurd (no_fault files readable (source_error.Unsupported feature path) is)
    refusal_ends not_foreign files readable served roomy (status.Unsupported (side.Target kind) feature path) is fault = absurd is
    refusal_ends not_foreign files readable served roomy (status.Limit side.Source which number) is fault = absurd (no_fault files readable (source_error.Limit which number) is)
    refusal_ends not_foreign files readable served roomy (status.Limit (side.Target kind) which number) is fault = absurd (roomy which number is.2)
    refusal_ends not_foreign files readable served roomy (status.Foreign kind path) is fault = absurd (not_foreign files path served.0 is.2 served.1 served.2)
    refusal_ends not_foreign files readable served roomy (status.Contested kind) is fault = absurd is
    refusal_ends not_foreign files readable served roomy status.StoreFault is fault = absurd (fault refl)
    refusal_ends not_foreign files readable served roomy status.SinkFault is fault = absurd is
    refusal_ends not_foreign files readable served roomy (status.Behind kind at head) is fault = tt
    refusal_ends not_foreign files readable served roomy (status.Differs kind path) is fault = tt
    refusal_ends not_foreign files readable served roomy (status.Stale path) is fault = absurd is

    given_ends : (line : List ℕ) (due : Status) → IsCheckEnd due → Tells sink out_old out_new line due given → (Rose (sink.faults out_old) (sink.faults out_new) → ⊥) → IsCheckEnd given
    given_ends line due end told no_sink = ⊎_elim (λ is. subst IsCheckEnd (sym is) end) (λ other. ⊎_elim (λ memory. subst IsCheckEnd (sym memory) tt) (λ failed. absurd (no_sink failed.1.1.0)) other) told.status

    status_ends : (not_foreign : (files : Files) (path : List ℕ) (v : View) → target.is_foreign source.kind files path → target.files.reads files v → GoesOn source.kind v → ⊥) (files : Files)
        → IsReadable (source.is_absent files) (source.at_head files) (source.from_scratch files) → StandsAt target files (GoesOn source.kind) → ((which : LimitKind) (number : ℕ) → ¬ target.is_crowded source.kind files which number)
        → (answer : CheckAnswer) → IsCheckedSo source target files answer → (answer ≡ Some (Err status.StoreFault) → ⊥) → IsCheckEnd (check_status answer)
    status_ends not_foreign files readable served roomy None is fault = tt
    status_ends not_foreign files readable served roomy (Some (Ok same)) is fault = tt
    status_ends not_foreign files readable served roomy (Some (Err e)) is fault = refusal_ends not_foreign files readable served roomy e is (λ same. fault (ap (λ (s : Status). Some (Err s)) same))

    pub checks : ((files : Files) (path : List ℕ) (v : View) → target.is_foreign source.kind files path → target.files.reads files v → GoesOn source.kind v → ⊥) → (pending : Option (List ℕ)) (answer : CheckAnswer) → IsCheck store source target old new answer
        → (store.tells → IsPending source (store.disk old).files pending (λ e. answer ≡ Some (Err (status_of_source e))))
        → (sink.tells → ¬ (answer ≡ None) → (rest : List ℕ) × (sink.output out_new ≡ sink.output out_old ++ pending_line pending ++ rest))
        → Tells sink out_old out_new (pending_line pending ++ check_line target.files.kind answer) (check_status answer) given → (answer ≡ None → ¬ (given ≡ status.Done)) → Checks store sink source target old new out_old out_new given
    checks not_foreign pending answer check pending_is first told answered = record {
      pending = pending;
      answer = answer;
      check = check;
      pending_is = pending_is;
      told = told;
      first = first;
      answered = answered;
      complete = λ tells readable served roomy no_fault_rose no_sink.
          given_ends _ (check_status answer) (status_ends not_foreign (store.disk old).files readable served roomy answer (check.checked tells) (λ is. no_fault_rose (check.fault.rose is))) told no_sink;
    }
