-- What showing a table tells, by how it ends.
use Rattle.std.proofs.Common.{◌≡◌, ◌⊎◌, ◌++◌, ℕ, List, Option, Some, None, inl, inr, ⊎_elim, refl, sym, ap, subst, ◌∙◌}
use Rattle.std.specs.Prelude.{Result, Ok, Err, IfErr, IfOk}
use Rattle.lake_store.specs.Cause.{Rose}
use Rattle.lake_store.specs.Disk.{Disk, Files}
use Rattle.lake_store.specs.Runs.{FailsBy, IsUncontestedBy, OnlyReads}
use Rattle.lake_store.specs.declared.sink.Sink as sinks
use Rattle.lake_store.specs.declared.store.Store.{Ghosts}
use Rattle.lake_store.proofs.RunLaws.{reading_further}
use Rattle.source_core.specs.Answers.{IsHeadRefusal, IsReadRefusal, IsReadable}
use Rattle.source_core.specs.declared.error.SourceError.{SourceError}
use Rattle.source_core.specs.declared.error.SourceError.TheVariants as source
use Rattle.source_core.specs.declared.head.Head.{Head}
use Rattle.table_history.specs.declared.table.Table.{Table}
use Rattle.table_lines.specs.TableLines.{AreTableLines}
use Rattle.target_sync.specs.Applied.{status_of_source}
use Rattle.sync_driver.specs.Commands.{IsPending}
use Rattle.sync_driver.specs.Lines.{pending_line}
use Rattle.sync_driver.specs.Shown.{IsShow, IsShowRefusal, IsShownSo, ShowAnswer, Shows, shown_status, shown_text}
use Rattle.target_sync.specs.Sources.{SourceMeaning}
use Rattle.sync_driver.specs.Tellings.{Tells}
use Rattle.target_sync.specs.declared.status.Status.{Status}
use Rattle.target_sync.specs.declared.status.Status.TheVariants as status
use Rattle.target_sync.proofs.Counting.{fails_as, fails_then, uncontested_then}

-- ---- a source that can be read is refused for want of memory alone, or for a fault of the store

head_ends : (absent : Type 0) (at_head from_scratch : SourceError → Type 0) → IsReadable absent at_head from_scratch → (e : SourceError) → IsHeadRefusal absent at_head e → (e ≡ source.StoreFault → ⊥) → e ≡ source.Memory
head_ends absent at_head from_scratch readable source.Memory is none = refl
head_ends absent at_head from_scratch readable source.Absent is none = absurd (readable.there is)
head_ends absent at_head from_scratch readable (source.Malformed path) is none = absurd (readable.head (source.Malformed path) is.1)
head_ends absent at_head from_scratch readable (source.Unsupported feature path) is none = absurd (readable.head (source.Unsupported feature path) is.1)
head_ends absent at_head from_scratch readable (source.Limit which number) is none = absurd (readable.head (source.Limit which number) is)
head_ends absent at_head from_scratch readable source.StoreFault is none = absurd (none refl)

table_ends : (absent : Type 0) (at_head from_scratch : SourceError → Type 0) → IsReadable absent at_head from_scratch → (e : SourceError) → IsReadRefusal from_scratch e → (e ≡ source.StoreFault → ⊥) → e ≡ source.Memory
table_ends absent at_head from_scratch readable source.Memory is none = refl
table_ends absent at_head from_scratch readable source.Absent is none = absurd is
table_ends absent at_head from_scratch readable (source.Malformed path) is none = absurd (readable.table (source.Malformed path) is)
table_ends absent at_head from_scratch readable (source.Unsupported feature path) is none = absurd (readable.table (source.Unsupported feature path) is)
table_ends absent at_head from_scratch readable (source.Limit which number) is none = absurd (readable.table (source.Limit which number) is)
table_ends absent at_head from_scratch readable source.StoreFault is none = absurd (none refl)

module _ {S O : Type 0} (store : Ghosts S) (sink : sinks.Ghosts O) (meaning : SourceMeaning) (old new : S) (out_old out_new : O) (given : Status) where
  ends : (answer : ShowAnswer) (line : List ℕ) → IsShow store meaning old new answer → Tells sink out_old out_new line (shown_status answer) given → store.tells
      → IsReadable (meaning.is_absent (store.disk old).files) (meaning.at_head (store.disk old).files) (meaning.from_scratch (store.disk old).files)
      → (Rose (store.faults old) (store.faults new) → ⊥) → (Rose (sink.faults out_old) (sink.faults out_new) → ⊥) → (given ≡ status.Done) ⊎ (given ≡ status.Memory)
  ends None line show told tells readable no_fault no_sink = ⊎_elim (λ due. inl due) (λ other. ⊎_elim (λ memory. inr memory) (λ failed. absurd (no_sink failed.1.1.0)) other) told.status
  ends (Some (Ok lines)) line show told tells readable no_fault no_sink = ⊎_elim (λ due. inl due) (λ other. ⊎_elim (λ memory. inr memory) (λ failed. absurd (no_sink failed.1.1.0)) other) told.status
  ends (Some (Err e)) line show told tells readable no_fault no_sink =
      let none : e ≡ source.StoreFault → ⊥ = λ is. no_fault (show.cause.rose (ap (λ (d : SourceError). Some (Err d)) is)) in
      let memory : e ≡ source.Memory = ⊎_elim (λ head. head_ends _ _ _ readable e head none) (λ table. table_ends _ _ _ readable e table.2 none) (show.shown tells) in
      ⊎_elim (λ due. inr (due ∙ ap status_of_source memory)) (λ other. ⊎_elim (λ out. inr out) (λ failed. absurd (no_sink failed.1.1.0)) other) told.status

  pub shows : (pending : Option (List ℕ)) (answer : ShowAnswer) → IsShow store meaning old new answer → (store.tells → IsPending meaning (store.disk old).files pending (λ e. answer ≡ Some (Err e)))
      → Tells sink out_old out_new (pending_line pending ++ shown_text answer) (shown_status answer) given → (answer ≡ None → ¬ (given ≡ status.Done)) → Shows store sink meaning old new out_old out_new given
  shows pending answer show pending_is told answered = record {
    pending = pending;
    answer = answer;
    show = show;
    pending_is = pending_is;
    told = told;
    answered = answered;
    complete = λ tells readable no_fault no_sink. ends answer _ show told tells readable no_fault no_sink;
  }

-- behind a run that only read
pub show_behind : {S : Type 0} (store : Ghosts S) (meaning : SourceMeaning) (old mid new : S) → (store.tells → OnlyReads store old mid) → (A B : Type 0) → FailsBy store old mid A → IsUncontestedBy store old mid B → (answer : ShowAnswer)
    → IsShow store meaning mid new answer → IsShow store meaning old new answer
show_behind store meaning old mid new reading A B cause quiet answer show = record {
  reads = reading_further store old mid new reading show.reads;
  cause = fails_then store.faults store.may_fail old mid new A (answer ≡ Some (Err source.StoreFault)) cause show.cause;
  contest = uncontested_then store.contests store.may_contest old mid new B ⊥ quiet show.contest;
  shown = λ told. subst (λ (d : Disk). IsShownSo meaning d.files answer) (reading told).disk (show.shown told);
}

-- the pending commit's line was cut
pub show_none : {S : Type 0} (store : Ghosts S) (meaning : SourceMeaning) (old new : S) → (store.tells → OnlyReads store old new) → (A : Type 0) → FailsBy store old new A → IsUncontestedBy store old new ⊥ → IsShow store meaning old new None
show_none store meaning old new reading A cause quiet = record {
  reads = reading;
  cause = fails_as store.faults store.may_fail old new A (None ≡ Some (Err source.StoreFault)) (λ is. absurd (cc is)) cause;
  contest = quiet;
  shown = λ told. tt;
}

-- memory may run out behind the reading
pub memory_refused : (meaning : SourceMeaning) (files : Files) (answer : Result (List ℕ) SourceError) → IfErr answer (λ e. e ≡ source.Memory) → IfErr answer (IsReadRefusal (meaning.from_scratch files))
memory_refused meaning files (Ok lines) is = tt
memory_refused meaning files (Err e) is = subst (IsReadRefusal (meaning.from_scratch files)) (sym is) tt

-- the table was read, and its lines are due, or memory ran out
pub show_of : {S : Type 0} (store : Ghosts S) (meaning : SourceMeaning) (old new : S) (head : Head) → (store.tells → meaning.is_head (store.disk old).files head) → (table : Table) → (store.tells → meaning.is_table (store.disk old).files table)
    → (store.tells → OnlyReads store old new) → (A : Type 0) → FailsBy store old new A → IsUncontestedBy store old new ⊥ → (answer : Result (List ℕ) SourceError)
    → IfOk answer (AreTableLines meaning.kind head.position table) → IfErr answer (λ e. e ≡ source.Memory) → IsShow store meaning old new (Some answer)
show_of store meaning old new head is_head table is_table reading A cause quiet (Ok lines) are memory = record {
  reads = reading;
  cause = fails_as store.faults store.may_fail old new A (Some (Ok lines) ≡ Some (Err source.StoreFault)) (λ is. absurd (cc is)) cause;
  contest = quiet;
  shown = λ told. (head, table, is_head told, is_table told, are);
}
show_of store meaning old new head is_head table is_table reading A cause quiet (Err e) are memory = record {
  reads = reading;
  cause = fails_as store.faults store.may_fail old new A (Some (Err e) ≡ Some (Err source.StoreFault)) (λ is. absurd (not_fault is)) cause;
  contest = quiet;
  shown = λ told. subst (IsShowRefusal meaning (store.disk old).files) (sym memory) (inl tt);
}
  where
    not_fault : ◌≡◌ {A = ShowAnswer} (Some (Err e)) (Some (Err source.StoreFault)) → ⊥
    not_fault is = let same : e ≡ source.StoreFault = cc is in let no : source.Memory ≡ source.StoreFault = sym memory ∙ same in cc no
