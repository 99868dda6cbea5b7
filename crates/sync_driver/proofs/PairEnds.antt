-- When a sync of two targets is done.
use Rattle.std.proofs.Common.{◌≡◌, ◌⊎◌, ◌++◌, ℕ, Bool, true, false, List, [], Option, Some, None, inl, inr, ⊎_elim, refl, sym, ap, subst, ◌∙◌, arith}
use Rattle.std.specs.Prelude.{Ok, Err}
use Rattle.lake_store.specs.Cause.{HasFault, Rose}
use Rattle.lake_store.specs.Disk.{Files}
use Rattle.lake_store.specs.Runs.{FailsBy, IsUncontestedBy, OnlyReads}
use Rattle.lake_store.specs.declared.sink.Sink as sinks
use Rattle.lake_store.specs.declared.store.Store.{Ghosts}
use Rattle.lake_store.proofs.RunLaws.{alone_by_reading, reading_begins}
use Rattle.source_core.specs.Answers.{IsHeadRefusal}
use Rattle.source_core.specs.declared.error.SourceError.{SourceError}
use Rattle.source_core.specs.declared.error.SourceError.TheVariants as source_error
use Rattle.source_core.specs.declared.head.Head.{Head}
use Rattle.table_history.specs.declared.kind.Kind.{Kind}
use Rattle.target_core.specs.OwnFiles.{MayNotTouch, TouchesOwn}
use Rattle.target_sync.specs.Answered.{Answer, CanSync, IsAbsent, IsCaused, IsComplete, IsDone, IsFew, IsOfSync, IsReadFault, IsRefusal, IsSync}
use Rattle.target_sync.specs.Applied.{status_of_source}
use Rattle.target_sync.specs.Sources.{SourceMeaning}
use Rattle.target_sync.specs.Targets.{TargetFacts}
use Rattle.target_sync.specs.declared.plan.Mode.{Mode}
use Rattle.target_sync.specs.declared.status.Side.TheVariants as side
use Rattle.target_sync.specs.declared.status.Status.{Status}
use Rattle.target_sync.specs.declared.status.Status.TheVariants as status
use Rattle.target_sync.specs.Others.{ChangesTargets, NeitherTouches}
use Rattle.target_sync.proofs.Along.{AlongLaws, sync_along}
use Rattle.target_sync.proofs.Applying.{CrashLaws}
use Rattle.target_sync.proofs.Beside.{beside_behind}
use Rattle.target_sync.proofs.Counting.{fails_as, fails_never}
use Rattle.target_sync.proofs.Following.{source_of_others}
use Rattle.target_sync.proofs.Refusing.{absence_of_head}
use Rattle.target_sync.proofs.Sizes.{short_reading}
use Rattle.target_sync.proofs.Standing.{SourceLaws, synced_idle}
use Rattle.sync_driver.specs.Both.{AreSynced, GoesBoth, InPhases, IsContested, IsCut, IsDoneBut, IsEnd, IsRefused, SyncsBoth, both_lines, both_status, first_refusal, status_behind}
use Rattle.sync_driver.specs.Commands.{IsPending, answer_status}
use Rattle.sync_driver.specs.Lines.{pending_line, refusal_line}
use Rattle.sync_driver.specs.Tellings.{Tells}
use Rattle.sync_driver.proofs.PairExits.{end_of_source}
use Rattle.sync_driver.proofs.Pairs.{PairLaws, phases_behind, synced_both_behind, told_one}
use Rattle.sync_driver.proofs.Saying.{first_alone, first_behind, told_alone, told_behind}

-- ---- statuses

abbrev IsNotSink : Status → Type 0
IsNotSink status.SinkFault = ⊥
IsNotSink _ = Unit {0}

not_sink_first : (so_far next : Status) → IsNotSink so_far → IsNotSink next → IsNotSink (first_refusal so_far next)
not_sink_first status.Done next never other = other
not_sink_first status.Memory next never other = tt
not_sink_first status.Usage next never other = tt
not_sink_first status.Absent next never other = tt
not_sink_first (status.Malformed path) next never other = tt
not_sink_first (status.Unsupported of feature path) next never other = tt
not_sink_first (status.Limit of which number) next never other = tt
not_sink_first (status.Foreign kind path) next never other = tt
not_sink_first (status.Contested kind) next never other = tt
not_sink_first status.StoreFault next never other = tt
not_sink_first status.SinkFault next never other = never
not_sink_first (status.Behind kind at head) next never other = tt
not_sink_first (status.Differs kind path) next never other = tt
not_sink_first (status.Stale path) next never other = tt

not_sink_behind : (so_far last : Status) → IsNotSink so_far → IsNotSink last → IsNotSink (status_behind so_far last)
not_sink_behind so_far status.Done never other = not_sink_first so_far status.Done never other
not_sink_behind so_far status.Memory never other = tt
not_sink_behind so_far status.Usage never other = not_sink_first so_far status.Usage never other
not_sink_behind so_far status.Absent never other = not_sink_first so_far status.Absent never other
not_sink_behind so_far (status.Malformed path) never other = not_sink_first so_far (status.Malformed path) never other
not_sink_behind so_far (status.Unsupported of feature path) never other = not_sink_first so_far (status.Unsupported of feature path) never other
not_sink_behind so_far (status.Limit of which number) never other = not_sink_first so_far (status.Limit of which number) never other
not_sink_behind so_far (status.Foreign kind path) never other = not_sink_first so_far (status.Foreign kind path) never other
not_sink_behind so_far (status.Contested kind) never other = not_sink_first so_far (status.Contested kind) never other
not_sink_behind so_far status.StoreFault never other = tt
not_sink_behind so_far status.SinkFault never other = other
not_sink_behind so_far (status.Behind kind at head) never other = not_sink_first so_far (status.Behind kind at head) never other
not_sink_behind so_far (status.Differs kind path) never other = not_sink_first so_far (status.Differs kind path) never other
not_sink_behind so_far (status.Stale path) never other = not_sink_first so_far (status.Stale path) never other

not_sink : (target : Kind) (e : Status) → IsOfSync target e → IsNotSink e
not_sink target status.Done few = tt
not_sink target status.Memory few = tt
not_sink target status.Usage few = tt
not_sink target status.Absent few = tt
not_sink target (status.Malformed path) few = tt
not_sink target (status.Unsupported of feature path) few = tt
not_sink target (status.Limit of which number) few = tt
not_sink target (status.Foreign kind path) few = tt
not_sink target (status.Contested kind) few = tt
not_sink target status.StoreFault few = tt
not_sink target status.SinkFault few = few
not_sink target (status.Behind kind at head) few = tt
not_sink target (status.Differs kind path) few = tt
not_sink target (status.Stale path) few = tt

not_sink_answer : (target : Kind) (answer : Answer) → IsFew target answer → IsNotSink (answer_status answer)
not_sink_answer target None few = tt
not_sink_answer target (Some (Ok report)) few = tt
not_sink_answer target (Some (Err e)) few = not_sink target e few

not_sink_both : (first second : Kind) (order : Bool) (one two : Answer) → IsFew first one → IsFew second two → IsNotSink (both_status order one two)
not_sink_both first second false one two few other = not_sink_behind (answer_status one) (answer_status two) (not_sink_answer first one few) (not_sink_answer second two other)
not_sink_both first second true one two few other = not_sink_behind (answer_status two) (answer_status one) (not_sink_answer second two other) (not_sink_answer first one few)

-- want of memory stays the status
memory_first : (target : Kind) (e : Status) → IsOfSync target e → ¬ (e ≡ status.StoreFault) → status_behind status.Memory e ≡ status.Memory
memory_first target status.Done few never = refl
memory_first target status.Memory few never = refl
memory_first target status.Usage few never = refl
memory_first target status.Absent few never = refl
memory_first target (status.Malformed path) few never = refl
memory_first target (status.Unsupported of feature path) few never = refl
memory_first target (status.Limit of which number) few never = refl
memory_first target (status.Foreign kind path) few never = refl
memory_first target (status.Contested kind) few never = refl
memory_first target status.StoreFault few never = absurd (never refl)
memory_first target status.SinkFault few never = absurd few
memory_first target (status.Behind kind at head) few never = refl
memory_first target (status.Differs kind path) few never = refl
memory_first target (status.Stale path) few never = refl

memory_before : (target : Kind) (answer : Answer) → IsFew target answer → ¬ (answer ≡ Some (Err status.StoreFault)) → status_behind status.Memory (answer_status answer) ≡ status.Memory
memory_before target None few never = refl
memory_before target (Some (Ok report)) few never = refl
memory_before target (Some (Err e)) few never = memory_first target e few (λ is. never (ap (λ (s : Status). Some (Err s)) is))

-- memory ran out, or another writer was in the way
done_but : (target : Kind) (e : Status) → IsOfSync target e → (¬ (◌≡◌ {A = Answer} (Some (Err e)) (Some (Err (status.Contested target)))) → e ≡ status.Memory) → (e ≡ status.Memory) ⊎ (◌≡◌ {A = Answer} (Some (Err e)) (Some (Err (status.Contested target))))
done_but target status.Done few complete = inl (complete (λ is. cc is))
done_but target status.Memory few complete = inl (complete (λ is. cc is))
done_but target status.Usage few complete = inl (complete (λ is. cc is))
done_but target status.Absent few complete = inl (complete (λ is. cc is))
done_but target (status.Malformed path) few complete = inl (complete (λ is. cc is))
done_but target (status.Unsupported of feature path) few complete = inl (complete (λ is. cc is))
done_but target (status.Limit of which number) few complete = inl (complete (λ is. cc is))
done_but target (status.Foreign kind path) few complete = inl (complete (λ is. cc is))
done_but target (status.Contested kind) few complete = inr (ap (λ (k : Kind). Some (Err (status.Contested k))) few)
done_but target status.StoreFault few complete = inl (complete (λ is. cc is))
done_but target status.SinkFault few complete = inl (complete (λ is. cc is))
done_but target (status.Behind kind at head) few complete = inl (complete (λ is. cc is))
done_but target (status.Differs kind path) few complete = inl (complete (λ is. cc is))
done_but target (status.Stale path) few complete = inl (complete (λ is. cc is))

done_status : (answer : Answer) → IsDone answer → answer_status answer ≡ status.Done
done_status None done = absurd done
done_status (Some (Ok report)) done = refl
done_status (Some (Err e)) done = absurd done

-- ---- one of the two

-- An end of the other target, where the source can be read, is want of memory or a fault of the store.
other_ends : (Idle : Type 0) (source : SourceMeaning) (first second : TargetFacts) (mode : Mode) (now : ℕ) (files : Files) → CanSync source first mode now files → ((e : SourceError) → ¬ IsReadFault source second mode files e)
    → (e : Status) → IsEnd e → IsRefusal Idle source second mode now files e → (e ≡ status.Memory) ⊎ (e ≡ status.StoreFault)
other_ends Idle source first second mode now files can read status.Done end is = absurd end
other_ends Idle source first second mode now files can read status.Memory end is = inl refl
other_ends Idle source first second mode now files can read status.Usage end is = absurd end
other_ends Idle source first second mode now files can read status.Absent end is = absurd (can.there is.1)
other_ends Idle source first second mode now files can read (status.Malformed path) end is = absurd (⊎_elim (λ head. can.readable (source_error.Malformed path) (inl head)) (read (source_error.Malformed path)) is.1)
other_ends Idle source first second mode now files can read (status.Unsupported side.Source feature path) end is =
    absurd (⊎_elim (λ head. can.readable (source_error.Unsupported feature path) (inl head)) (read (source_error.Unsupported feature path)) is.1)
other_ends Idle source first second mode now files can read (status.Unsupported (side.Target kind) feature path) end is = absurd end
other_ends Idle source first second mode now files can read (status.Limit side.Source which number) end is =
    absurd (⊎_elim (λ head. can.readable (source_error.Limit which number) (inl head)) (read (source_error.Limit which number)) is.1)
other_ends Idle source first second mode now files can read (status.Limit (side.Target kind) which number) end is = absurd end
other_ends Idle source first second mode now files can read (status.Foreign kind path) end is = absurd end
other_ends Idle source first second mode now files can read (status.Contested kind) end is = absurd end
other_ends Idle source first second mode now files can read status.StoreFault end is = inr refl
other_ends Idle source first second mode now files can read status.SinkFault end is = absurd end
other_ends Idle source first second mode now files can read (status.Behind kind at head) end is = absurd end
other_ends Idle source first second mode now files can read (status.Differs kind path) end is = absurd end
other_ends Idle source first second mode now files can read (status.Stale path) end is = absurd end

-- What can be done of a target is done, by its answer, by that of the other and by the status that is due.
one_done : (Idle : Type 0) (source : SourceMeaning) (target other : TargetFacts) (mode : Mode) (now : ℕ) (files : Files) (answer beside : Answer) (due given : Status)
    → CanSync source target mode now files → ((e : SourceError) → ¬ IsReadFault source other mode files e) → IsFew target.files.kind answer → IsCaused Idle source other mode now files beside
    → (¬ IsContested target answer → IsComplete answer) → (answer ≡ None → IsRefused IsEnd beside ⊎ IsCut given) → ¬ (beside ≡ Some (Err status.StoreFault))
    → (answer ≡ Some (Err status.Memory) → due ≡ status.Memory) → (answer ≡ None → beside ≡ Some (Err status.Memory) → due ≡ status.Memory) → (due ≡ status.Memory → given ≡ status.Memory) → ¬ (given ≡ status.SinkFault) → IsDoneBut target answer given
one_done Idle source target other mode now files (Some (Ok report)) beside due given can read few caused complete answered no_fault memory none_memory given_memory no_sink = inr (inl tt)
one_done Idle source target other mode now files (Some (Err e)) beside due given can read few caused complete answered no_fault memory none_memory given_memory no_sink =
    ⊎_elim (λ (is : e ≡ status.Memory). inl (given_memory (memory (ap (λ (s : Status). Some (Err s)) is)))) (λ contest. inr (inr contest)) (done_but target.files.kind e few complete)
one_done Idle source target other mode now files None beside due given can read few caused complete answered no_fault memory none_memory given_memory no_sink =
    ⊎_elim (λ end. by_other beside refl end) (λ cut. ⊎_elim (λ is. inl is) (λ is. absurd (no_sink is)) cut) (answered refl)
  where
    by_other : (a : Answer) → beside ≡ a → IsRefused IsEnd a → IsDoneBut target None given
    by_other None is end = absurd end
    by_other (Some (Ok report)) is end = absurd end
    by_other (Some (Err e)) is end =
        ⊎_elim (λ (out : e ≡ status.Memory). inl (given_memory (none_memory refl (is ∙ ap (λ (s : Status). Some (Err s)) out)))) (λ (fault : e ≡ status.StoreFault). absurd (no_fault (is ∙ ap (λ (s : Status). Some (Err s)) fault)))
        (other_ends Idle source target other mode now files can read e end (subst (IsCaused Idle source other mode now files) is caused))

-- ---- both

module _ {S O : Type 0} (store : Ghosts S) (sink : sinks.Ghosts O) (source : SourceMeaning) (first second : TargetFacts) (mode : Mode) (now : ℕ) (old new : S) (out_old out_new : O) (given : Status) (one two : Answer) (order : Bool) (line : List ℕ)
    (are : AreSynced store source first second mode now old new one two order) (told : Tells sink out_old out_new line (both_status order one two) given) where
  abbrev files : Files
  files = (store.disk old).files

  abbrev due : Status
  due = both_status order one two

  module _ (no_sink : ¬ Rose (sink.faults out_old) (sink.faults out_new)) where
    given_memory : due ≡ status.Memory → given ≡ status.Memory
    given_memory is = ⊎_elim (λ (same : given ≡ due). same ∙ is) (λ other. ⊎_elim (λ memory. memory) (λ failed. absurd (no_sink failed.1.1.0)) other) told.status

    not_sunk : ¬ (given ≡ status.SinkFault)
    not_sunk is =
        ⊎_elim (λ (same : given ≡ due). subst IsNotSink (sym same ∙ is) (not_sink_both first.files.kind second.files.kind order one two are.first_sync.few are.second_sync.few))
        (λ other. ⊎_elim (λ (memory : given ≡ status.Memory). let never : status.Memory ≡ status.SinkFault = sym memory ∙ is in absurd (cc never)) (λ failed. no_sink failed.1.1.0) other) told.status

  module _ (no_fault : ¬ Rose (store.faults old) (store.faults new)) where
    no_first : ¬ (one ≡ Some (Err status.StoreFault))
    no_first is = no_fault (are.first_sync.fault.rose is)

    no_second : ¬ (two ≡ Some (Err status.StoreFault))
    no_second is = no_fault (are.second_sync.fault.rose is)

    first_memory : one ≡ Some (Err status.Memory) → due ≡ status.Memory
    first_memory is = by_order order
      where
        by_order : (o : Bool) → both_status o one two ≡ status.Memory
        by_order false = ap (λ (a : Answer). status_behind (answer_status a) (answer_status two)) is ∙ memory_before second.files.kind two are.second_sync.few no_second
        by_order true = ap (λ (a : Answer). status_behind (answer_status two) (answer_status a)) is

    second_memory : two ≡ Some (Err status.Memory) → due ≡ status.Memory
    second_memory is = by_order order
      where
        by_order : (o : Bool) → both_status o one two ≡ status.Memory
        by_order false = ap (λ (a : Answer). status_behind (answer_status one) (answer_status a)) is
        by_order true = ap (λ (a : Answer). status_behind (answer_status a) (answer_status one)) is ∙ memory_before first.files.kind one are.first_sync.few no_first

  pub first_done : (one ≡ None → IsRefused IsEnd two ⊎ IsCut given) → store.tells → CanSync source first mode now files → ((e : SourceError) → ¬ IsReadFault source second mode files e) → ¬ Rose (store.faults old) (store.faults new) → ¬ Rose (sink.faults out_old) (sink.faults out_new)
      → IsDoneBut first one given
  first_done answered tells can read no_fault no_sink = one_done _ source first second mode now files one two due given can read are.first_sync.few (are.second_sync.caused tells) (are.first_sync.complete tells can no_fault) answered
      (no_second no_fault) (first_memory no_fault) (λ none is. second_memory no_fault is) (given_memory no_sink) (not_sunk no_sink)

  pub second_done : (two ≡ None → IsRefused IsEnd one ⊎ IsCut given) → store.tells → CanSync source second mode now files → ((e : SourceError) → ¬ IsReadFault source first mode files e) → ¬ Rose (store.faults old) (store.faults new) → ¬ Rose (sink.faults out_old) (sink.faults out_new)
      → IsDoneBut second two given
  second_done answered tells can read no_fault no_sink = one_done _ source second first mode now files two one due given can read are.second_sync.few (are.first_sync.caused tells) (are.second_sync.complete tells can no_fault) answered
      (no_first no_fault) (second_memory no_fault) (λ none is. first_memory no_fault is) (given_memory no_sink) (not_sunk no_sink)

  due_done : IsDone one → IsDone two → due ≡ status.Done
  due_done done other = by_order order
    where
      by_order : (o : Bool) → both_status o one two ≡ status.Done
      by_order false = ap (λ (s : Status). status_behind s (answer_status two)) (done_status one done) ∙ ap (λ (s : Status). status_behind status.Done s) (done_status two other)
      by_order true = ap (λ (s : Status). status_behind s (answer_status one)) (done_status two other) ∙ ap (λ (s : Status). status_behind status.Done s) (done_status one done)

  pub all_done : (one ≡ None → IsRefused IsEnd two ⊎ IsCut given) → (two ≡ None → IsRefused IsEnd one ⊎ IsCut given) → store.tells → CanSync source first mode now files → CanSync source second mode now files
      → ¬ Rose (store.faults old) (store.faults new) → ¬ IsContested first one → ¬ IsContested second two → ¬ Rose (sink.faults out_old) (sink.faults out_new) → (given ≡ status.Done) ⊎ (given ≡ status.Memory)
  all_done first_answered second_answered tells can other no_fault never never_other no_sink =
      ⊎_elim (λ memory. inr memory)
      (λ first_is. ⊎_elim
      (λ (done : IsDone one). ⊎_elim (λ memory. inr memory)
      (λ second_is. ⊎_elim
      (λ (done_too : IsDone two). ⊎_elim (λ (same : given ≡ due). inl (same ∙ due_done done done_too)) (λ others. ⊎_elim (λ memory. inr memory) (λ failed. absurd (no_sink failed.1.1.0)) others) told.status)
      (λ contest. absurd (never_other contest)) second_is)
      (second_done second_answered tells other (λ e read. can.readable e (inr read)) no_fault no_sink))
      (λ contest. absurd (never contest)) first_is)
      (first_done first_answered tells can (λ e read. other.readable e (inr read)) no_fault no_sink)

-- ---- a target whose turn didn't come, beside another one

not_counted : {S : Type 0} (count : S → ℕ) (may : S → Type 0) (old new : S) (A : Type 0) → (A → ⊥) → count new ≡ count old → (may new → may old) → HasFault count may old new A
not_counted count may old new A never same still = record { later = omega (arith, same); still = still; rose = λ a. absurd (never a); allowed = λ a. absurd (never a) }

sync_skipped : {S : Type 0} (store : Ghosts S) (source : SourceMeaning) (target : TargetFacts) (other : Kind) (mode : Mode) (now : ℕ) → SourceLaws source → CrashLaws target.files → (old new : S) → (store.tells → OnlyReads store old new) → (A B : Type 0) → FailsBy store old new A
    → IsUncontestedBy store old new B → IsSync store source target (Some other) mode now old new None
sync_skipped store source target other mode now own crash old new reading A B cause quiet =
    let alone : store.tells → ChangesTargets store target.files.kind (Some other) old new = λ told. alone_by_reading store (NeitherTouches target.files.kind other) old new (reading told) in
    record {
      alone = alone;
      short = short_reading store old new reading;
      source_stays = λ told apart clean. source_of_others store source own target.files.kind (Some other) old new told apart (alone told) clean;
      synced = λ told start ready. synced_idle source own target.files mode crash store start (Unit {0}) ⊥ (λ never. never) old new told (reading told) ready.reads ready.settled;
      reported = λ told start reads goes. tt;
      in_full = tt;
      still = λ told mode_is done start reads goes at. absurd done;
      contested = λ told is start ready. absurd (cc is);
      limited = λ told which number is start ready. absurd (cc is);
      stopped = λ told start ready. tt;
      few = tt;
      caused = λ told. alone_by_reading store (MayNotTouch other) old new (reading told);
      absent = λ told is. tt;
      foreign = λ told path is. tt;
      fault = fails_as store.faults store.may_fail old new A (None ≡ Some (Err status.StoreFault)) (λ is. absurd (cc is)) cause;
      contest = not_counted store.contests store.may_contest old new (◌≡◌ {A = Answer} None (Some (Err (status.Contested target.files.kind)))) (λ is. cc is) quiet.same quiet.still;
      complete = λ told can no_fault never. tt;
    }

-- ---- the ways a sync of two targets ends

module _ {S O : Type 0} (store : Ghosts S) (sink : sinks.Ghosts O) (source : SourceMeaning) (first second : TargetFacts) (laws : PairLaws store source first second) (first_laws : AlongLaws source first.files) (second_laws : AlongLaws source second.files) (mode : Mode) (now : ℕ) where
  abbrev Ends : S → S → O → O → Status → Type 0
  Ends old new out_old out_new given = SyncsBoth store sink source first second mode now old new out_old out_new given

  -- by its answers and its lines
  syncs_both : (old new : S) (out_old out_new : O) (given : Status) (pending : Option (List ℕ)) (one two : Answer) (order : Bool) → AreSynced store source first second mode now old new one two order
      → (store.tells → IsPending source (store.disk old).files pending (λ e. (one ≡ Some (Err (status_of_source e))) × (two ≡ None) × OnlyReads store old new))
      → InPhases store sink source first second old new out_old out_new (pending_line pending) given one two order
      → Tells sink out_old out_new (pending_line pending ++ both_lines first.files.kind second.files.kind order one two) (both_status order one two) given
      → (sink.tells → ¬ ((one ≡ None) × (two ≡ None)) → (rest : List ℕ) × (sink.output out_new ≡ sink.output out_old ++ pending_line pending ++ rest))
      → (store.tells → source.is_absent (store.disk old).files → IsAbsent None source (store.disk old).files one) → Ends old new out_old out_new given
  syncs_both old new out_old out_new given pending one two order are pending_is phases told began absent =
      let first_answered : one ≡ None → IsRefused IsEnd two ⊎ IsCut given = λ is. ⊎_elim (λ end. inl end) (λ cut. inr cut.0) (phases.first_answered is) in
      let second_answered : two ≡ None → IsRefused IsEnd one ⊎ IsCut given = λ is. ⊎_elim (λ end. inl end) (λ cut. inr cut.0) (phases.second_answered is) in
      record {
        pending = pending;
        one = one;
        two = two;
        second_first = order;
        synced = are;
        first_along = sync_along store source first_laws.histories first first_laws.kinds first_laws.published first_laws.absent_any (Some second.files.kind) mode now old new one are.first_sync;
        second_along = sync_along store source second_laws.histories second second_laws.kinds second_laws.published second_laws.absent_any (Some first.files.kind) mode now old new two are.second_sync;
        phases = phases;
        pending_is = pending_is;
        told = told;
        began = began;
        absent = absent;
        first_complete = first_done store sink source first second mode now old new out_old out_new given one two order _ are told first_answered;
        second_complete = second_done store sink source first second mode now old new out_old out_new given one two order _ are told second_answered;
        complete = all_done store sink source first second mode now old new out_old out_new given one two order _ are told first_answered second_answered;
      }

  -- finding the head was refused
  pub head_ended : (old new : S) (out_old out_new : O) (e : SourceError) (given : Status) → (store.tells → OnlyReads store old new) → IsSync store source first None mode now old new (Some (Err (status_of_source e)))
      → (A : Type 0) → IsUncontestedBy store old new A → (store.tells → IsHeadRefusal (source.is_absent (store.disk old).files) (source.at_head (store.disk old).files) e)
      → Tells sink out_old out_new (refusal_line (status_of_source e)) (status_of_source e) given → Ends old new out_old out_new given
  head_ended old new out_old out_new e given reading sync A quiet refused told =
      let one : Answer = Some (Err (status_of_source e)) in
      let Fault : Type 0 = one ≡ Some (Err status.StoreFault) in
      let idle : store.tells → TouchesOwn store second.files.kind new new = λ tells. alone_by_reading store (MayNotTouch second.files.kind) new new (reading_begins store laws.only_now new tells) in
      syncs_both old new out_old out_new given None one None false
      (record {
        first_sync = beside_behind store laws.only_now laws.now_counts source laws.source_laws laws.fault_laws first laws.first_crash laws.first_own second.files.kind (λ is. laws.apart (sym is)) mode now old new new one sync idle (short_reading store new new (reading_begins store laws.only_now new)) ⊥ ⊥
            (fails_never store.faults store.may_fail new ⊥ (λ never. never)) (fails_never store.contests store.may_contest new ⊥ (λ never. never));
        second_sync = sync_skipped store source second first.files.kind mode now laws.source_laws laws.second_crash old new reading Fault A sync.fault quiet;
        order = λ tells. inr tt;
        told_order = inr tt;
        fault = fails_as store.faults store.may_fail old new Fault (Fault ⊎ (None ≡ Some (Err status.StoreFault))) (λ either. ⊎_elim (λ is. is) (λ is. absurd (cc is)) either) sync.fault;
        uncontested = λ never other. quiet.same;
        contested = λ is other. absurd (cc other);
      })
      (λ tells. inr (refl, (e, refused tells, (refl, refl, reading tells))))
      (record {
        at_once = λ is. refl;
        ended = λ is. refl;
        unread = λ tells is. reading tells;
        first_left = λ tells is. absurd is;
        second_left = λ tells is. inl (e, refused tells, refl);
        untouched = λ tells is. reading tells;
        went = λ tells some. absurd (some refl);
        first_answered = λ is. absurd (cc is);
        looked = λ tells is. inl (reading tells);
        second_answered = λ is. inl (end_of_source e);
      })
      (told_one sink out_old out_new (refusal_line (status_of_source e)) (status_of_source e) given told)
      (λ tells some. first_alone sink out_old out_new (refusal_line (status_of_source e) ++ []) (status_behind (status_of_source e) status.Done) given (told_one sink out_old out_new (refusal_line (status_of_source e)) (status_of_source e) given told) tells)
      (λ tells absent. absence_of_head source first mode now (store.disk old).files (OnlyReads store old new) (reading tells) e (refused tells) absent)

  module _ (old mid : S) (reading : store.tells → OnlyReads store old mid) (A B : Type 0) (cause : FailsBy store old mid A) (quiet : IsUncontestedBy store old mid B) (head : Head) (is_head : store.tells → source.is_head (store.disk old).files head)
      (there : store.tells → ¬ source.is_absent (store.disk old).files) (out_old out_mid : O) where
    -- the pending commit's line was cut
    pub pending_cut : (cut : Status) → Tells sink out_old out_mid (pending_line head.pending) status.Done cut × ¬ (cut ≡ status.Done) → Ends old mid out_old out_mid cut
    pending_cut cut told =
        let is_cut : IsCut cut = ⊎_elim (λ is. absurd (told.1 is)) (λ other. ⊎_elim (λ memory. inl memory) (λ failed. inr failed.0) other) told.0.status in
        syncs_both old mid out_old out_mid cut head.pending None None false
        (record {
          first_sync = sync_skipped store source first second.files.kind mode now laws.source_laws laws.first_crash old mid reading A B cause quiet;
          second_sync = sync_skipped store source second first.files.kind mode now laws.source_laws laws.second_crash old mid reading A B cause quiet;
          order = λ tells. inr tt;
          told_order = inr tt;
          fault = fails_as store.faults store.may_fail old mid A ((None ≡ Some (Err status.StoreFault)) ⊎ (None ≡ Some (Err status.StoreFault))) (λ either. ⊎_elim (λ is. absurd (cc is)) (λ is. absurd (cc is)) either) cause;
          uncontested = λ never other. quiet.same;
          contested = λ is other. absurd (cc is);
        })
        (λ tells. inl (head, is_head tells, refl))
        (record {
          at_once = λ is. refl;
          ended = λ is. refl;
          unread = λ tells is. reading tells;
          first_left = λ tells is. absurd is;
          second_left = λ tells is. absurd is;
          untouched = λ tells is. reading tells;
          went = λ tells some. absurd (some refl);
          first_answered = λ is. inr (is_cut, λ tells. inl refl);
          looked = λ tells is. inl (reading tells);
          second_answered = λ is. inr (is_cut, λ tells. inl refl);
        })
        (told_alone sink out_old out_mid (pending_line head.pending) status.Done cut told.0)
        (λ tells some. absurd (some (refl, refl)))
        (λ tells absent. absurd (there tells absent))

    -- it went out, and the command went on
    pub went_both : (new : S) (out_new : O) (given : Status) → Tells sink out_old out_mid (pending_line head.pending) status.Done status.Done → GoesBoth store sink source first second mode now mid new out_mid out_new given → Ends old new out_old out_new given
    went_both new out_new given told goes =
        let lines : List ℕ = both_lines first.files.kind second.files.kind goes.second_first goes.one goes.two in
        let due : Status = both_status goes.second_first goes.one goes.two in
        syncs_both old new out_old out_new given head.pending goes.one goes.two goes.second_first
        (synced_both_behind store sink source laws.source_laws first laws.first_crash second laws.second_crash mode now old mid new reading A B cause quiet goes.one goes.two goes.second_first goes.synced)
        (λ tells. inl (head, is_head tells, refl))
        (phases_behind store sink source laws.source_laws first laws.first_crash second laws.second_crash mode now old mid new reading A B cause quiet out_old out_mid out_new (pending_line head.pending) given goes.one goes.two goes.second_first told goes.phases)
        (told_behind sink out_old out_mid out_new (pending_line head.pending) lines due given told goes.told)
        (λ tells some. first_behind sink out_old out_mid out_new (pending_line head.pending) lines due given told goes.told tells)
        (λ tells absent. absurd (there tells absent))
