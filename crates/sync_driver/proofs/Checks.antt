-- How comparing a target with its source ends.
use Rattle.std.proofs.Common.{◌≡◌, inl, inr, ℕ, List, [], Option, Some, None, refl, sym, ap, subst, ◌∙◌}
use Rattle.std.specs.Prelude.{Result, Ok, Err}
use Rattle.lake_store.specs.Disk.{Disk, Files}
use Rattle.lake_store.specs.Runs.{FailsBy, IsUncontestedBy, OnlyReads}
use Rattle.lake_store.specs.declared.store.Store.{Ghosts}
use Rattle.lake_store.proofs.RunLaws.{reading_further}
use Rattle.source_core.specs.Answers.{IsReadRefusal}
use Rattle.source_core.specs.declared.error.SourceError.{SourceError}
use Rattle.source_core.specs.declared.error.SourceError.TheVariants as source_error
use Rattle.source_core.specs.declared.head.Head.{Head}
use Rattle.source_core.specs.declared.source.Source as sources
use Rattle.table_history.specs.declared.kind.Kind.{Kind}
use Rattle.table_history.specs.declared.table.Table.{Table}
use Rattle.target_core.specs.Conditions.{GoesOn}
use Rattle.target_core.specs.SeenView.{IsSeen}
use Rattle.target_core.specs.Views.{IsOfSource, Standing, View, absent}
use Rattle.target_core.specs.declared.target.Seen.{Seen}
use Rattle.target_core.specs.declared.target.Target as targets
use Rattle.target_sync.specs.Applied.{position_at, status_of_source}
use Rattle.sync_driver.specs.Checked.{CheckAnswer, IsBehind, IsCheck, IsCheckStatus, IsCheckedSo, IsCompared, IsFewOfCheck, IsMarkedAt, IsOfCheck, IsSeenBehind, IsSeenRefusal, StandsBehind, StandsMarked}
use Rattle.target_sync.specs.Dues.{MayBeSame}
use Rattle.target_sync.specs.Sources.{source_meaning}
use Rattle.target_sync.specs.Targets.{target_facts}
use Rattle.sync_driver.specs.declared.checking.Same.{Same}
use Rattle.target_sync.specs.declared.status.Status.{Status}
use Rattle.target_sync.specs.declared.status.Status.TheVariants as status
use Rattle.target_sync.proofs.Counting.{fails_as, fails_then, uncontested_then}
use Rattle.target_sync.proofs.Finding.{source_fault}
use Rattle.target_sync.proofs.Histories.{not_marked, one_standing, unmarked}
use Rattle.target_sync.proofs.Standing.{AreOne, one_mark}
use Rattle.target_sync.proofs.Syncing.{Laws}
use Rattle.sync_driver.proofs.CheckEnds.{few_of_source}

-- a target isn't both behind the head and at it
behind_not_at : (head : Head) (v w : View) (at : Option (List ℕ)) → AreOne v w → IsMarkedAt head v → IsBehind head w at → ⊥
behind_not_at head v w None one marked behind = not_marked v _ (one_mark v w one ∙ unmarked w behind) marked
behind_not_at head v w (Some at) one marked behind =
    let same : behind.0 ≡ marked.0 = one_standing v behind.0 marked.0 (one_mark v w one ∙ behind.1) marked.1 in
    behind.2.1 (subst (λ (s : Standing). (s.to ≡ head.position) × MayBeSame head.table s.origin.table) (sym same) marked.2)

-- it is behind at one position
behind_once : (head : Head) (v w : View) (a b : Option (List ℕ)) → AreOne v w → IsBehind head v a → IsBehind head w b → a ≡ b
behind_once head v w None None one here there = refl
behind_once head v w None (Some b) one here there = absurd (not_marked w _ (sym (one_mark v w one) ∙ unmarked v here) there)
behind_once head v w (Some a) None one here there = absurd (not_marked v _ (one_mark v w one ∙ unmarked w there) here)
behind_once head v w (Some a) (Some b) one here there =
    let same : here.0 ≡ there.0 = one_standing v here.0 there.0 here.1 (one_mark v w one ∙ there.1) in
    ap (λ (p : List ℕ). Some p) (here.2.0 ∙ ap (λ (s : Standing). s.to) same ∙ sym there.2.0)

-- what isn't compared, and what comparing answers, is of a check
few_of_seen : {K : Type 0} (view : K → View) (kind : Kind) (head : Head) (seen : Seen K) (e : Status) → IsSeenRefusal kind view head seen e → IsOfCheck kind e
few_of_seen view kind head seen status.Memory why = tt
few_of_seen view kind head seen (status.Foreign other path) why = why.0
few_of_seen view kind head seen (status.Behind other at position) why = why.0
few_of_seen view kind head seen status.Done why = absurd why
few_of_seen view kind head seen status.Usage why = absurd why
few_of_seen view kind head seen status.Absent why = absurd why
few_of_seen view kind head seen (status.Malformed path) why = absurd why
few_of_seen view kind head seen (status.Unsupported side feature path) why = absurd why
few_of_seen view kind head seen (status.Limit side which number) why = absurd why
few_of_seen view kind head seen (status.Contested other) why = absurd why
few_of_seen view kind head seen status.StoreFault why = absurd why
few_of_seen view kind head seen status.SinkFault why = absurd why
few_of_seen view kind head seen (status.Differs other path) why = absurd why
few_of_seen view kind head seen (status.Stale path) why = absurd why

few_of_compared : (kind : Kind) (view : View) (table : Table) (r : Result Same Status) → IsCompared kind view table r → IsFewOfCheck kind (Some r)
few_of_compared kind view table (Ok same) is = tt
few_of_compared kind view table (Err status.Memory) is = tt
few_of_compared kind view table (Err (status.Differs other path)) is = is.0
few_of_compared kind view table (Err status.Done) is = absurd is
few_of_compared kind view table (Err status.Usage) is = absurd is
few_of_compared kind view table (Err status.Absent) is = absurd is
few_of_compared kind view table (Err (status.Malformed path)) is = absurd is
few_of_compared kind view table (Err (status.Unsupported side feature path)) is = absurd is
few_of_compared kind view table (Err (status.Limit side which number)) is = absurd is
few_of_compared kind view table (Err (status.Foreign other path)) is = absurd is
few_of_compared kind view table (Err (status.Contested other)) is = absurd is
few_of_compared kind view table (Err status.StoreFault) is = absurd is
few_of_compared kind view table (Err status.SinkFault) is = absurd is
few_of_compared kind view table (Err (status.Stale path)) is = absurd is
few_of_compared kind view table (Err (status.Behind other at position)) is = absurd is

module _ {S F T K : Type 0} (store : Ghosts S) (source : sources.Ghosts F) (f : F) (target : targets.Ghosts T K) (t : T) (laws : Laws source f target t)
    (one_path : (kind : Kind) (files : Files) (p q : List ℕ) → target.is_foreign t kind files p → target.is_foreign t kind files q → p ≡ q) where
  pub not_foreign : (files : Files) (path : List ℕ) (v : View) → target.is_foreign t (source.kind f) files path → target.reads t files v → GoesOn (source.kind f) v → ⊥
  not_foreign files path v foreign reads (inl none) = (laws.not_foreign (source.kind f) files path v foreign reads).0 none
  not_foreign files path v foreign reads (inr ours) = (laws.not_foreign (source.kind f) files path v foreign reads).1 ours

  -- what was seen is behind, so the files stand at that
  module _ (files : Files) (head : Head) (is_head : source.is_head f files head) (seen : Seen K)
      (is : IsSeen (target.reads t files) (target.is_foreign t (source.kind f) files) (target.view t) (λ kept. target.stands_for t kept files) (source.kind f) seen) where
    abbrev Seeing : Seen K → Type 0
    Seeing s = IsSeen (target.reads t files) (target.is_foreign t (source.kind f) files) (target.view t) (λ kept. target.stands_for t kept files) (source.kind f) s

    stands_behind : (at : Option (List ℕ)) → IsSeenBehind (target.view t) head seen at → (v : View) × target.reads t files v × GoesOn (source.kind f) v × IsBehind head v at
    stands_behind None none = (absent [], subst Seeing none is, inl refl, refl)
    stands_behind (Some at) some = let ours = subst Seeing some.1 is in (target.view t some.0, laws.kept_view some.0 files ours.0, inr ours.1, some.2)

    abbrev Before : Status → CheckAnswer → Type 0
    Before due answer = IsCheckStatus (source_meaning source f) (target_facts target t) files due answer

    -- what isn't compared has its cause
    pub seen_checked : (e : Status) → IsSeenRefusal (target.kind t) (target.view t) head seen e → IsCheckedSo (source_meaning source f) (target_facts target t) files (Some (Err e))
    seen_checked status.Memory why = tt
    seen_checked (status.Foreign kind path) why = (why.0, (head, is_head), subst Seeing why.1 is)
    seen_checked (status.Behind kind at position) why = let v = stands_behind at why.2 in (why.0, (head, why.1, (is_head, (v.0, v.1, (v.2, v.3)))))
    seen_checked status.Done why = absurd why
    seen_checked status.Usage why = absurd why
    seen_checked status.Absent why = absurd why
    seen_checked (status.Malformed path) why = absurd why
    seen_checked (status.Unsupported side feature path) why = absurd why
    seen_checked (status.Limit side which number) why = absurd why
    seen_checked (status.Contested kind) why = absurd why
    seen_checked status.StoreFault why = absurd why
    seen_checked status.SinkFault why = absurd why
    seen_checked (status.Differs kind path) why = absurd why
    seen_checked (status.Stale path) why = absurd why

    pub seen_foreign : (e : Status) → IsSeenRefusal (target.kind t) (target.view t) head seen e → (path : List ℕ) → target.is_foreign t (source.kind f) files path → Before (status.Foreign (target.kind t) path) (Some (Err e))
    seen_foreign status.Memory why path foreign = inr tt
    seen_foreign (status.Foreign kind other) why path foreign = inl (ap (λ (k : Kind). status.Foreign k other) why.0 ∙ ap (λ (p : List ℕ). status.Foreign (target.kind t) p) (one_path (source.kind f) files other path (subst Seeing why.1 is) foreign))
    seen_foreign (status.Behind kind at position) why path foreign = let v = stands_behind at why.2 in absurd (not_foreign files path v.0 foreign v.1 v.2)
    seen_foreign status.Done why path foreign = absurd why
    seen_foreign status.Usage why path foreign = absurd why
    seen_foreign status.Absent why path foreign = absurd why
    seen_foreign (status.Malformed other) why path foreign = absurd why
    seen_foreign (status.Unsupported side feature other) why path foreign = absurd why
    seen_foreign (status.Limit side which number) why path foreign = absurd why
    seen_foreign (status.Contested kind) why path foreign = absurd why
    seen_foreign status.StoreFault why path foreign = absurd why
    seen_foreign status.SinkFault why path foreign = absurd why
    seen_foreign (status.Differs kind other) why path foreign = absurd why
    seen_foreign (status.Stale other) why path foreign = absurd why

    pub seen_behind : (e : Status) → IsSeenRefusal (target.kind t) (target.view t) head seen e → (other : Head) (at : Option (List ℕ)) → StandsBehind (source_meaning source f) (target_facts target t) files other at → Before (status.Behind (target.kind t) at other.position) (Some (Err e))
    seen_behind status.Memory why other at stands = inr tt
    seen_behind (status.Foreign kind path) why other at stands = absurd (not_foreign files path stands.1.0 (subst Seeing why.1 is) stands.1.1 stands.1.2.0)
    seen_behind (status.Behind kind here position) why other at stands =
        let v = stands_behind here why.2 in
        let heads : head ≡ other = laws.source_own.one_head files head other is_head stands.0 in
        let there : IsBehind head stands.1.0 at = subst (λ (h : Head). IsBehind h stands.1.0 at) (sym heads) stands.1.2.1 in
        let same : here ≡ at = behind_once head v.0 stands.1.0 here at (laws.views.one_view files v.0 stands.1.0 v.1 stands.1.1) v.3 there in
        inl (λ i. status.Behind (why.0 i) (same i) ((why.1 ∙ ap (λ (h : Head). h.position) heads) i))
    seen_behind status.Done why other at stands = absurd why
    seen_behind status.Usage why other at stands = absurd why
    seen_behind status.Absent why other at stands = absurd why
    seen_behind (status.Malformed path) why other at stands = absurd why
    seen_behind (status.Unsupported side feature path) why other at stands = absurd why
    seen_behind (status.Limit side which number) why other at stands = absurd why
    seen_behind (status.Contested kind) why other at stands = absurd why
    seen_behind status.StoreFault why other at stands = absurd why
    seen_behind status.SinkFault why other at stands = absurd why
    seen_behind (status.Differs kind path) why other at stands = absurd why
    seen_behind (status.Stale path) why other at stands = absurd why

  -- a run that only read, and answered so
  pub check_of : (old new : S) (answer : CheckAnswer) → (store.tells → OnlyReads store old new) → FailsBy store old new (answer ≡ Some (Err status.StoreFault)) → (B : Type 0) → IsUncontestedBy store old new B → IsFewOfCheck (target.kind t) answer
      → (store.tells → IsCheckedSo (source_meaning source f) (target_facts target t) (store.disk old).files answer)
      → (store.tells → ¬ source.is_absent f (store.disk old).files)
      → (store.tells → (path : List ℕ) → target.is_foreign t (source.kind f) (store.disk old).files path → IsCheckStatus (source_meaning source f) (target_facts target t) (store.disk old).files (status.Foreign (target.kind t) path) answer)
      → (store.tells → (head : Head) (at : Option (List ℕ)) → StandsBehind (source_meaning source f) (target_facts target t) (store.disk old).files head at → IsCheckStatus (source_meaning source f) (target_facts target t) (store.disk old).files (status.Behind (target.kind t) at head.position) answer)
      → IsCheck store (source_meaning source f) (target_facts target t) old new answer
  check_of old new answer reading cause B quiet few checked there foreign behind = record {
    reads = reading;
    fault = cause;
    contest = record { same = quiet.same; still = quiet.still; never = λ never. never };
    few = few;
    checked = checked;
    absent = λ told is. absurd (there told is);
    foreign = foreign;
    behind = behind;
  }

  seen_no_fault : {Q : Type 0} (view : K → View) (kind : Kind) (head : Head) (seen : Seen K) (e : Status) → IsSeenRefusal kind view head seen e → e ≡ status.StoreFault → Q
  seen_no_fault view kind head seen e why is = absurd (subst (IsSeenRefusal kind view head seen) is why)

  -- what was seen isn't compared
  pub kept_refused : (old new : S) → (store.tells → OnlyReads store old new) → (A B : Type 0) → FailsBy store old new A → IsUncontestedBy store old new B → (head : Head) → (store.tells → source.is_head f (store.disk old).files head) → (store.tells → ¬ source.is_absent f (store.disk old).files) → (seen : Seen K)
      → (store.tells → IsSeen (target.reads t (store.disk old).files) (target.is_foreign t (source.kind f) (store.disk old).files) (target.view t) (λ kept. target.stands_for t kept (store.disk old).files) (source.kind f) seen)
      → (e : Status) → IsSeenRefusal (target.kind t) (target.view t) head seen e → IsCheck store (source_meaning source f) (target_facts target t) old new (Some (Err e))
  kept_refused old new reading A B cause quiet head is_head there seen is e why =
      check_of old new (Some (Err e)) reading
      (fails_as store.faults store.may_fail old new A (Some (Err e) ≡ Some (Err status.StoreFault)) (λ same. let one : e ≡ status.StoreFault = cc same in seen_no_fault (target.view t) (target.kind t) head seen e why one) cause) B quiet (few_of_seen (target.view t) (target.kind t) head seen e why)
      (λ told. seen_checked (store.disk old).files head (is_head told) seen (is told) e why) there
      (λ told path foreign. seen_foreign (store.disk old).files head (is_head told) seen (is told) e why path foreign)
      (λ told other at stands. seen_behind (store.disk old).files head (is_head told) seen (is told) e why other at stands)

  -- ---- what is kept is at the head

  module _ (files : Files) (head : Head) (is_head : source.is_head f files head) (kept : K) (stands : target.stands_for t kept files) (ours : IsOfSource (source.kind f) (target.view t kept)) (marked : IsMarkedAt head (target.view t kept)) where
    abbrev v : View
    v = target.view t kept

    reads : target.reads t files v
    reads = laws.kept_view kept files stands

    stands_marked : (P : View → Type 0) → P v → StandsMarked (source_meaning source f) (target_facts target t) files P
    stands_marked P is = (head, is_head, (v, reads, (inr ours, marked, is)))

    pub no_foreign : (path : List ℕ) → target.is_foreign t (source.kind f) files path → ⊥
    no_foreign path foreign = not_foreign files path v foreign reads (inr ours)

    pub no_behind : (other : Head) (at : Option (List ℕ)) → StandsBehind (source_meaning source f) (target_facts target t) files other at → ⊥
    no_behind other at stands_there =
        let heads : head ≡ other = laws.source_own.one_head files head other is_head stands_there.0 in
        behind_not_at head v stands_there.1.0 at (laws.views.one_view files v stands_there.1.0 reads stands_there.1.1) marked (subst (λ (h : Head). IsBehind h stands_there.1.0 at) (sym heads) stands_there.1.2.1)

    pub read_checked : (e : SourceError) → IsReadRefusal (source.from_scratch f files) e → IsCheckedSo (source_meaning source f) (target_facts target t) files (Some (Err (status_of_source e)))
    read_checked source_error.Memory is = tt
    read_checked source_error.Absent is = absurd is
    read_checked (source_error.Malformed path) is = inr (stands_marked (λ view. Unit {0}) tt, is)
    read_checked (source_error.Unsupported feature path) is = inr (stands_marked (λ view. Unit {0}) tt, is)
    read_checked (source_error.Limit which number) is = inr (stands_marked (λ view. Unit {0}) tt, is)
    read_checked source_error.StoreFault is = tt

    module _ (table : Table) (is_table : source.is_table f files table) where
      pub compared_checked : (r : Result Same Status) → IsCompared (target.kind t) v table r → IsCheckedSo (source_meaning source f) (target_facts target t) files (Some r)
      compared_checked (Ok same) is = stands_marked _ ((table, is_table, is.0), is.1, is.2, (marked.0, marked.1, is.3 ∙ ap position_at marked.1))
      compared_checked (Err status.Memory) is = tt
      compared_checked (Err (status.Differs kind path)) is = (is.0, stands_marked _ (table, is_table, is.1))
      compared_checked (Err status.Done) is = absurd is
      compared_checked (Err status.Usage) is = absurd is
      compared_checked (Err status.Absent) is = absurd is
      compared_checked (Err (status.Malformed path)) is = absurd is
      compared_checked (Err (status.Unsupported side feature path)) is = absurd is
      compared_checked (Err (status.Limit side which number)) is = absurd is
      compared_checked (Err (status.Foreign kind path)) is = absurd is
      compared_checked (Err (status.Contested kind)) is = absurd is
      compared_checked (Err status.StoreFault) is = absurd is
      compared_checked (Err status.SinkFault) is = absurd is
      compared_checked (Err (status.Stale path)) is = absurd is
      compared_checked (Err (status.Behind kind at position)) is = absurd is

  compared_no_fault : (view : View) (table : Table) (r : Result Same Status) → IsCompared (target.kind t) view table r → ◌≡◌ {A = CheckAnswer} (Some r) (Some (Err status.StoreFault)) → ⊥
  compared_no_fault view table r is same = let one : r ≡ Err status.StoreFault = cc same in subst (IsCompared (target.kind t) view table) one is

  module _ (old mid new : S) (reading : store.tells → OnlyReads store old mid) (A B : Type 0) (cause : FailsBy store old mid A) (quiet : IsUncontestedBy store old mid B) (further : store.tells → OnlyReads store mid new)
      (head : Head) (is_head : store.tells → source.is_head f (store.disk old).files head) (there : store.tells → ¬ source.is_absent f (store.disk old).files) (kept : K) (stands : store.tells → target.stands_for t kept (store.disk old).files) (ours : IsOfSource (source.kind f) (target.view t kept))
      (marked : IsMarkedAt head (target.view t kept)) where
    all : store.tells → OnlyReads store old new
    all = reading_further store old mid new reading further

    -- the source wasn't read
    pub whole_refused : (e : SourceError) → FailsBy store mid new (e ≡ source_error.StoreFault) → IsUncontestedBy store mid new ⊥ → (store.tells → IsReadRefusal (source.from_scratch f (store.disk mid).files) e)
        → IsCheck store (source_meaning source f) (target_facts target t) old new (Some (Err (status_of_source e)))
    whole_refused e more still refused =
        check_of old new (Some (Err (status_of_source e))) all
        (fails_as store.faults store.may_fail old new (e ≡ source_error.StoreFault) _ (λ same. let one : status_of_source e ≡ status.StoreFault = cc same in source_fault e one) (fails_then store.faults store.may_fail old mid new A (e ≡ source_error.StoreFault) cause more)) ⊥
        (uncontested_then store.contests store.may_contest old mid new B ⊥ quiet still) (few_of_source (target.kind t) e)
        (λ told. read_checked (store.disk old).files head (is_head told) kept (stands told) ours marked e (subst (λ (d : Disk). IsReadRefusal (source.from_scratch f d.files) e) (reading told).disk (refused told))) there
        (λ told path foreign. absurd (no_foreign (store.disk old).files head (is_head told) kept (stands told) ours marked path foreign))
        (λ told other at behind. absurd (no_behind (store.disk old).files head (is_head told) kept (stands told) ours marked other at behind))

    -- the rows were compared
    pub rows_compared : (C : Type 0) → FailsBy store mid new C → IsUncontestedBy store mid new ⊥ → (table : Table) → (store.tells → source.is_table f (store.disk mid).files table) → (r : Result Same Status) → IsCompared (target.kind t) (target.view t kept) table r
        → IsCheck store (source_meaning source f) (target_facts target t) old new (Some r)
    rows_compared C more still table is_table r is =
        check_of old new (Some r) all
        (fails_as store.faults store.may_fail old new C (Some r ≡ Some (Err status.StoreFault)) (λ same. absurd (compared_no_fault (target.view t kept) table r is same)) (fails_then store.faults store.may_fail old mid new A C cause more)) ⊥
        (uncontested_then store.contests store.may_contest old mid new B ⊥ quiet still) (few_of_compared (target.kind t) (target.view t kept) table r is)
        (λ told. compared_checked (store.disk old).files head (is_head told) kept (stands told) ours marked table (subst (λ (d : Disk). source.is_table f d.files table) (reading told).disk (is_table told)) r is) there
        (λ told path foreign. absurd (no_foreign (store.disk old).files head (is_head told) kept (stands told) ours marked path foreign))
        (λ told other at behind. absurd (no_behind (store.disk old).files head (is_head told) kept (stands told) ours marked other at behind))
