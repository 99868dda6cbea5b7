-- What a sync of one target answers and leaves, by how it ends.
use Rattle.std.proofs.Common.{◌≡◌, ◌≢◌, ◌⊎◌, inl, inr, ⊎_elim, ℕ, ◌+◌, Bool, true, List, [], ◌∷◌, length, take, Option, Some, None, refl, sym, ap, subst, ◌∙◌}
use Rattle.std.specs.Prelude.{IfErr, Result, Ok, Err, IsErrOf, is_ok}
use Rattle.lake_store.specs.Disk.{Disk, Files}
use Rattle.lake_store.specs.Runs.{FailsBy, IsUncontestedBy, OnlyReads}
use Rattle.lake_store.specs.declared.store.Store.{Ghosts}
use Rattle.lake_store.proofs.RunLaws.{NowOnly, alone_by_reading, alone_further, reading_further}
use Rattle.source_core.specs.declared.head.Head.{Head}
use Rattle.source_core.specs.declared.source.Source as sources
use Rattle.table_history.specs.declared.kind.Kind.{Kind}
use Rattle.table_history.specs.declared.limit.LimitKind.{LimitKind}
use Rattle.table_history.specs.declared.table.Commit.{Commit}
use Rattle.target_core.specs.Conditions.{GoesOn}
use Rattle.target_core.specs.Gained.{Gained}
use Rattle.target_core.specs.Outcome.{Uncontested}
use Rattle.target_core.specs.OwnFiles.{MayNotTouch, TouchesOwn}
use Rattle.target_core.specs.TargetMeanings.{meaning}
use Rattle.target_core.specs.Views.{IsOfSource, IsUnpublished, Origin, View}
use Rattle.target_core.specs.Written.{StayAfter}
use Rattle.target_core.specs.declared.target.Target as targets
use Rattle.target_core.specs.declared.target.TargetError.{TargetError}
use Rattle.target_core.specs.declared.target.TargetError.TheVariants as target_error
use Rattle.target_sync.specs.Answered.{CameBefore, CanSync, IsAbsence, IsCaused, IsComplete, IsContest, IsDone, IsFew, IsLate, IsOfSync, IsOneInFull, IsOverAtFirst, IsPassed, IsPassedAtFirst, IsReady, IsRefusal, IsReport, IsReported, IsSync, IsUndisturbed, IsUnfit, Leaves, StandsAtHead, StopsSo}
use Rattle.target_sync.specs.Applied.{Applies, IsContestedAt, IsLimitedAt, IsStoppedAt, PassesAtFirst, PassesIn, answer_of_target, status_of_target}
use Rattle.target_sync.specs.Dues.{AreSinceMark, Due, IsIdBehind, IsInFull, origin_of}
use Rattle.target_sync.specs.Sources.{source_meaning}
use Rattle.target_sync.specs.Synced.{IsContested, IsLimited, Synced}
use Rattle.target_sync.specs.Targets.{Begins, HaveWritten, IsKept, IsStart, target_facts}
use Rattle.target_sync.specs.declared.apply.Report.{Report}
use Rattle.target_sync.specs.declared.plan.Mode.{Mode}
use Rattle.target_sync.specs.declared.plan.Mode.TheVariants as modes
use Rattle.target_sync.specs.declared.status.Side.TheVariants as side
use Rattle.target_sync.specs.declared.status.Status.{Status}
use Rattle.target_sync.specs.declared.status.Status.TheVariants as status
use Rattle.target_sync.proofs.Applying.{CrashLaws, goes_on_start, stay_behind}
use Rattle.target_sync.proofs.Counting.{contested_as, contested_of_none, contested_then, fails_as, fails_then}
use Rattle.target_sync.proofs.Refusing.{late_of_apply, only_memory, refusal_of_apply}
use Rattle.target_sync.proofs.Sizes.{short_further, short_reading}
use Rattle.target_sync.proofs.Standing.{AreOne, SourceLaws, ViewLaws, contested_here, due_here, limited_here, source_kept, still_none, stopped_here, synced_all, synced_behind, synced_idle, told_due}

pub few_of_target : (kind : Kind) (e : TargetError) → IsOfSync kind (status_of_target kind e)
few_of_target kind target_error.Memory = tt
few_of_target kind target_error.StoreFault = tt
few_of_target kind target_error.Contested = refl
few_of_target kind (target_error.Limit which number) = refl
few_of_target kind (target_error.Unsupported feature path) = refl

few_told : (kind : Kind) (answer : Result Report TargetError) → IsFew kind (Some (answer_of_target kind answer))
few_told kind (Ok report) = tt
few_told kind (Err e) = few_of_target kind e

-- the laws of the traits
pub record Laws {F T K : Type 0} (source : sources.Ghosts F) (f : F) (target : targets.Ghosts T K) (t : T) : Type 0 where
  pub source_own : SourceLaws (source_meaning source f)
  pub views : ViewLaws (meaning target t)
  pub crash : CrashLaws (meaning target t)
  pub kept_view : (kept : K) (files : Files) → target.stands_for t kept files → target.reads t files (target.view t kept)
  pub not_foreign : (kind : Kind) (files : Files) (path : List ℕ) (v : View) → target.is_foreign t kind files path → target.reads t files v → (IsUnpublished v → ⊥) × (IsOfSource kind v → ⊥)

some_err : (e d : Status) → ◌≡◌ {A = Option (Result Report Status)} (Some (Err e)) (Some (Err d)) → e ≡ d
some_err e d is = cc is

-- the answer of a target as a command's is refused so where the target's is
told_as : (kind : Kind) (e : TargetError) → (status_of_target kind e ≡ status.StoreFault → e ≡ target_error.StoreFault) × (status_of_target kind e ≡ status.Contested kind → e ≡ target_error.Contested)
told_as kind target_error.Memory = (λ is. cc is, λ is. cc is)
told_as kind target_error.StoreFault = (λ is. refl, λ is. cc is)
told_as kind target_error.Contested = (λ is. cc is, λ is. refl)
told_as kind (target_error.Limit which number) = (λ is. cc is, λ is. cc is)
told_as kind (target_error.Unsupported feature path) = (λ is. cc is, λ is. cc is)

fault_told : (kind : Kind) (answer : Result Report TargetError) → Some (answer_of_target kind answer) ≡ Some (Err status.StoreFault) → IsErrOf answer target_error.StoreFault
fault_told kind (Ok report) is = absurd (cc is)
fault_told kind (Err e) is = ap (λ (x : TargetError). Err x) ((told_as kind e).0 (some_err (status_of_target kind e) status.StoreFault is))

contest_told : (kind : Kind) (answer : Result Report TargetError) → Some (answer_of_target kind answer) ≡ Some (Err (status.Contested kind)) → IsErrOf answer target_error.Contested
contest_told kind (Ok report) is = absurd (cc is)
contest_told kind (Err e) is = ap (λ (x : TargetError). Err x) ((told_as kind e).1 (some_err (status_of_target kind e) (status.Contested kind) is))

limit_as : (kind : Kind) (which : LimitKind) (number : ℕ) (e : TargetError) → status_of_target kind e ≡ status.Limit (side.Target kind) which number → e ≡ target_error.Limit which number
limit_as kind which number target_error.Memory is = absurd (cc is)
limit_as kind which number target_error.StoreFault is = absurd (cc is)
limit_as kind which number target_error.Contested is = absurd (cc is)
limit_as kind which number (target_error.Limit other count) is =
    let same : other ≡ which = cc is in
    let counts : count ≡ number = cc is in
    ap (λ (w : LimitKind). target_error.Limit w count) same ∙ ap (λ (n : ℕ). target_error.Limit which n) counts
limit_as kind which number (target_error.Unsupported feature path) is = absurd (cc is)

limit_told : (kind : Kind) (which : LimitKind) (number : ℕ) (answer : Result Report TargetError) → Some (answer_of_target kind answer) ≡ Some (Err (status.Limit (side.Target kind) which number)) → IsErrOf answer (target_error.Limit which number)
limit_told kind which number (Ok report) is = absurd (cc is)
limit_told kind which number (Err e) is = ap (λ (x : TargetError). Err x) (limit_as kind which number e (some_err (status_of_target kind e) (status.Limit (side.Target kind) which number) is))

contest_back : (kind : Kind) (answer : Result Report TargetError) → IsErrOf answer target_error.Contested → Some (answer_of_target kind answer) ≡ Some (Err (status.Contested kind))
contest_back kind answer is = ap (λ (r : Result Report TargetError). Some (answer_of_target kind r)) is

undisturbed : (kind : Kind) (answer : Result Report TargetError) → IsUndisturbed (Some (answer_of_target kind answer)) → Uncontested answer
undisturbed kind (Ok report) u = tt
undisturbed kind (Err e) u = λ is. u (subst (λ (x : TargetError). IsContest (status_of_target kind x)) (sym is) tt)

done_ok : (kind : Kind) (answer : Result Report TargetError) → IsDone (Some (answer_of_target kind answer)) → Uncontested answer × (is_ok answer ≡ true)
done_ok kind (Ok report) done = (tt, refl)
done_ok kind (Err e) done = absurd done

module _ {S F T K : Type 0} (store : Ghosts S) (only_now : NowOnly store) (source : sources.Ghosts F) (f : F) (target : targets.Ghosts T K) (t : T) (laws : Laws source f target t) (mode : Mode) (now : ℕ) where
  -- it isn't foreign where it is gone on from
  pub not_foreign : (files : Files) (path : List ℕ) (v : View) → target.is_foreign t (source.kind f) files path → target.reads t files v → GoesOn (source.kind f) v → ⊥
  not_foreign files path v foreign reads (inl none) = (laws.not_foreign (source.kind f) files path v foreign reads).0 none
  not_foreign files path v foreign reads (inr ours) = (laws.not_foreign (source.kind f) files path v foreign reads).1 ours

  -- refused before anything was written
  pub sync_idle : (old new : S) (e : Status) → IsOfSync (target.kind t) e → (store.tells → OnlyReads store old new) → FailsBy store old new (e ≡ status.StoreFault) → IsUncontestedBy store old new (e ≡ status.Contested (target.kind t))
      → (store.tells → IsRefusal (OnlyReads store old new) (source_meaning source f) (target_facts target t) mode now (store.disk old).files e)
      → (store.tells → source.is_absent f (store.disk old).files → IsAbsence (source_meaning source f) (store.disk old).files e)
      → (store.tells → (path : List ℕ) → target.is_foreign t (source.kind f) (store.disk old).files path → (e ≡ status.Foreign (target.kind t) path) ⊎ CameBefore (source_meaning source f) (target_facts target t) (store.disk old).files e)
      → (store.tells → (which : LimitKind) (number : ℕ) → e ≡ status.Limit (side.Target (target.kind t)) which number → IsOverAtFirst (source_meaning source f) (target_facts target t) mode now (store.disk old).files which number)
      → IsSync store (source_meaning source f) (target_facts target t) None mode now old new (Some (Err e))
  sync_idle old new e few reading cause contest refused absent foreign over =
      let alone : store.tells → TouchesOwn store (target.kind t) old new = λ told. alone_by_reading store (MayNotTouch (target.kind t)) old new (reading told) in
      record {
        alone = alone;
        short = short_reading store old new reading;
        source_stays = λ told apart clean. source_kept store (source_meaning source f) laws.source_own (target.kind t) apart old new told (alone told) clean;
        synced = λ told start ready. synced_idle (source_meaning source f) laws.source_own (meaning target t) mode laws.crash store start (¬ IsContest e) ⊥ (λ never. never) old new told (reading told) ready.reads ready.settled;
        reported = λ told start reads goes. tt;
        in_full = tt;
        still = λ told sync done start reads goes at. absurd done;
        contested = λ told is start ready. absurd (contest.never (some_err e (status.Contested (target.kind t)) is));
        limited = λ told which number is start ready. inl (reading told, over told which number (some_err e (status.Limit (side.Target (target.kind t)) which number) is));
        stopped = λ told start ready. inl (reading told);
        few = few;
        caused = refused;
        absent = absent;
        foreign = foreign;
        fault = fails_as store.faults store.may_fail old new (e ≡ status.StoreFault) (Some (Err e) ≡ Some (Err status.StoreFault)) (some_err e status.StoreFault) cause;
        contest = contested_of_none store.contests store.may_contest old new (e ≡ status.Contested (target.kind t)) (Some (Err e) ≡ Some (Err (status.Contested (target.kind t)))) (some_err e (status.Contested (target.kind t))) contest;
        complete = λ told can no_fault no_contest. only_memory (source_meaning source f) (target_facts target t) mode now (store.disk old).files
            (λ path v foreign reads on. not_foreign (store.disk old).files path v foreign reads on) can (OnlyReads store old new) e (refused told) (λ is. no_fault (cause.rose is)) contest.never;
      }

  -- where what is due was planned over what is kept, and applied
  module _ (old mid new : S) (reading : store.tells → OnlyReads store old mid) (Before Other : Type 0) (cause : FailsBy store old mid Before) (quiet : IsUncontestedBy store old mid Other)
      (there : store.tells → ¬ source.is_absent f (store.disk old).files) (head : Head) (is_head : store.tells → source.is_head f (store.disk old).files head)
      (kept : K) (stands : store.tells → target.stands_for t kept (store.disk old).files) (partition : List (List ℕ)) (commits : List Commit) (full : Bool) (id : Option (List ℕ)) (start_is : IsStart (source.kind f) partition (target.view t kept))
      (one : full ≡ true → length commits ≡ 1) (by_full : mode ≡ modes.Full → full ≡ true)
      (is_id : store.tells → IsIdBehind (source_meaning source f) (store.disk old).files (target.view t kept) head.table id)
      (way : store.tells → AreSinceMark (source_meaning source f) mode (store.disk old).files (target.view t kept) partition commits full
      ⊎ IsInFull (source_meaning source f) mode (store.disk old).files (target.view t kept) head partition commits full) where
    abbrev before : Files
    before = (store.disk old).files

    abbrev v : View
    v = target.view t kept

    abbrev origin : Origin
    origin = record { source = source.kind f; table = id }

    abbrev Stands : Type 0
    Stands = target.stands_for t kept (store.disk mid).files × target.settled t (store.disk mid)

    abbrev Applied : Result Report TargetError → Type 0
    Applied answer = Applies store (meaning target t) (target.unfit t kept partition commits) (target.passes t kept (store.disk mid).files origin now) (HaveWritten target t kept (store.disk mid).files origin now) origin v partition commits full Stands mid new answer

    kept_reads : store.tells → target.reads t before v
    kept_reads told = laws.kept_view kept before (stands told)

    goes_on : GoesOn (source.kind f) v
    goes_on = goes_on_start (source.kind f) partition v start_is

    begins_with : (view : View) → IsStart (source.kind f) partition view → Begins partition view
    begins_with view (inl is) none = is.1
    begins_with view (inr is) none = let same : None ≡ Some is.0.0 = sym (ap (λ (x : View). x.mark) none) ∙ is.0.1 in absurd (cc same)

    is_kept : store.tells → IsKept target t before partition kept
    is_kept told = (stands told, begins_with v start_is)

    module _ (told : store.tells) where
      due : Due (source_meaning source f) mode before v
      due = due_here (source_meaning source f) laws.source_own (meaning target t) mode v before head (is_head told) id (is_id told) partition commits full (way told)

      is_unfit : (e : TargetError) → target.unfit t kept partition commits e → IsUnfit (source_meaning source f) (target_facts target t) mode before e
      unfolding due due_here
      is_unfit e unfit = (v, kept_reads told, (goes_on, (due, (kept, is_kept told, unfit))))

      is_passed : (which : LimitKind) (number : ℕ) → PassesIn (target.passes t kept before origin now) commits which number → IsPassed (source_meaning source f) (target_facts target t) mode now before which number
      unfolding due due_here
      is_passed which number passed = (v, kept_reads told, (goes_on, (due, (passed.0, passed.1, (kept, is_kept told, passed.2)))))

      is_passed_first : (which : LimitKind) (number : ℕ) → PassesAtFirst (target.passes t kept before origin now) commits which number → IsPassedAtFirst (source_meaning source f) (target_facts target t) mode now before which number
      unfolding due due_here
      is_passed_first which number passed = (v, kept_reads told, (goes_on, (due, (passed.0, (kept, is_kept told, passed.1)))))

      disk_same : store.disk mid ≡ store.disk old
      disk_same = (reading told).disk

      stands_mid : target.settled t (store.disk old) → Stands
      stands_mid settled = (
        subst (λ (d : Disk). target.stands_for t kept d.files) (sym disk_same) (stands told),
        subst (λ (d : Disk). target.settled t d) (sym disk_same) settled,
      )

      report_is : (columns : v.table.partition ≡ partition) (start : View) → AreOne v start → (report : Report) → Applied (Ok report)
          → IsReport (source_meaning source f) (target_facts target t) None mode now start (target.settled t (store.disk old)) before (store.disk new).files report
      report_is columns start same report given =
          let tells = given.reported in
          let h = told_due (source_meaning source f) laws.source_own (meaning target t) mode v before head (is_head told) id (is_id told) partition commits full (way told) columns start same tells.last tells.leads in
          let Written : List (List ℕ) → Origin → List Commit → Type 0 = λ names o cs. (target_facts target t).writes before names o now cs (store.disk new).files in
          record {
            due = h.due;
            columns = h.columns;
            last = tells.last;
            leads = h.leads;
            in_full = h.in_full;
            way = tells.is.way ∙ sym h.full_is;
            published = tells.is.published ∙ ap (λ (cs : List Commit). length cs) (sym h.commits_are);
            distinct = tells.is.distinct;
            files_are = tells.is.files;
            position = tells.is.at ∙ h.position;
            reads = λ settled. tells.reads (told, stands_mid settled);
            gained = λ settled. h.gained (store.disk new).files
                (subst (λ (d : Disk). Gained (meaning target t) origin v d.files commits (length commits) (store.disk new).files) disk_same ((given.publishes told (stands_mid settled)).all refl));
            written = λ settled.
                let here : Written partition origin commits = (kept, is_kept told, subst (λ (d : Disk). HaveWritten target t kept d.files origin now commits (store.disk new).files) disk_same (given.writes told (stands_mid settled))) in
                subst (λ (names : List (List ℕ)). Written names (origin_of h.due) h.due.commits) (sym h.partition_is)
                (subst (λ (o : Origin). Written partition o h.due.commits) (sym h.origin_is) (subst (λ (cs : List Commit). Written partition origin cs) (sym h.commits_are) here));
          }

      -- what isn't idle has the source's columns
      columns_known : (Idle : Type 0) → (commits ≢ [] → (v.table.partition ≡ partition) ⊎ Idle) → (v.table.partition ≡ partition) ⊎ Idle
      columns_known Idle known =
          ⊎_elim (λ (is : AreSinceMark (source_meaning source f) mode before v partition commits full). inl (sym is.columns))
          (λ (is : IsInFull (source_meaning source f) mode before v head partition commits full). known (λ none. let no : is.commit ∷ [] ≡ [] = sym is.only ∙ none in absurd (cc no))) (way told)

      synced_is : (start : View) → IsReady (source_meaning source f) (target_facts target t) before start (target.settled t (store.disk old)) → (answer : Result Report TargetError) → Applied answer
          → Synced store (source_meaning source f) (meaning target t) mode start (IsUndisturbed (Some (answer_of_target (target.kind t) answer))) (IsDone (Some (answer_of_target (target.kind t) answer))) old new
      synced_is start ready answer given =
          let U : Type 0 = IsUndisturbed (Some (answer_of_target (target.kind t) answer)) in
          let D : Type 0 = IsDone (Some (answer_of_target (target.kind t) answer)) in
          let same : AreOne v start = laws.views.one_view before v start (kept_reads told) ready.reads in
          ⊎_elim
          (λ (columns : v.table.partition ≡ partition).
          synced_behind (source_meaning source f) laws.source_own (meaning target t) mode laws.crash store start U D old mid new told (reading told) ready.reads ready.settled
          (synced_all (source_meaning source f) laws.source_own (meaning target t) mode v before head (is_head told) id (is_id told) partition commits full (way told) columns start same store laws.crash only_now U D (Uncontested answer) (is_ok answer) mid new told
          (ap (λ (d : Disk). d.files) disk_same) (undisturbed (target.kind t) answer) (done_ok (target.kind t) answer) (given.publishes told (stands_mid ready.settled))))
          (λ (idle : (is_ok answer ≡ true → ⊥) × (store.tells → OnlyReads store mid new)).
          synced_idle (source_meaning source f) laws.source_own (meaning target t) mode laws.crash store start U D (λ d. idle.0 (done_ok (target.kind t) answer d).1) old new told (reading_further store old mid new reading idle.1 told) ready.reads ready.settled)
          (columns_known _ given.columns)

      reported_is : (start : View) → target.reads t before start → (answer : Result Report TargetError) → Applied answer
          → IsReported (source_meaning source f) (target_facts target t) None mode now start (target.settled t (store.disk old)) before (store.disk new).files (Some (answer_of_target (target.kind t) answer))
      reported_is start reads (Err e) given = tt
      reported_is start reads (Ok report) given =
          ⊎_elim (λ (columns : v.table.partition ≡ partition). report_is columns start (laws.views.one_view before v start (kept_reads told) reads) report given)
          (λ (idle : (is_ok {E = TargetError} (Ok report) ≡ true → ⊥) × (store.tells → OnlyReads store mid new)). absurd (idle.0 refl)) (columns_known _ given.columns)

      -- what they left over the view that was kept
      left_is : (cs : List Commit) (files : Files) → HaveWritten target t kept (store.disk mid).files origin now cs files → Leaves (target_facts target t) None now before partition origin cs files
      left_is cs files is = (kept, is_kept told, subst (λ (d : Disk). HaveWritten target t kept d.files origin now cs files) disk_same is)

      abbrev stay_is : (cs : List Commit) → StayAfter store (meaning target t) (HaveWritten target t kept (store.disk mid).files origin now cs) new → StayAfter store (meaning target t) (Leaves (target_facts target t) None now before partition origin cs) new
      stay_is cs is = record {
        middle = is.middle;
        left = left_is cs (store.disk is.middle).files is.left;
        stay = is.stay;
      }

      contested_is : (start : View) → IsReady (source_meaning source f) (target_facts target t) before start (target.settled t (store.disk old)) → IsContestedAt store (meaning target t) (HaveWritten target t kept (store.disk mid).files origin now) origin v partition commits mid new
          → IsContested store (source_meaning source f) (meaning target t) (Leaves (target_facts target t) None now) mode start before old new
      contested_is start ready at =
          contested_here (source_meaning source f) laws.source_own (meaning target t) mode v before head (is_head told) id (is_id told) partition commits full (way told) at.columns start
          (laws.views.one_view before v start (kept_reads told) ready.reads) store (Leaves (target_facts target t) None now) old new at.place at.within at.published (stay_is (take at.place commits) at.left) at.newest
          (stay_behind store (meaning target t) origin v commits laws.crash old mid new told (reading told) (kept_reads told) ready.settled (store.disk new).files at.stay) at.theirs

      abbrev passes_at : Files → List (List ℕ) → Origin → List Commit → LimitKind → ℕ → Type 0
      passes_at files names at = (target_facts target t).passes files names at now

      limited_is : (start : View) → IsReady (source_meaning source f) (target_facts target t) before start (target.settled t (store.disk old)) → (which : LimitKind) (number : ℕ)
          → (OnlyReads store mid new × (target.unfit t kept partition commits (target_error.Limit which number) ⊎ PassesAtFirst (target.passes t kept (store.disk mid).files origin now) commits which number))
          ⊎ IsLimitedAt store (meaning target t) (target.passes t kept (store.disk mid).files origin now) (HaveWritten target t kept (store.disk mid).files origin now) origin v partition commits mid new which number
          → (OnlyReads store old new × IsOverAtFirst (source_meaning source f) (target_facts target t) mode now before which number)
          ⊎ IsLimited store (source_meaning source f) (meaning target t) passes_at (Leaves (target_facts target t) None now) mode start before new which number
      limited_is start ready which number (inl idle) = inl (
        reading_further store old mid new reading (λ t. idle.0) told,
        ⊎_elim (λ (unfit : target.unfit t kept partition commits (target_error.Limit which number)). inr (inl (is_unfit (target_error.Limit which number) unfit)))
            (λ (passed : PassesAtFirst (target.passes t kept (store.disk mid).files origin now) commits which number).
            inr (inr (is_passed_first which number (subst (λ (d : Disk). PassesAtFirst (target.passes t kept d.files origin now) commits which number) disk_same passed))))
            idle.1,
      )
      limited_is start ready which number (inr at) =
          let passed : target.passes t kept before origin now (take (at.place + 1) commits) which number = subst (λ (d : Disk). target.passes t kept d.files origin now (take (at.place + 1) commits) which number) disk_same at.passed in
          let gained = subst (λ (d : Disk). Gained (meaning target t) origin v d.files commits at.place (store.disk new).files) disk_same at.gained in
          inr (limited_here (source_meaning source f) laws.source_own (meaning target t) mode v before head (is_head told) id (is_id told) partition commits full (way told) at.columns start
          (laws.views.one_view before v start (kept_reads told) ready.reads) store passes_at (Leaves (target_facts target t) None now) new which number at.place at.within (kept, is_kept told, passed) (stay_is (take at.place commits) at.left) gained
          (λ other. let left = at.untouched other in (left.0, left_is (take at.place commits) (store.disk new).files left.1)))

      -- what isn't idle has the source's columns, from before it was read
      columns_or : {X : Type 0} → (v.table.partition ≡ partition) ⊎ (X × (store.tells → OnlyReads store mid new)) → (v.table.partition ≡ partition) ⊎ OnlyReads store old new
      columns_or (inl columns) = inl columns
      columns_or (inr idle) = inr (reading_further store old mid new reading idle.1 told)

      stopped_at : (start : View) → IsReady (source_meaning source f) (target_facts target t) before start (target.settled t (store.disk old)) → (e : TargetError) → (v.table.partition ≡ partition) ⊎ OnlyReads store old new
          → IsStoppedAt store (meaning target t) (HaveWritten target t kept (store.disk mid).files origin now) (e ≡ target_error.Contested → ⊥) origin v commits mid new
          → StopsSo store (source_meaning source f) (target_facts target t) None mode now start old new (Some (answer_of_target (target.kind t) (Err e)))
      stopped_at start ready e (inr idle) at = inl idle
      stopped_at start ready e (inl columns) at =
          inr (stopped_here (source_meaning source f) laws.source_own (meaning target t) mode v before head (is_head told) id (is_id told) partition commits full (way told) columns start
          (laws.views.one_view before v start (kept_reads told) ready.reads) store (Leaves (target_facts target t) None now) new (¬ IsContest (status_of_target (target.kind t) e)) at.place at.within (stay_is (take at.place commits) at.left)
          (λ u.
          let some = at.gained (undisturbed (target.kind t) (Err e) u) in (
            some.0,
            some.1,
            some.2,
            subst (λ (d : Disk). Gained (meaning target t) origin v d.files commits some.0 (store.disk new).files) disk_same some.3,
            (some.4.0, left_is (take some.0 commits) some.4.0 some.4.1, some.4.2),
          )))

      stopped_is : (start : View) → IsReady (source_meaning source f) (target_facts target t) before start (target.settled t (store.disk old)) → (answer : Result Report TargetError) → Applied answer
          → StopsSo store (source_meaning source f) (target_facts target t) None mode now start old new (Some (answer_of_target (target.kind t) answer))
      stopped_is start ready (Ok report) given = tt
      stopped_is start ready (Err e) given =
          ⊎_elim (λ (idle : OnlyReads store mid new). inl (reading_further store old mid new reading (λ t. idle) told))
          (λ (at : IsStoppedAt store (meaning target t) (HaveWritten target t kept (store.disk mid).files origin now) (e ≡ target_error.Contested → ⊥) origin v commits mid new). stopped_at start ready e (columns_or (columns_known _ given.columns)) at)
          (given.stopped told (stands_mid ready.settled))

      still_is : (answer : Result Report TargetError) → Applied answer → mode ≡ modes.Sync → IsDone (Some (answer_of_target (target.kind t) answer)) → (start : View) → target.reads t before start
          → StandsAtHead (source_meaning source f) before start → OnlyReads store old new
      still_is (Err e) given sync done start reads at = absurd done
      still_is (Ok report) given sync done start reads at =
          let same : AreOne v start = laws.views.one_view before v start (kept_reads told) reads in
          let none : commits ≡ [] = still_none (source_meaning source f) laws.source_own (meaning target t) mode v before head (is_head told) id (is_id told) partition commits full (way told) start same sync at in
          reading_further store old mid new reading (λ t. given.none t none) told

      caused_is : (answer : Result Report TargetError) → Applied answer → IsCaused (OnlyReads store old new) (source_meaning source f) (target_facts target t) mode now before (Some (answer_of_target (target.kind t) answer))
      caused_is (Ok report) given = tt
      caused_is (Err e) given = refusal_of_apply (source_meaning source f) (target_facts target t) mode now before (OnlyReads store old new) (OnlyReads store mid new) (target.unfit t kept partition commits)
          (PassesIn (target.passes t kept (store.disk mid).files origin now) commits) (λ idle. reading_further store old mid new reading (λ t. idle) told) is_unfit
          (λ which number passed. is_passed which number (subst (λ (d : Disk). PassesIn (target.passes t kept d.files origin now) commits which number) disk_same passed)) e (given.refused told)

      late_is : (answer : Result Report TargetError) → Applied answer → IfErr (answer_of_target (target.kind t) answer) (IsLate (source_meaning source f) (target_facts target t) mode now before)
      late_is (Ok report) given = tt
      late_is (Err e) given = late_of_apply (source_meaning source f) (target_facts target t) mode now before (OnlyReads store old new) (OnlyReads store mid new) (target.unfit t kept partition commits)
          (PassesIn (target.passes t kept (store.disk mid).files origin now) commits) is_unfit (λ which number passed. is_passed which number (subst (λ (d : Disk). PassesIn (target.passes t kept d.files origin now) commits which number) disk_same passed)) e (given.refused told)

      complete_is : (answer : Result Report TargetError) → Applied answer → CanSync (source_meaning source f) (target_facts target t) mode now before
          → (Some (answer_of_target (target.kind t) answer) ≡ Some (Err status.StoreFault) → ⊥) → (Some (answer_of_target (target.kind t) answer) ≡ Some (Err (status.Contested (target.kind t))) → ⊥)
          → IsComplete (Some (answer_of_target (target.kind t) answer))
      complete_is (Ok report) given can no_fault no_contest = tt
      complete_is (Err e) given can no_fault no_contest = only_memory (source_meaning source f) (target_facts target t) mode now before
          (λ path v foreign reads on. not_foreign before path v foreign reads on) can (OnlyReads store old new) (status_of_target (target.kind t) e) (caused_is (Err e) given)
          (λ is. no_fault (ap (λ (s : Status). Some (Err s)) is)) (λ is. no_contest (ap (λ (s : Status). Some (Err s)) is))

    full_told : (answer : Result Report TargetError) → Applied answer → IsOneInFull mode (Some (answer_of_target (target.kind t) answer))
    full_told (Ok report) given = (λ is_full. given.reported.is.published ∙ one (sym given.reported.is.way ∙ is_full), λ mode_is. given.reported.is.way ∙ by_full mode_is)
    full_told (Err e) given = tt

    applied_is : (answer : Result Report TargetError) → Applied answer → IsSync store (source_meaning source f) (target_facts target t) None mode now old new (Some (answer_of_target (target.kind t) answer))
    applied_is answer given =
        let alone : store.tells → TouchesOwn store (target.kind t) old new = alone_further store (MayNotTouch (target.kind t)) old mid new (λ told. alone_by_reading store (MayNotTouch (target.kind t)) old mid (reading told)) given.alone in
        let fault = fails_as store.faults store.may_fail old new (IsErrOf answer target_error.StoreFault) (Some (answer_of_target (target.kind t) answer) ≡ Some (Err status.StoreFault)) (fault_told (target.kind t) answer)
        (fails_then store.faults store.may_fail old mid new Before (IsErrOf answer target_error.StoreFault) cause given.fault) in
        let contest = contested_as store.contests store.may_contest old new (IsErrOf answer target_error.Contested) (Some (answer_of_target (target.kind t) answer) ≡ Some (Err (status.Contested (target.kind t)))) (contest_told (target.kind t) answer)
        (contest_back (target.kind t) answer) (contested_then store.contests store.may_contest old mid new Other (IsErrOf answer target_error.Contested) quiet given.contest) in
        record {
          alone = alone;
          short = short_further store old mid new (short_reading store old mid reading) given.short;
          source_stays = λ told apart clean. source_kept store (source_meaning source f) laws.source_own (target.kind t) apart old new told (alone told) clean;
          synced = λ told start ready. synced_is told start ready answer given;
          reported = λ told start reads goes. reported_is told start reads answer given;
          in_full = full_told answer given;
          still = λ told sync done start reads goes at. still_is told answer given sync done start reads at;
          contested = λ told is start ready. contested_is told start ready (given.contested told (stands_mid told ready.settled) (contest_told (target.kind t) answer is));
          limited = λ told which number is start ready. limited_is told start ready which number (given.limited told (stands_mid told ready.settled) which number (limit_told (target.kind t) which number answer is));
          stopped = λ told start ready. stopped_is told start ready answer given;
          few = few_told (target.kind t) answer;
          caused = λ told. caused_is told answer given;
          absent = λ told is. absurd (there told is);
          foreign = λ told path foreign. absurd (not_foreign before path v foreign (kept_reads told) goes_on);
          fault = fault;
          contest = contest;
          complete = λ told can no_fault no_contest. complete_is told answer given can (λ is. no_fault (fault.rose is)) no_contest;
        }

    pub sync_applied : (here : Origin) → here ≡ origin → (answer : Result Report TargetError)
        → Applies store (meaning target t) (target.unfit t kept partition commits) (target.passes t kept (store.disk mid).files here now) (HaveWritten target t kept (store.disk mid).files here now) here v partition commits full Stands mid new answer
        → IsSync store (source_meaning source f) (target_facts target t) None mode now old new (Some (answer_of_target (target.kind t) answer))
        × (store.tells → IfErr (answer_of_target (target.kind t) answer) (IsLate (source_meaning source f) (target_facts target t) mode now (store.disk old).files))
    sync_applied here here_is answer given =
        let done : Applied answer = subst (λ (o : Origin). Applies store (meaning target t) (target.unfit t kept partition commits) (target.passes t kept (store.disk mid).files o now) (HaveWritten target t kept (store.disk mid).files o now) o v partition commits full Stands mid new answer) here_is given in
        (applied_is answer done, λ told. late_is told answer done)
