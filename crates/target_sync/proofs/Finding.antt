-- How a sync of one target ends, by what inspecting the target found and by what reading the source gave.
use Rattle.std.proofs.Common.{◌≡◌, inl, inr, ℕ, List, Option, Some, None, refl, sym, ap, subst, ◌∙◌}
use Rattle.std.specs.Prelude.{IfErr, Result, Err, IsErrOf}
use Rattle.lake_store.specs.Disk.{Disk, Files}
use Rattle.lake_store.specs.Runs.{FailsBy, IsUncontestedBy, OnlyReads}
use Rattle.lake_store.specs.declared.store.Store.{Ghosts}
use Rattle.lake_store.proofs.RunLaws.{NowOnly, reading_further}
use Rattle.source_core.specs.Answers.{IsHeadRefusal, IsReadRefusal}
use Rattle.source_core.specs.declared.error.SourceError.{SourceError}
use Rattle.source_core.specs.declared.error.SourceError.TheVariants as source_error
use Rattle.source_core.specs.declared.head.Head.{Head}
use Rattle.source_core.specs.declared.source.Source as sources
use Rattle.table_history.specs.declared.kind.Kind.{Kind}
use Rattle.table_history.specs.declared.limit.LimitKind.{LimitKind}
use Rattle.target_core.specs.TargetMeanings.{meaning}
use Rattle.target_core.specs.Views.{Origin, View}
use Rattle.target_core.specs.declared.target.Target as targets
use Rattle.target_core.specs.declared.target.TargetError.{TargetError}
use Rattle.target_sync.specs.Answered.{IsEarly, IsLate, IsOfSync, IsPlanRefusal, IsReadFault, IsSync}
use Rattle.target_sync.specs.Applied.{Applies, answer_of_target, status_of_source}
use Rattle.target_sync.specs.Plans.{IsDuePlan, IsFoundOfSource, IsFoundOurs, IsSoundPlan}
use Rattle.target_sync.specs.Sources.{HasHead, source_meaning}
use Rattle.target_sync.specs.Targets.{HaveWritten, target_facts}
use Rattle.target_sync.specs.declared.apply.Report.{Report}
use Rattle.target_sync.specs.declared.plan.Mode.{Mode}
use Rattle.target_sync.specs.declared.plan.Plan.{Plan}
use Rattle.target_sync.specs.declared.status.Side.TheVariants as side
use Rattle.target_sync.specs.declared.status.Status.{Status}
use Rattle.target_sync.specs.declared.status.Status.TheVariants as status
use Rattle.target_sync.proofs.Counting.{fails_as, fails_then, uncontested_then}
use Rattle.target_sync.proofs.Refusing.{absence_of_head, before_of_head, foreign_of_early, foreign_of_plan, refusal_of_early, refusal_of_head, refusal_of_plan}
use Rattle.target_sync.proofs.Syncing.{Laws, not_foreign, sync_applied, sync_idle}

err_err : {X : Type 0} (e d : Status) → e ≡ d → ◌≡◌ {A = Result X Status} (Err e) (Err d)
err_err e d is = ap (λ (s : Status). Err s) is

err_same : {X : Type 0} (e d : Status) → ◌≡◌ {A = Result X Status} (Err e) (Err d) → e ≡ d
err_same e d is = cc is

pub source_fault : (e : SourceError) → status_of_source e ≡ status.StoreFault → e ≡ source_error.StoreFault
source_fault source_error.Memory is = absurd (cc is)
source_fault source_error.Absent is = absurd (cc is)
source_fault (source_error.Malformed path) is = absurd (cc is)
source_fault (source_error.Unsupported feature path) is = absurd (cc is)
source_fault (source_error.Limit which number) is = absurd (cc is)
source_fault source_error.StoreFault is = refl

pub few_of_source : (kind : Kind) (e : SourceError) → IsOfSync kind (status_of_source e)
few_of_source kind source_error.Memory = tt
few_of_source kind source_error.Absent = tt
few_of_source kind (source_error.Malformed path) = tt
few_of_source kind (source_error.Unsupported feature path) = tt
few_of_source kind (source_error.Limit which number) = tt
few_of_source kind source_error.StoreFault = tt

pub no_source_contest : (kind : Kind) (e : SourceError) → status_of_source e ≡ status.Contested kind → ⊥
no_source_contest kind source_error.Memory is = cc is
no_source_contest kind source_error.Absent is = cc is
no_source_contest kind (source_error.Malformed path) is = cc is
no_source_contest kind (source_error.Unsupported feature path) is = cc is
no_source_contest kind (source_error.Limit which number) is = cc is
no_source_contest kind source_error.StoreFault is = cc is

-- a refusal of the source isn't a number that a target passes
no_source_limit : (kind : Kind) (which : LimitKind) (number : ℕ) (e : SourceError) → status_of_source e ≡ status.Limit (side.Target kind) which number → ⊥
no_source_limit kind which number source_error.Memory is = cc is
no_source_limit kind which number source_error.Absent is = cc is
no_source_limit kind which number (source_error.Malformed path) is = cc is
no_source_limit kind which number (source_error.Unsupported feature path) is = cc is
no_source_limit kind which number (source_error.Limit other count) is = cc is
no_source_limit kind which number source_error.StoreFault is = cc is

no_foreign_limit : (kind : Kind) (path : List ℕ) (which : LimitKind) (number : ℕ) → ◌≡◌ {A = Status} (status.Foreign kind path) (status.Limit (side.Target kind) which number) → ⊥
no_foreign_limit kind path which number is = cc is

-- what is found of ours is of the source's format
pub found_of_source : {K : Type 0} (view : K → View) (kind : Kind) (found : Option K) → IsFoundOurs view kind found → IsFoundOfSource view kind found
found_of_source view kind None ours = tt
found_of_source view kind (Some kept) ours = ours.0

module _ {S F T K : Type 0} (store : Ghosts S) (only_now : NowOnly store) (source : sources.Ghosts F) (f : F) (target : targets.Ghosts T K) (t : T) (laws : Laws source f target t)
    (one_path : (kind : Kind) (files : Files) (p q : List ℕ) → target.is_foreign t kind files p → target.is_foreign t kind files q → p ≡ q) (mode : Mode) (now : ℕ) where
  -- finding the head was refused
  pub head_refused : (old new : S) (e : SourceError) → (store.tells → OnlyReads store old new) → FailsBy store old new (e ≡ source_error.StoreFault) → IsUncontestedBy store old new ⊥
      → (store.tells → IsHeadRefusal (source.is_absent f (store.disk old).files) (source.at_head f (store.disk old).files) e)
      → IsSync store (source_meaning source f) (target_facts target t) None mode now old new (Some (Err (status_of_source e)))
  head_refused old new e reading cause quiet refused =
      let files : Files = (store.disk old).files in
      sync_idle store only_now source f target t laws mode now old new (status_of_source e) (few_of_source (target.kind t) e) reading
      (fails_as store.faults store.may_fail old new (e ≡ source_error.StoreFault) (status_of_source e ≡ status.StoreFault) (source_fault e) cause)
      (record { same = quiet.same; still = quiet.still; never = no_source_contest (target.kind t) e })
      (λ told. refusal_of_head (source_meaning source f) (target_facts target t) mode now files (OnlyReads store old new) (reading told) e (refused told))
      (λ told absent. absence_of_head (source_meaning source f) (target_facts target t) mode now files (OnlyReads store old new) (reading told) e (refused told) absent)
      (λ told path foreign. inr (before_of_head (source_meaning source f) (target_facts target t) mode now files (OnlyReads store old new) (reading told) e (refused told)))
      (λ told which number is. absurd (no_source_limit (target.kind t) which number e is))

  -- inspecting was refused, or the target is foreign
  pub early_refused : {X : Type 0} (old new : S) (e : Status) → IsOfSync (target.kind t) e → (store.tells → OnlyReads store old new) → FailsBy store old new (IsErrOf {T = X} (Err e) status.StoreFault) → IsUncontestedBy store old new (IsErrOf {T = X} (Err e) (status.Contested (target.kind t)))
      → (store.tells → ¬ source.is_absent f (store.disk old).files) → (store.tells → HasHead (source_meaning source f) (store.disk old).files)
      → (store.tells → IsEarly (source_meaning source f) (target_facts target t) (store.disk old).files e)
      → IsSync store (source_meaning source f) (target_facts target t) None mode now old new (Some (Err e))
  early_refused old new e few reading cause quiet there has early =
      let files : Files = (store.disk old).files in
      sync_idle store only_now source f target t laws mode now old new e few reading
      (fails_as store.faults store.may_fail old new _ (e ≡ status.StoreFault) (err_err e status.StoreFault) cause)
      (record { same = quiet.same; still = quiet.still; never = λ is. quiet.never (err_err e (status.Contested (target.kind t)) is) })
      (λ told. refusal_of_early (source_meaning source f) (target_facts target t) mode now files (OnlyReads store old new) (reading told) (has told) e (early told))
      (λ told absent. absurd (there told absent))
      (λ told path foreign. foreign_of_early (source_meaning source f) (target_facts target t) mode now files (OnlyReads store old new) (reading told) (has told) (one_path (source.kind f) files) path foreign e (early told))
      (λ told which number is. inl (subst (λ (s : Status). IsEarly (source_meaning source f) (target_facts target t) files s) is (early told)).1)

  -- what is read over a target that is gone on from isn't read over a foreign one
  no_read_fault : (files : Files) (path : List ℕ) → target.is_foreign t (source.kind f) files path → (e : SourceError) → IsReadFault (source_meaning source f) (target_facts target t) mode files e → ⊥
  no_read_fault files path foreign e fault = not_foreign store only_now source f target t laws mode now files path fault.1.0 foreign fault.1.1 fault.1.2.0

  -- planning passes no number of the target
  no_plan_limit : (files : Files) (which : LimitKind) (number : ℕ) (e : Status) → e ≡ status.Limit (side.Target (target.kind t)) which number → IsPlanRefusal (source_meaning source f) (target_facts target t) mode files e → ⊥
  no_plan_limit files which number e is (inl foreign) = no_foreign_limit (target.kind t) foreign.0 which number (sym foreign.1 ∙ is)
  no_plan_limit files which number e is (inr fault) = no_source_limit (target.kind t) which number fault.0 (sym fault.1 ∙ is)

  module _ (old mid : S) (reading : store.tells → OnlyReads store old mid) (A B : Type 0) (cause : FailsBy store old mid A) (quiet : IsUncontestedBy store old mid B) (there : store.tells → ¬ source.is_absent f (store.disk old).files) where
    abbrev before : Files
    before = (store.disk old).files

    -- planning was refused
    pub plan_refused : {X : Type 0} → (store.tells → HasHead (source_meaning source f) before) → (new : S) (e : Status) → IsOfSync (target.kind t) e → (store.tells → OnlyReads store mid new) → FailsBy store mid new (IsErrOf {T = X} (Err e) status.StoreFault) → IsUncontestedBy store mid new (IsErrOf {T = X} (Err e) (status.Contested (target.kind t)))
        → (store.tells → IsPlanRefusal (source_meaning source f) (target_facts target t) mode (store.disk mid).files e)
        → IsSync store (source_meaning source f) (target_facts target t) None mode now old new (Some (Err e))
    plan_refused has new e few further more still refused =
        let all : store.tells → OnlyReads store old new = reading_further store old mid new reading further in
        let here : store.tells → IsPlanRefusal (source_meaning source f) (target_facts target t) mode before e
        = λ told. subst (λ (d : Disk). IsPlanRefusal (source_meaning source f) (target_facts target t) mode d.files e) (reading told).disk (refused told) in
        let both = uncontested_then store.contests store.may_contest old mid new B _ quiet still in
        sync_idle store only_now source f target t laws mode now old new e few all
        (fails_as store.faults store.may_fail old new _ (e ≡ status.StoreFault) (err_err e status.StoreFault) (fails_then store.faults store.may_fail old mid new A _ cause more))
        (record { same = both.same; still = both.still; never = λ is. both.never (err_err e (status.Contested (target.kind t)) is) })
        (λ told. refusal_of_plan (source_meaning source f) (target_facts target t) mode now before (OnlyReads store old new) (all told) (has told) e (here told))
        (λ told absent. absurd (there told absent))
        (λ told path foreign. foreign_of_plan (source_meaning source f) (target_facts target t) mode now before (OnlyReads store old new) (all told) (one_path (source.kind f) before) path foreign (no_read_fault before path foreign) e (here told))
        (λ told which number is. absurd (no_plan_limit before which number e is (here told)))

    -- reading the source was refused
    pub read_refused : {X : Type 0} → (store.tells → HasHead (source_meaning source f) before) → (new : S) (e : SourceError) → (store.tells → OnlyReads store mid new) → FailsBy store mid new (IsErrOf {T = X} (Err e) source_error.StoreFault) → IsUncontestedBy store mid new ⊥
        → (store.tells → IsReadRefusal (IsReadFault (source_meaning source f) (target_facts target t) mode (store.disk mid).files) e)
        → IsSync store (source_meaning source f) (target_facts target t) None mode now old new (Some (Err (status_of_source e)))
    read_refused {X} has new e further more still refused =
        plan_refused {X = Unit {0}} has new (status_of_source e) (few_of_source (target.kind t) e) further
        (fails_as store.faults store.may_fail mid new (IsErrOf {T = X} (Err e) source_error.StoreFault) (IsErrOf {T = Unit {0}} (Err (status_of_source e)) status.StoreFault)
        (λ is. ap (λ (x : SourceError). Err x) (source_fault e (err_same (status_of_source e) status.StoreFault is))) more)
        (record { same = still.same; still = still.still; never = λ is. no_source_contest (target.kind t) e (err_same (status_of_source e) (status.Contested (target.kind t)) is) })
        (λ told. inr (e, refl, refused told))

    -- a plan was applied
    pub plan_applied : (read new : S) → (store.tells → OnlyReads store mid read) → (C D : Type 0) → FailsBy store mid read C → IsUncontestedBy store mid read D
        → (head : Head) → (store.tells → source.is_head f before head) → (plan : Plan K) → IsSoundPlan (target.view t) (target.image t) (source.kind f) mode plan
        → (store.tells → IsDuePlan (target.view t) (target.stands_for t) (source_meaning source f) mode (store.disk mid).files head plan) → (kind : Kind) → kind ≡ source.kind f → (answer : Result Report TargetError)
        → Applies store (meaning target t) (target.unfit t plan.kept plan.partition plan.commits) (target.passes t plan.kept (store.disk read).files (record { source = kind; table = plan.table }) now)
        (HaveWritten target t plan.kept (store.disk read).files (record { source = kind; table = plan.table }) now) (record { source = kind; table = plan.table })
        (target.view t plan.kept) plan.partition plan.commits plan.full (target.stands_for t plan.kept (store.disk read).files × target.settled t (store.disk read)) read new answer
        → IsSync store (source_meaning source f) (target_facts target t) None mode now old new (Some (answer_of_target (target.kind t) answer))
        × (store.tells → IfErr (answer_of_target (target.kind t) answer) (IsLate (source_meaning source f) (target_facts target t) mode now before))
    plan_applied read new further C D more still head is_head plan sound due kind kind_is answer given =
        let all : store.tells → OnlyReads store old read = reading_further store old mid read reading further in
        let due_old : store.tells → IsDuePlan (target.view t) (target.stands_for t) (source_meaning source f) mode before head plan
        = λ told. subst (λ (d : Disk). IsDuePlan (target.view t) (target.stands_for t) (source_meaning source f) mode d.files head plan) (reading told).disk (due told) in
        let here : Origin = record { source = kind; table = plan.table } in
        let same : ◌≡◌ {A = Origin} here (record { source = source.kind f; table = plan.table }) = λ i. record { source = kind_is i; table = plan.table } in
        sync_applied store only_now source f target t laws mode now old read new all C D (fails_then store.faults store.may_fail old mid read A C cause more) (uncontested_then store.contests store.may_contest old mid read B D quiet still)
        there head is_head plan.kept (λ told. (due_old told).stands) plan.partition plan.commits plan.full plan.table sound.can.start sound.one sound.way (λ told. (due_old told).is_id) (λ told. (due_old told).way) here same answer given
