-- Why a sync of one target is refused, and which answer comes first.
use Rattle.std.proofs.Common.{◌≡◌, ◌⊎◌, inl, inr, ℕ, List, refl, sym, ap, subst, ◌∙◌}
use Rattle.std.specs.Prelude.{IfErr, Result, Ok, Err}
use Rattle.lake_store.specs.Disk.{Files}
use Rattle.source_core.specs.Answers.{IsHeadRefusal, IsReadRefusal}
use Rattle.source_core.specs.declared.error.SourceError.{SourceError}
use Rattle.source_core.specs.declared.error.SourceError.TheVariants as source_error
use Rattle.table_history.specs.declared.kind.Kind.{Kind}
use Rattle.table_history.specs.declared.limit.LimitKind.{LimitKind}
use Rattle.target_core.specs.Conditions.{GoesOn}
use Rattle.target_core.specs.Views.{View}
use Rattle.target_core.specs.declared.target.TargetError.{TargetError}
use Rattle.target_core.specs.declared.target.TargetError.TheVariants as target_error
use Rattle.target_sync.specs.Answered.{CameBefore, CanSync, IsAbsence, IsEarly, IsLate, IsNotForeign, IsPassed, IsPlanRefusal, IsReadFault, IsRefusal, IsUnfit}
use Rattle.target_sync.specs.Applied.{IsApplyRefusal, answer_of_target, status_of_source, status_of_target}
use Rattle.target_sync.specs.Sources.{HasHead, SourceMeaning}
use Rattle.target_sync.specs.Targets.{TargetFacts}
use Rattle.target_sync.specs.declared.apply.Report.{Report}
use Rattle.target_sync.specs.declared.plan.Mode.{Mode}
use Rattle.target_sync.specs.declared.status.Side.TheVariants as side
use Rattle.target_sync.specs.declared.status.Status.{Status}
use Rattle.target_sync.specs.declared.status.Status.TheVariants as status

module _ (source : SourceMeaning) (target : TargetFacts) (mode : Mode) (now : ℕ) (files : Files) (Idle : Type 0) (idle : Idle) where
  pub refusal_of_head : (e : SourceError) → IsHeadRefusal (source.is_absent files) (source.at_head files) e → IsRefusal Idle source target mode now files (status_of_source e)
  refusal_of_head source_error.Memory is = tt
  refusal_of_head source_error.Absent is = (idle, is)
  refusal_of_head (source_error.Malformed path) is = (idle, inl is.1)
  refusal_of_head (source_error.Unsupported feature path) is = (idle, inl is.1)
  refusal_of_head (source_error.Limit which number) is = (idle, inl is)
  refusal_of_head source_error.StoreFault is = tt

  pub absence_of_head : (e : SourceError) → IsHeadRefusal (source.is_absent files) (source.at_head files) e → source.is_absent files → IsAbsence source files (status_of_source e)
  absence_of_head source_error.Memory is absent = tt
  absence_of_head source_error.Absent is absent = tt
  absence_of_head (source_error.Malformed path) is absent = absurd (is.0 absent)
  absence_of_head (source_error.Unsupported feature path) is absent = absurd (is.0 absent)
  absence_of_head (source_error.Limit which number) is absent = is
  absence_of_head source_error.StoreFault is absent = tt

  pub before_of_head : (e : SourceError) → IsHeadRefusal (source.is_absent files) (source.at_head files) e → CameBefore source target files (status_of_source e)
  before_of_head source_error.Memory is = tt
  before_of_head source_error.Absent is = is
  before_of_head (source_error.Malformed path) is = is.1
  before_of_head (source_error.Unsupported feature path) is = is.1
  before_of_head (source_error.Limit which number) is = is
  before_of_head source_error.StoreFault is = tt

  pub refusal_of_read : (e : SourceError) → IsReadRefusal (IsReadFault source target mode files) e → IsRefusal Idle source target mode now files (status_of_source e)
  refusal_of_read source_error.Memory is = tt
  refusal_of_read source_error.Absent is = absurd is
  refusal_of_read (source_error.Malformed path) is = (idle, inr is)
  refusal_of_read (source_error.Unsupported feature path) is = (idle, inr is)
  refusal_of_read (source_error.Limit which number) is = (idle, inr is)
  refusal_of_read source_error.StoreFault is = tt

  pub refusal_of_early : HasHead source files → (e : Status) → IsEarly source target files e → IsRefusal Idle source target mode now files e
  refusal_of_early has status.Done is = absurd is
  refusal_of_early has status.Memory is = tt
  refusal_of_early has status.Usage is = absurd is
  refusal_of_early has status.Absent is = absurd is
  refusal_of_early has (status.Malformed path) is = absurd is
  refusal_of_early has (status.Unsupported side.Source feature path) is = absurd is
  refusal_of_early has (status.Unsupported (side.Target kind) feature path) is = absurd is
  refusal_of_early has (status.Limit side.Source which number) is = absurd is
  refusal_of_early has (status.Limit (side.Target kind) which number) is = (is.0, inl (idle, has, is.1))
  refusal_of_early has (status.Foreign kind path) is = (idle, is.0, has, is.1)
  refusal_of_early has (status.Contested kind) is = absurd is
  refusal_of_early has status.StoreFault is = tt
  refusal_of_early has status.SinkFault is = absurd is
  refusal_of_early has (status.Behind kind at head) is = absurd is
  refusal_of_early has (status.Differs kind path) is = absurd is
  refusal_of_early has (status.Stale path) is = absurd is

  -- the answer of inspecting is that the target is foreign, where it is so, or it comes before
  pub foreign_of_early : HasHead source files → ((p q : List ℕ) → target.is_foreign source.kind files p → target.is_foreign source.kind files q → p ≡ q) → (at : List ℕ) → target.is_foreign source.kind files at
      → (e : Status) → IsEarly source target files e → (e ≡ status.Foreign target.files.kind at) ⊎ CameBefore source target files e
  foreign_of_early has one_path at foreign status.Done is = absurd is
  foreign_of_early has one_path at foreign status.Memory is = inr tt
  foreign_of_early has one_path at foreign status.Usage is = absurd is
  foreign_of_early has one_path at foreign status.Absent is = absurd is
  foreign_of_early has one_path at foreign (status.Malformed path) is = absurd is
  foreign_of_early has one_path at foreign (status.Unsupported side.Source feature path) is = absurd is
  foreign_of_early has one_path at foreign (status.Unsupported (side.Target kind) feature path) is = absurd is
  foreign_of_early has one_path at foreign (status.Limit side.Source which number) is = absurd is
  foreign_of_early has one_path at foreign (status.Limit (side.Target kind) which number) is = inr (has, is.1)
  foreign_of_early has one_path at foreign (status.Foreign kind path) is = inl (ap (λ (k : Kind). status.Foreign k path) is.0 ∙ ap (λ (p : List ℕ). status.Foreign target.files.kind p) (one_path path at is.1 foreign))
  foreign_of_early has one_path at foreign (status.Contested kind) is = absurd is
  foreign_of_early has one_path at foreign status.StoreFault is = inr tt
  foreign_of_early has one_path at foreign status.SinkFault is = absurd is
  foreign_of_early has one_path at foreign (status.Behind kind position head) is = absurd is
  foreign_of_early has one_path at foreign (status.Differs kind path) is = absurd is
  foreign_of_early has one_path at foreign (status.Stale path) is = absurd is

  -- what is read of the source has no fault, so only memory or the store
  pub before_of_read : ((e : SourceError) → IsReadFault source target mode files e → ⊥) → (e : SourceError) → IsReadRefusal (IsReadFault source target mode files) e → CameBefore source target files (status_of_source e)
  before_of_read never source_error.Memory is = tt
  before_of_read never source_error.Absent is = absurd is
  before_of_read never (source_error.Malformed path) is = absurd (never (source_error.Malformed path) is)
  before_of_read never (source_error.Unsupported feature path) is = absurd (never (source_error.Unsupported feature path) is)
  before_of_read never (source_error.Limit which number) is = absurd (never (source_error.Limit which number) is)
  before_of_read never source_error.StoreFault is = tt

  pub refusal_of_plan : HasHead source files → (e : Status) → IsPlanRefusal source target mode files e → IsRefusal Idle source target mode now files e
  refusal_of_plan has e (inl foreign) = subst (IsRefusal Idle source target mode now files) (sym foreign.1) (idle, refl, has, foreign.2)
  refusal_of_plan has e (inr read) = subst (IsRefusal Idle source target mode now files) (sym read.1) (refusal_of_read read.0 read.2)

  -- the answer of planning is that the target is foreign, where it is so, or it comes before
  pub foreign_of_plan : ((p q : List ℕ) → target.is_foreign source.kind files p → target.is_foreign source.kind files q → p ≡ q) → (path : List ℕ) → target.is_foreign source.kind files path → ((e : SourceError) → IsReadFault source target mode files e → ⊥)
      → (e : Status) → IsPlanRefusal source target mode files e → (e ≡ status.Foreign target.files.kind path) ⊎ CameBefore source target files e
  foreign_of_plan one_path path is never e (inl foreign) = inl (foreign.1 ∙ ap (λ (p : List ℕ). status.Foreign target.files.kind p) (one_path foreign.0 path foreign.2 is))
  foreign_of_plan one_path path is never e (inr read) = inr (subst (CameBefore source target files) (sym read.1) (before_of_read never read.0 read.2))

module _ (source : SourceMeaning) (target : TargetFacts) (mode : Mode) (now : ℕ) (files : Files) (Idle : Type 0) where
  pub refusal_of_apply : (Untouched : Type 0) (unfit : TargetError → Type 0) (passed : LimitKind → ℕ → Type 0) → (Untouched → Idle) → ((e : TargetError) → unfit e → IsUnfit source target mode files e)
      → ((which : LimitKind) (number : ℕ) → passed which number → IsPassed source target mode now files which number) → (e : TargetError) → IsApplyRefusal Untouched unfit passed e
      → IsRefusal Idle source target mode now files (status_of_target target.files.kind e)
  refusal_of_apply Untouched unfit passed still is_unfit is_passed target_error.Memory is = tt
  refusal_of_apply Untouched unfit passed still is_unfit is_passed target_error.StoreFault is = tt
  refusal_of_apply Untouched unfit passed still is_unfit is_passed target_error.Contested is = refl
  refusal_of_apply Untouched unfit passed still is_unfit is_passed (target_error.Limit which number) (inl is) = (refl, inr (inl (still is.0, is_unfit (target_error.Limit which number) is.1)))
  refusal_of_apply Untouched unfit passed still is_unfit is_passed (target_error.Limit which number) (inr is) = (refl, inr (inr (is_passed which number is)))
  refusal_of_apply Untouched unfit passed still is_unfit is_passed (target_error.Unsupported feature path) is = (still is.0, refl, is_unfit (target_error.Unsupported feature path) is.1)

  -- what comes when each target has been inspected
  pub late_of_apply : (Untouched : Type 0) (unfit : TargetError → Type 0) (passed : LimitKind → ℕ → Type 0) → ((e : TargetError) → unfit e → IsUnfit source target mode files e)
      → ((which : LimitKind) (number : ℕ) → passed which number → IsPassed source target mode now files which number) → (e : TargetError) → IsApplyRefusal Untouched unfit passed e
      → IsLate source target mode now files (status_of_target target.files.kind e)
  late_of_apply Untouched unfit passed is_unfit is_passed target_error.Memory is = tt
  late_of_apply Untouched unfit passed is_unfit is_passed target_error.StoreFault is = tt
  late_of_apply Untouched unfit passed is_unfit is_passed target_error.Contested is = tt
  late_of_apply Untouched unfit passed is_unfit is_passed (target_error.Limit which number) (inl is) = inl (is_unfit (target_error.Limit which number) is.1)
  late_of_apply Untouched unfit passed is_unfit is_passed (target_error.Limit which number) (inr is) = inr (is_passed which number is)
  late_of_apply Untouched unfit passed is_unfit is_passed (target_error.Unsupported feature path) is = tt

  pub late_of_source : (e : SourceError) → IsLate source target mode now files (status_of_source e)
  late_of_source source_error.Memory = tt
  late_of_source source_error.Absent = tt
  late_of_source (source_error.Malformed path) = tt
  late_of_source (source_error.Unsupported feature path) = tt
  late_of_source (source_error.Limit which number) = tt
  late_of_source source_error.StoreFault = tt

-- where nothing is in the way and no count rises, only memory can run out
module _ (source : SourceMeaning) (target : TargetFacts) (mode : Mode) (now : ℕ) (files : Files)
    (not_foreign : (path : List ℕ) (v : View) → target.is_foreign source.kind files path → target.files.reads files v → GoesOn source.kind v → ⊥) (can : CanSync source target mode now files) where
  no_limit : (Idle : Type 0) (which : LimitKind) (number : ℕ)
      → (Idle × HasHead source files × target.is_crowded source.kind files which number) ⊎ ((Idle × IsUnfit source target mode files (target_error.Limit which number)) ⊎ IsPassed source target mode now files which number) → ⊥
  no_limit Idle which number (inl is) = can.roomy which number is.2
  no_limit Idle which number (inr (inl is)) = can.fits (target_error.Limit which number) is.1
  no_limit Idle which number (inr (inr is)) = can.small which number is

  pub only_memory : (Idle : Type 0) (e : Status) → IsRefusal Idle source target mode now files e → (e ≡ status.StoreFault → ⊥) → (e ≡ status.Contested target.files.kind → ⊥) → e ≡ status.Memory
  only_memory Idle status.Done is fault contest = absurd is
  only_memory Idle status.Memory is fault contest = refl
  only_memory Idle status.Usage is fault contest = absurd is
  only_memory Idle status.Absent is fault contest = absurd (can.there is.1)
  only_memory Idle (status.Malformed path) is fault contest = absurd (can.readable (source_error.Malformed path) is.1)
  only_memory Idle (status.Unsupported side.Source feature path) is fault contest = absurd (can.readable (source_error.Unsupported feature path) is.1)
  only_memory Idle (status.Unsupported (side.Target kind) feature path) is fault contest = absurd (can.fits (target_error.Unsupported feature path) is.2)
  only_memory Idle (status.Limit side.Source which number) is fault contest = absurd (can.readable (source_error.Limit which number) is.1)
  only_memory Idle (status.Limit (side.Target kind) which number) is fault contest = absurd (no_limit Idle which number is.1)
  only_memory Idle (status.Foreign kind path) is fault contest = absurd (not_foreign path can.served.0 is.3 can.served.1 can.served.2)
  only_memory Idle (status.Contested kind) is fault contest = absurd (contest (ap (λ (k : Kind). status.Contested k) is))
  only_memory Idle status.StoreFault is fault contest = absurd (fault refl)
  only_memory Idle status.SinkFault is fault contest = absurd is
  only_memory Idle (status.Behind kind at head) is fault contest = absurd is
  only_memory Idle (status.Differs kind path) is fault contest = absurd is
  only_memory Idle (status.Stale path) is fault contest = absurd is

-- ---- refusals that come behind inspecting

pub known_of_source : (e : SourceError) → IsNotForeign (status_of_source e)
known_of_source source_error.Memory = tt
known_of_source source_error.Absent = tt
known_of_source (source_error.Malformed path) = tt
known_of_source (source_error.Unsupported feature path) = tt
known_of_source (source_error.Limit which number) = tt
known_of_source source_error.StoreFault = tt

pub known_of_apply : (kind : Kind) (r : Result Report TargetError) → IfErr (answer_of_target kind r) IsNotForeign
known_of_apply kind (Ok report) = tt
known_of_apply kind (Err target_error.Memory) = tt
known_of_apply kind (Err target_error.StoreFault) = tt
known_of_apply kind (Err target_error.Contested) = tt
known_of_apply kind (Err (target_error.Limit which number)) = tt
known_of_apply kind (Err (target_error.Unsupported feature path)) = tt
