-- A sync of two targets, by where it ends.
use Rattle.std.proofs.Common.{◌≡◌, ℕ, Bool, true, false, List, [], Option, Some, None, inl, inr, ⊎_elim, refl, sym, subst, ◌∙◌}
use Rattle.std.specs.Prelude.{IfErr, Result, Ok, Err}
use Rattle.lake_store.specs.Disk.{Disk, Files}
use Rattle.lake_store.specs.Runs.{OnlyReads}
use Rattle.lake_store.specs.declared.sink.Sink as sinks
use Rattle.lake_store.specs.declared.store.Store.{Ghosts}
use Rattle.lake_store.proofs.RunLaws.{reading_begins, reading_further}
use Rattle.source_core.specs.declared.error.SourceError.{SourceError}
use Rattle.source_core.specs.declared.error.SourceError.TheVariants as source_error
use Rattle.source_core.specs.declared.head.Head.{Head}
use Rattle.table_history.specs.declared.kind.Kind.{Kind}
use Rattle.table_history.specs.declared.limit.LimitKind.{LimitKind}
use Rattle.target_core.specs.Conditions.{GoesOn}
use Rattle.target_core.specs.Folders.{SameIn, folder_of}
use Rattle.target_core.specs.OwnFiles.{TouchesOwn}
use Rattle.target_core.specs.Views.{View, absent}
use Rattle.target_core.specs.declared.target.Target as targets
use Rattle.target_core.specs.declared.target.TargetError.{TargetError}
use Rattle.target_core.specs.declared.target.TargetError.TheVariants as target_error
use Rattle.target_sync.specs.Answered.{Answer, IsCaused, IsEarly, IsLate, IsNotForeign, IsOfLook, IsPassed, IsRefusal, IsSync, IsUnfit, StandsAt}
use Rattle.target_sync.specs.Applied.{answer_of_target, status_of_source}
use Rattle.target_sync.specs.Sources.{SourceMeaning}
use Rattle.target_sync.specs.Plans.{IsDuePlan, IsFound, IsFoundOurs, IsSoundPlan}
use Rattle.target_sync.specs.Targets.{TargetFacts, target_facts}
use Rattle.target_sync.specs.declared.apply.Report.{Report}
use Rattle.target_sync.specs.declared.plan.Mode.{Mode}
use Rattle.target_sync.specs.declared.plan.Plan.{Plan}
use Rattle.target_sync.specs.declared.status.Side.TheVariants as side
use Rattle.target_sync.specs.declared.status.Status.{Status}
use Rattle.target_sync.specs.declared.status.Status.TheVariants as status
use Rattle.target_sync.proofs.Applying.{goes_on_start}
use Rattle.target_sync.proofs.Counting.{fails_never, uncontested_never}
use Rattle.target_sync.proofs.Owning.{due_plan_own, passed_own, same_back, unfit_own}
use Rattle.target_sync.proofs.Standing.{SourceLaws}
use Rattle.target_sync.proofs.Pairing.{sync_none}
use Rattle.target_sync.proofs.Refusing.{known_of_apply, known_of_source, late_of_source}
use Rattle.sync_driver.specs.Both.{CameLate, GoesBoth, IsAtOnce, IsCut, IsEnd, IsOfSource, IsRefused, IsToldLate, TellsBehind, status_behind}
use Rattle.sync_driver.specs.Commands.{answer_line, answer_status}
use Rattle.sync_driver.specs.Lines.{refusal_line}
use Rattle.sync_driver.specs.Tellings.{Tells}
use Rattle.sync_driver.proofs.Pairs.{PairLaws, absent_on, ended_by, first_second, folder_stays, given_due, second_first, told_one, told_two, went_on}
use Rattle.sync_driver.proofs.Saying.{first_alone}

-- ---- kinds of refusals

-- what inspecting a target refuses isn't the source's
early_reads : (source : SourceMeaning) (target : TargetFacts) (files : Files) (e : Status) → IsEarly source target files e → IsOfSource e → ⊥
early_reads source target files status.Done early is = is
early_reads source target files status.Memory early is = is
early_reads source target files status.Usage early is = is
early_reads source target files status.Absent early is = early
early_reads source target files (status.Malformed path) early is = early
early_reads source target files (status.Unsupported side.Source feature path) early is = early
early_reads source target files (status.Unsupported (side.Target kind) feature path) early is = is
early_reads source target files (status.Limit side.Source which number) early is = early
early_reads source target files (status.Limit (side.Target kind) which number) early is = is
early_reads source target files (status.Foreign kind path) early is = is
early_reads source target files (status.Contested kind) early is = is
early_reads source target files status.StoreFault early is = is
early_reads source target files status.SinkFault early is = is
early_reads source target files (status.Behind kind at head) early is = is
early_reads source target files (status.Differs kind path) early is = is
early_reads source target files (status.Stale path) early is = is

look_reads : (target : Kind) (e : Status) → IsOfLook target e → IsOfSource e → ⊥
look_reads target status.Done look is = is
look_reads target status.Memory look is = is
look_reads target status.Usage look is = is
look_reads target status.Absent look is = look
look_reads target (status.Malformed path) look is = look
look_reads target (status.Unsupported side.Source feature path) look is = look
look_reads target (status.Unsupported (side.Target kind) feature path) look is = is
look_reads target (status.Limit side.Source which number) look is = look
look_reads target (status.Limit (side.Target kind) which number) look is = is
look_reads target (status.Foreign kind path) look is = is
look_reads target (status.Contested kind) look is = is
look_reads target status.StoreFault look is = is
look_reads target status.SinkFault look is = is
look_reads target (status.Behind kind at head) look is = is
look_reads target (status.Differs kind path) look is = is
look_reads target (status.Stale path) look is = is

-- nor is what applying a plan refuses
pub applied_reads : (kind : Kind) (r : Result Report TargetError) → IsRefused IsOfSource (Some (answer_of_target kind r)) → ⊥
applied_reads kind (Ok report) is = is
applied_reads kind (Err target_error.Memory) is = is
applied_reads kind (Err target_error.StoreFault) is = is
applied_reads kind (Err target_error.Contested) is = is
applied_reads kind (Err (target_error.Limit which number)) is = is
applied_reads kind (Err (target_error.Unsupported feature path)) is = is

-- a refusal of the source ends the command, as does want of memory and a fault of the store as it is read
pub end_of_source : (e : SourceError) → IsEnd (status_of_source e)
end_of_source source_error.Memory = tt
end_of_source source_error.Absent = tt
end_of_source (source_error.Malformed path) = tt
end_of_source (source_error.Unsupported feature path) = tt
end_of_source (source_error.Limit which number) = tt
end_of_source source_error.StoreFault = tt

done_behind : (e : Status) → status_behind status.Done e ≡ e
done_behind status.Done = refl
done_behind status.Memory = refl
done_behind status.Usage = refl
done_behind status.Absent = refl
done_behind (status.Malformed path) = refl
done_behind (status.Unsupported of feature path) = refl
done_behind (status.Limit of which number) = refl
done_behind (status.Foreign kind path) = refl
done_behind (status.Contested kind) = refl
done_behind status.StoreFault = refl
done_behind status.SinkFault = refl
done_behind (status.Behind kind at head) = refl
done_behind (status.Differs kind path) = refl
done_behind (status.Stale path) = refl

-- no file changed where the source was refused
idle_of_source : (Idle : Type 0) (source : SourceMeaning) (target : TargetFacts) (mode : Mode) (now : ℕ) (files : Files) (answer : Answer) → IsCaused Idle source target mode now files answer → IsRefused IsOfSource answer → Idle
idle_of_source Idle source target mode now files None caused is = absurd is
idle_of_source Idle source target mode now files (Some (Ok report)) caused is = absurd is
idle_of_source Idle source target mode now files (Some (Err e)) caused is = by_status e caused is
  where
    by_status : (e : Status) → IsRefusal Idle source target mode now files e → IsOfSource e → Idle
    by_status status.Done caused is = absurd is
    by_status status.Memory caused is = absurd is
    by_status status.Usage caused is = absurd is
    by_status status.Absent caused is = caused.0
    by_status (status.Malformed path) caused is = caused.0
    by_status (status.Unsupported side.Source feature path) caused is = caused.0
    by_status (status.Unsupported (side.Target kind) feature path) caused is = absurd is
    by_status (status.Limit side.Source which number) caused is = caused.0
    by_status (status.Limit (side.Target kind) which number) caused is = absurd is
    by_status (status.Foreign kind path) caused is = absurd is
    by_status (status.Contested kind) caused is = absurd is
    by_status status.StoreFault caused is = absurd is
    by_status status.SinkFault caused is = absurd is
    by_status (status.Behind kind at head) caused is = absurd is
    by_status (status.Differs kind path) caused is = absurd is
    by_status (status.Stale path) caused is = absurd is

late_answer : (source : SourceMeaning) (target : TargetFacts) (mode : Mode) (now : ℕ) (files : Files) (r : Result Report Status) → IfErr r (IsLate source target mode now files) → CameLate source target mode now files (Some r)
late_answer source target mode now files (Ok report) late = tt
late_answer source target mode now files (Err e) late = late

told_late : (r : Result Report Status) → IfErr r IsNotForeign → IsToldLate (Some r)
told_late (Ok report) known = tt
told_late (Err e) known = known

-- the command went on, so its line was no end
no_end : (so_far : Status) (answer : Answer) → so_far ≡ answer_status answer → (IsAtOnce so_far → ⊥) → IsRefused IsAtOnce answer → ⊥
no_end so_far None same never is = is
no_end so_far (Some (Ok report)) same never is = is
no_end so_far (Some (Err e)) same never is = never (subst IsAtOnce (sym same) is)

-- a test has one answer
pub one_answer : (b : Bool) → b ≡ false → b ≡ true → ⊥
one_answer b is other = let never : false ≡ true = sym is ∙ other in cc never

-- what was found of a target that is gone on from
pub stands_found : {T K : Type 0} (target : targets.Ghosts T K) (t : T) (source : Kind) (files : Files) (found : Option K) → ((kept : K) (files : Files) → target.stands_for t kept files → target.reads t files (target.view t kept))
    → IsFoundOurs (target.view t) source found → IsFound (target.reads t) (target.stands_for t) files found → StandsAt (target_facts target t) files (GoesOn source)
stands_found target t source files None kept_view ours is = (absent [], is, inl refl)
stands_found target t source files (Some kept) kept_view ours is = (target.view t kept, kept_view kept files is, inr ours.0)

-- what is planned for a target that is gone on from
pub stands_planned : {T K : Type 0} (target : targets.Ghosts T K) (t : T) (source : Kind) (files : Files) (mode : Mode) (plan : Plan K) → ((kept : K) (files : Files) → target.stands_for t kept files → target.reads t files (target.view t kept))
    → IsSoundPlan (target.view t) (target.image t) source mode plan → target.stands_for t plan.kept files → StandsAt (target_facts target t) files (GoesOn source)
stands_planned target t source files mode plan kept_view sound stands = (target.view t plan.kept, kept_view plan.kept files stands, goes_on_start source plan.partition (target.view t plan.kept) sound.can.start)

-- what came late over the one files came so over the others
late_own : (source : SourceMeaning) (target : TargetFacts) (mode : Mode) (now : ℕ) (a b : Files) → ((e : TargetError) → IsUnfit source target mode a e → IsUnfit source target mode b e)
    → ((which : LimitKind) (number : ℕ) → IsPassed source target mode now a which number → IsPassed source target mode now b which number) → (e : Status) → IsLate source target mode now a e → IsLate source target mode now b e
late_own source target mode now a b unfit passed status.Done late = tt
late_own source target mode now a b unfit passed status.Memory late = tt
late_own source target mode now a b unfit passed status.Usage late = tt
late_own source target mode now a b unfit passed status.Absent late = tt
late_own source target mode now a b unfit passed (status.Malformed path) late = tt
late_own source target mode now a b unfit passed (status.Unsupported of feature path) late = tt
late_own source target mode now a b unfit passed (status.Limit side.Source which number) late = tt
late_own source target mode now a b unfit passed (status.Limit (side.Target kind) which number) late = ⊎_elim (λ is. inl (unfit (target_error.Limit which number) is)) (λ is. inr (passed which number is)) late
late_own source target mode now a b unfit passed (status.Foreign kind path) late = late
late_own source target mode now a b unfit passed (status.Contested kind) late = tt
late_own source target mode now a b unfit passed status.StoreFault late = tt
late_own source target mode now a b unfit passed status.SinkFault late = tt
late_own source target mode now a b unfit passed (status.Behind kind at head) late = tt
late_own source target mode now a b unfit passed (status.Differs kind path) late = tt
late_own source target mode now a b unfit passed (status.Stale path) late = tt

-- a line by what its target and its answer are
pub told_as : {O : Type 0} (sink : sinks.Ghosts O) (old new : O) (kind is : Kind) (answer given : Result Report Status) (status : Status) → kind ≡ is → answer ≡ given → Tells sink old new (answer_line kind (Some answer)) (answer_status (Some answer)) status
    → Tells sink old new (answer_line is (Some given)) (answer_status (Some given)) status
told_as sink old new kind is answer given status same equal told =
    subst (λ (k : Kind). Tells sink old new (answer_line k (Some given)) (answer_status (Some given)) status) same
    (subst (λ (a : Result Report Status). Tells sink old new (answer_line kind (Some a)) (answer_status (Some a)) status) equal told)

pub behind_as : {O : Type 0} (sink : sinks.Ghosts O) (old new : O) (so_far : Status) (kind is : Kind) (answer given : Result Report Status) (status : Status) → kind ≡ is → answer ≡ given → TellsBehind sink old new so_far kind (Some answer) status
    → TellsBehind sink old new so_far is (Some given) status
behind_as sink old new so_far kind is answer given status same equal told =
    subst (λ (k : Kind). TellsBehind sink old new so_far k (Some given) status) same (subst (λ (a : Result Report Status). TellsBehind sink old new so_far kind (Some a) status) equal told)

-- ---- behind what was written of another target's files

module _ {S : Type 0} (store : Ghosts S) (source : SourceMeaning) (laws : SourceLaws source) (written : Kind) (far : source.kind ≡ written → ⊥) (old read mid : S) (reading : store.tells → OnlyReads store old read)
    (alone : store.tells → TouchesOwn store written read mid) where
  same_beside : (kind : Kind) → (kind ≡ written → ⊥) → store.tells → SameIn (folder_of kind) (store.disk old).files (store.disk mid).files
  same_beside kind apart told = subst (λ (d : Disk). SameIn (folder_of kind) d.files (store.disk mid).files) (reading told).disk (folder_stays store kind written apart read mid alone told)

  pub head_beside : (head : Head) → (store.tells → source.is_head (store.disk old).files head) → store.tells → source.is_head (store.disk mid).files head
  head_beside head is told = laws.head_own (store.disk old).files (store.disk mid).files head (same_beside source.kind far told) (is told)

  pub there_beside : (store.tells → ¬ source.is_absent (store.disk old).files) → store.tells → ¬ source.is_absent (store.disk mid).files
  there_beside there told absent =
      there told (laws.absent_own (store.disk mid).files (store.disk old).files (same_back (folder_of source.kind) (store.disk old).files (store.disk mid).files (same_beside source.kind far told)) absent)

  pub due_beside : {K : Type 0} (view : K → View) (stands_for : K → Files → Type 0) (kind : Kind) → (kind ≡ written → ⊥) → ((kept : K) (a b : Files) → SameIn (folder_of kind) a b → stands_for kept a → stands_for kept b) → (mode : Mode) (head : Head) (plan : Plan K)
      → (store.tells → IsDuePlan view stands_for source mode (store.disk old).files head plan) → store.tells → IsDuePlan view stands_for source mode (store.disk mid).files head plan
  due_beside view stands_for kind apart kept_own mode head plan due told =
      due_plan_own view stands_for source laws (store.disk old).files (store.disk mid).files (λ kept is. kept_own kept (store.disk old).files (store.disk mid).files (same_beside kind apart told) is) (same_beside source.kind far told) mode head plan (due told)

-- ---- the exits

module _ {S O : Type 0} (store : Ghosts S) (sink : sinks.Ghosts O) (source : SourceMeaning) (first second : TargetFacts) (laws : PairLaws store source first second) (mode : Mode) (now : ℕ) where
  abbrev There : S → Type 0
  There s = store.tells → ¬ source.is_absent (store.disk s).files

  abbrev Goes : S → S → O → O → Status → Type 0
  Goes old new out_old out_new given = GoesBoth store sink source first second mode now old new out_old out_new given

  there_behind : (old new : S) → (store.tells → OnlyReads store old new) → There old → There new
  there_behind old new reading there told = subst (λ (d : Disk). ¬ source.is_absent d.files) (sym (reading told).disk) (there told)

  first_none : (s : S) → There s → IsSync store source first None mode now s s None
  first_none s there = sync_none store source first mode now laws.source_laws laws.first_crash s s (reading_begins store laws.only_now s) ⊥ ⊥ (fails_never store.faults store.may_fail s ⊥ (λ never. never)) (uncontested_never store.contests store.may_contest s) there

  second_none : (s : S) → There s → IsSync store source second None mode now s s None
  second_none s there = sync_none store source second mode now laws.source_laws laws.second_crash s s (reading_begins store laws.only_now s) ⊥ ⊥ (fails_never store.faults store.may_fail s ⊥ (λ never. never)) (uncontested_never store.contests store.may_contest s) there

  -- the first was ended as it was inspected, and the command with it
  pub first_stopped : (old new : S) (out_old out_new : O) (e given : Status) → (store.tells → OnlyReads store old new) → There old → IsSync store source first None mode now old new (Some (Err e))
      → (store.tells → IsEarly source first (store.disk old).files e) → IsOfLook first.files.kind e → Tells sink out_old out_new (refusal_line e) e given → IsAtOnce given → Goes old new out_old out_new given
  first_stopped old new out_old out_new e given reading there sync early look told once = record {
    one = Some (Err e);
    two = None;
    second_first = false;
    synced = first_second store source first second laws mode now old new new (Some (Err e)) None sync (second_none new (there_behind old new reading there)) (λ tells. inl (early tells)) (inl look);
    phases = record {
      at_once = λ is. refl;
      ended = λ is. refl;
      unread = λ tells is. reading tells;
      first_left = λ tells is. absurd is;
      second_left = λ tells is. absurd (early_reads source first (store.disk old).files e (early tells) is);
      untouched = λ tells is. reading tells;
      went = λ tells some. absurd (some refl);
      first_answered = λ is. absurd (cc is);
      looked = λ tells is. inl (reading tells);
      second_answered = λ is. ⊎_elim (λ (end : IsEnd e). inl end) (λ (cut : IsCut given). inr (cut, λ tells. inr (inl (early tells)))) (ended_by sink out_old out_new (refusal_line e) (Some (Err e)) given told once);
    };
    told = told_one sink out_old out_new (refusal_line e) e given told;
  }

  -- the first was ended so, and the second had its turn
  pub first_ended : (old mid new : S) (out_old out_mid out_new : O) (e so_far given : Status) (answer : Result Report Status) → (store.tells → OnlyReads store old mid) → IsSync store source first None mode now old mid (Some (Err e))
      → (store.tells → IsEarly source first (store.disk old).files e) → IsOfLook first.files.kind e → Tells sink out_old out_mid (refusal_line e) e so_far → (IsAtOnce so_far → ⊥) → IsSync store source second None mode now mid new (Some answer)
      → TellsBehind sink out_mid out_new so_far second.files.kind (Some answer) given → Goes old new out_old out_new given
  first_ended old mid new out_old out_mid out_new e so_far given answer reading sync early look told never other more = record {
    one = Some (Err e);
    two = Some answer;
    second_first = false;
    synced = first_second store source first second laws mode now old mid new (Some (Err e)) (Some answer) sync other (λ tells. inl (early tells)) (inl look);
    phases = record {
      at_once = λ is. absurd (no_end so_far (Some (Err e)) (given_due sink out_old out_mid (refusal_line e) e so_far told never) never is);
      ended = λ is. absurd (look_reads first.files.kind e look is);
      unread = λ tells either. ⊎_elim (λ (is : IsOfSource e). absurd (early_reads source first (store.disk old).files e (early tells) is))
          (λ (is : IsRefused IsOfSource (Some answer)). reading_further store old mid new reading (λ t. idle_of_source (OnlyReads store mid new) source second mode now (store.disk mid).files (Some answer) (other.caused t) is) tells) either;
      first_left = λ tells is. inl (early tells);
      second_left = λ tells is. absurd (early_reads source first (store.disk old).files e (early tells) is);
      untouched = λ tells is. absurd (cc is);
      went = λ tells some. went_on sink out_old out_mid out_new (refusal_line e) e so_far second.files.kind (Some answer) given told never more tells;
      first_answered = λ is. absurd (cc is);
      looked = λ tells is. absurd (cc is);
      second_answered = λ is. absurd (cc is);
    };
    told = told_two sink out_old out_mid out_new (refusal_line e) e so_far second.files.kind (Some answer) given told never more;
  }

  -- the second was ended as it was inspected, and the command with it
  pub second_stopped : (old new : S) (out_old out_new : O) (e given : Status) → (store.tells → OnlyReads store old new) → There old → IsSync store source second None mode now old new (Some (Err e))
      → (store.tells → IsEarly source second (store.disk old).files e) → IsOfLook second.files.kind e → Tells sink out_old out_new (refusal_line e) e given → IsAtOnce given → Goes old new out_old out_new given
  second_stopped old new out_old out_new e given reading there sync early look told once = record {
    one = None;
    two = Some (Err e);
    second_first = true;
    synced = second_first store source first second laws mode now old new new None (Some (Err e)) sync (first_none new (there_behind old new reading there)) (λ tells. (tt, early tells)) (tt, look);
    phases = record {
      at_once = λ is. refl;
      ended = λ is. refl;
      unread = λ tells is. reading tells;
      first_left = λ tells is. absurd (early_reads source second (store.disk old).files e (early tells) is);
      second_left = λ tells is. absurd is;
      untouched = λ tells is. reading tells;
      went = λ tells some. absurd (some refl);
      first_answered = λ is. ⊎_elim (λ (end : IsEnd e). inl end) (λ (cut : IsCut given). inr (cut, λ tells. inr (early tells))) (ended_by sink out_old out_new (refusal_line e) (Some (Err e)) given told once);
      looked = λ tells is. absurd (cc is);
      second_answered = λ is. absurd (cc is);
    };
    told = told_one sink out_old out_new (refusal_line e) e given told;
  }

  -- the second was ended so, and then the first had its turn
  pub second_ended : (old mid new : S) (out_old out_mid out_new : O) (e so_far given : Status) (answer : Result Report Status) → (store.tells → OnlyReads store old mid) → IsSync store source second None mode now old mid (Some (Err e))
      → (store.tells → IsEarly source second (store.disk old).files e) → IsOfLook second.files.kind e → Tells sink out_old out_mid (refusal_line e) e so_far → (IsAtOnce so_far → ⊥) → IsSync store source first None mode now mid new (Some answer)
      → (store.tells → IfErr answer (IsLate source first mode now (store.disk mid).files)) → IfErr answer IsNotForeign → TellsBehind sink out_mid out_new so_far first.files.kind (Some answer) given → Goes old new out_old out_new given
  second_ended old mid new out_old out_mid out_new e so_far given answer reading sync early look told never other late known more = record {
    one = Some answer;
    two = Some (Err e);
    second_first = true;
    synced = second_first store source first second laws mode now old mid new (Some answer) (Some (Err e)) sync other
        (λ tells. (subst (λ (d : Disk). CameLate source first mode now d.files (Some answer)) (reading tells).disk (late_answer source first mode now (store.disk mid).files answer (late tells)), early tells)) (told_late answer known, look);
    phases = record {
      at_once = λ is. absurd (no_end so_far (Some (Err e)) (given_due sink out_old out_mid (refusal_line e) e so_far told never) never is);
      ended = λ is. absurd (look_reads second.files.kind e look is);
      unread = λ tells either. ⊎_elim (λ (is : IsRefused IsOfSource (Some answer)). reading_further store old mid new reading (λ t. idle_of_source (OnlyReads store mid new) source first mode now (store.disk mid).files (Some answer) (other.caused t) is) tells)
          (λ (is : IsOfSource e). absurd (early_reads source second (store.disk old).files e (early tells) is)) either;
      first_left = λ tells is. absurd (early_reads source second (store.disk old).files e (early tells) is);
      second_left = λ tells is. inr (inl (early tells));
      untouched = λ tells is. absurd (cc is);
      went = λ tells some. went_on sink out_old out_mid out_new (refusal_line e) e so_far first.files.kind (Some answer) given told never more tells;
      first_answered = λ is. absurd (cc is);
      looked = λ tells is. absurd (cc is);
      second_answered = λ is. absurd (cc is);
    };
    told = told_two sink out_old out_mid out_new (refusal_line e) e so_far first.files.kind (Some answer) given told never more;
  }

  -- reading the source for the first was refused
  pub first_unread : (old new : S) (out_old out_new : O) (e : SourceError) (given : Status) → (store.tells → OnlyReads store old new) → There old → IsSync store source first None mode now old new (Some (Err (status_of_source e)))
      → (store.tells → StandsAt second (store.disk old).files (GoesOn source.kind)) → Tells sink out_old out_new (refusal_line (status_of_source e)) (status_of_source e) given → Goes old new out_old out_new given
  first_unread old new out_old out_new e given reading there sync stands told = record {
    one = Some (Err (status_of_source e));
    two = None;
    second_first = false;
    synced = first_second store source first second laws mode now old new new (Some (Err (status_of_source e))) None sync (second_none new (there_behind old new reading there)) (λ tells. inr tt) (inr tt);
    phases = record {
      at_once = λ is. refl;
      ended = λ is. refl;
      unread = λ tells is. reading tells;
      first_left = λ tells is. absurd is;
      second_left = λ tells is. inr (inr (refl, stands tells));
      untouched = λ tells is. reading tells;
      went = λ tells some. absurd (some refl);
      first_answered = λ is. absurd (cc is);
      looked = λ tells is. inl (reading tells);
      second_answered = λ is. inl (end_of_source e);
    };
    told = told_one sink out_old out_new (refusal_line (status_of_source e)) (status_of_source e) given told;
  }

  -- reading it for the second was refused
  pub second_unread : (old new : S) (out_old out_new : O) (e : SourceError) (given : Status) → (store.tells → OnlyReads store old new) → There old → IsSync store source second None mode now old new (Some (Err (status_of_source e)))
      → (store.tells → StandsAt first (store.disk old).files (GoesOn source.kind)) → Tells sink out_old out_new (refusal_line (status_of_source e)) (status_of_source e) given → Goes old new out_old out_new given
  second_unread old new out_old out_new e given reading there sync stands told = record {
    one = None;
    two = Some (Err (status_of_source e));
    second_first = false;
    synced = first_second store source first second laws mode now old old new None (Some (Err (status_of_source e))) (first_none old there) sync
        (λ tells. inr (late_of_source source second mode now (store.disk old).files (Unit {0}) e)) (inr (known_of_source e));
    phases = record {
      at_once = λ is. absurd is;
      ended = λ is. absurd is;
      unread = λ tells is. reading tells;
      first_left = λ tells is. inr (refl, stands tells);
      second_left = λ tells is. absurd is;
      untouched = λ tells is. reading tells;
      went = λ tells some. first_alone sink out_old out_new (refusal_line (status_of_source e)) (status_of_source e) given told tells;
      first_answered = λ is. inl (end_of_source e);
      looked = λ tells is. absurd (cc is);
      second_answered = λ is. absurd (cc is);
    };
    told = subst (λ (d : Status). Tells sink out_old out_new (refusal_line (status_of_source e)) d given) (sym (done_behind (status_of_source e))) told;
  }

  -- the first was applied, and the command ended with its line
  pub first_last : (old new : S) (out_old out_new : O) (r : Result Report TargetError) (given : Status) → There old → IsSync store source first None mode now old new (Some (answer_of_target first.files.kind r))
      → Tells sink out_old out_new (answer_line first.files.kind (Some (answer_of_target first.files.kind r))) (answer_status (Some (answer_of_target first.files.kind r))) given → IsAtOnce given
      → (store.tells → StandsAt second (store.disk old).files (GoesOn source.kind)) → Goes old new out_old out_new given
  first_last old new out_old out_new r given there sync told once stands =
      let answer : Answer = Some (answer_of_target first.files.kind r) in
      record {
        one = answer;
        two = None;
        second_first = false;
        synced = first_second store source first second laws mode now old new new answer None sync (second_none new (absent_on store source first.files.kind laws.source_laws laws.far old new sync.alone there)) (λ tells. inr tt) (inr tt);
        phases = record {
          at_once = λ is. refl;
          ended = λ is. refl;
          unread = λ tells either. ⊎_elim (λ is. absurd (applied_reads first.files.kind r is)) (λ is. absurd is) either;
          first_left = λ tells is. absurd is;
          second_left = λ tells is. absurd (applied_reads first.files.kind r is);
          untouched = λ tells is. absurd (cc is);
          went = λ tells some. absurd (some refl);
          first_answered = λ is. absurd (cc is);
          looked = λ tells is. inr (stands tells);
          second_answered = λ is. ⊎_elim (λ (end : IsRefused IsEnd answer). inl end) (λ (cut : IsCut given). inr (cut, λ tells. inr (inr (stands tells)))) (ended_by sink out_old out_new (answer_line first.files.kind answer) answer given told once);
        };
        told = told_one sink out_old out_new (answer_line first.files.kind answer) (answer_status answer) given told;
      }

  -- both were applied
  pub both_applied : (old mid new : S) (out_old out_mid out_new : O) (r q : Result Report TargetError) (so_far given : Status) → IsSync store source first None mode now old mid (Some (answer_of_target first.files.kind r))
      → Tells sink out_old out_mid (answer_line first.files.kind (Some (answer_of_target first.files.kind r))) (answer_status (Some (answer_of_target first.files.kind r))) so_far → (IsAtOnce so_far → ⊥)
      → IsSync store source second None mode now mid new (Some (answer_of_target second.files.kind q)) → (store.tells → IfErr (answer_of_target second.files.kind q) (IsLate source second mode now (store.disk mid).files))
      → TellsBehind sink out_mid out_new so_far second.files.kind (Some (answer_of_target second.files.kind q)) given → Goes old new out_old out_new given
  both_applied old mid new out_old out_mid out_new r q so_far given sync told never other late more =
      let one : Answer = Some (answer_of_target first.files.kind r) in
      let two : Answer = Some (answer_of_target second.files.kind q) in
      let line : List ℕ = answer_line first.files.kind one in
      record {
        one = one;
        two = two;
        second_first = false;
        synced = first_second store source first second laws mode now old mid new one two sync other (λ tells. inr (late_before tells two (late_answer source second mode now (store.disk mid).files (answer_of_target second.files.kind q) (late tells)))) (inr (told_late (answer_of_target second.files.kind q) (known_of_apply second.files.kind q)));
        phases = record {
          at_once = λ is. absurd (no_end so_far one (given_due sink out_old out_mid line (answer_status one) so_far told never) never is);
          ended = λ is. absurd (applied_reads first.files.kind r is);
          unread = λ tells either. ⊎_elim (λ is. absurd (applied_reads first.files.kind r is)) (λ is. absurd (applied_reads second.files.kind q is)) either;
          first_left = λ tells is. absurd (applied_reads second.files.kind q is);
          second_left = λ tells is. absurd (applied_reads first.files.kind r is);
          untouched = λ tells is. absurd (cc is);
          went = λ tells some. went_on sink out_old out_mid out_new line (answer_status one) so_far second.files.kind two given told never more tells;
          first_answered = λ is. absurd (cc is);
          looked = λ tells is. absurd (cc is);
          second_answered = λ is. absurd (cc is);
        };
        told = told_two sink out_old out_mid out_new line (answer_status one) so_far second.files.kind two given told never more;
      }
    where
      source_same : store.tells → SameIn (folder_of source.kind) (store.disk mid).files (store.disk old).files
      source_same tells = same_back (folder_of source.kind) (store.disk old).files (store.disk mid).files (folder_stays store source.kind first.files.kind laws.far old mid sync.alone tells)

      second_same : store.tells → SameIn (folder_of second.files.kind) (store.disk mid).files (store.disk old).files
      second_same tells = same_back (folder_of second.files.kind) (store.disk old).files (store.disk mid).files (folder_stays store second.files.kind first.files.kind (λ is. laws.apart (sym is)) old mid sync.alone tells)

      late_before : store.tells → (answer : Answer) → CameLate source second mode now (store.disk mid).files answer → CameLate source second mode now (store.disk old).files answer
      late_before tells None is = tt
      late_before tells (Some (Ok report)) is = tt
      late_before tells (Some (Err e)) is = late_own source second mode now (store.disk mid).files (store.disk old).files
          (unfit_own source laws.source_laws laws.fault_laws second laws.second_own mode now (store.disk mid).files (store.disk old).files (source_same tells) (second_same tells))
          (passed_own source laws.source_laws laws.fault_laws second laws.second_own mode now (store.disk mid).files (store.disk old).files (source_same tells) (second_same tells)) e is
