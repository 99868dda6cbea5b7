-- A sync of one target behind or before the changes of another one in its own folder.
use Rattle.std.proofs.Common.{◌≡◌, ◌⊎◌, inl, inr, ℕ, ◌+◌, ◌≤◌, List, length, take, Some, None, refl, sym, subst, ◌∙◌, arith}
use Rattle.std.specs.Prelude.{Ok, Err}
use Rattle.lake_store.specs.Cause.{HasFault, Rose}
use Rattle.lake_store.specs.Disk.{Disk, Files, MayLeave}
use Rattle.lake_store.specs.Runs.{IsEachMoment, IsIn, KeepsImage, LeavesAlone, OnlyReads}
use Rattle.lake_store.specs.declared.store.Store.{Ghosts}
use Rattle.lake_store.proofs.MomentLaws.{goes_further, weaker}
use Rattle.lake_store.proofs.RunLaws.{NowOnly, alone_by_reading, alone_further, alone_of_fewer}
use Rattle.table_history.specs.declared.kind.Kind.{Kind}
use Rattle.table_history.specs.declared.limit.LimitKind.{LimitKind}
use Rattle.table_history.specs.declared.table.Commit.{Commit}
use Rattle.target_core.specs.Folders.{MayLeaveIn, SameIn, after_crash, folder_of}
use Rattle.target_core.specs.OwnFiles.{MayNotTouch, TouchesOwn}
use Rattle.target_core.specs.Gained.{Gained}
use Rattle.target_core.specs.Meaning.{Meaning}
use Rattle.target_core.specs.Views.{Origin, View, standing_at}
use Rattle.target_core.specs.Written.{HasReached, IsAsLeft, KeepsTheirs, StayAfter}
use Rattle.target_core.proofs.Apart.{apart_untouched}
use Rattle.target_core.proofs.Same.{same_refl}
use Rattle.target_core.proofs.Steps.{count_taken}
use Rattle.target_sync.specs.Answered.{Answer, IsDone, IsOverAtFirst, IsReady, IsReported, IsSync, IsUndisturbed, Leaves, StopsSo}
use Rattle.target_sync.specs.Applied.{StayShown}
use Rattle.target_sync.specs.Dues.{origin_of}
use Rattle.target_sync.specs.Others.{NeitherTouches}
use Rattle.target_sync.specs.Sources.{SourceMeaning}
use Rattle.target_sync.specs.Synced.{IsAsBefore, IsAsBeforeOrUnderway, IsAtHead, IsContested, IsLimited, IsUnderway, Synced, with_columns}
use Rattle.target_sync.specs.Targets.{TargetFacts}
use Rattle.target_sync.specs.declared.plan.Mode.{Mode}
use Rattle.target_sync.specs.declared.status.Status.TheVariants as status
use Rattle.target_sync.proofs.Applying.{CrashLaws}
use Rattle.target_sync.proofs.Counting.{fails_then, rose_from}
use Rattle.target_sync.proofs.Following.{caused_as, source_of_others}
use Rattle.target_sync.proofs.Mixing.{whole_image, whole_may_leave, whole_same}
use Rattle.target_sync.proofs.Owning.{FaultLaws, OwnLaws, absent_of_two, absent_own, at_head_own, at_head_since, can_own, caused_own, due_own, either_own, either_since, gained_own, gained_since, over_own, same_back, stands_at_head, status_own}
use Rattle.target_sync.proofs.Sizes.{StaysShort, short_further}
use Rattle.target_sync.proofs.Standing.{SourceLaws}

-- what may be left now may be left since any time before
abbrev pub NowCounts : {S : Type 0} → Ghosts S → Type 0
NowCounts {S} store = (s : S) (t : ℕ) (image : Files) → store.tells → t ≤ store.time s → MayLeave (store.disk s) image → store.left_since s t image

-- a run that was refused, and another one behind it
pub fails_before : {S : Type 0} (count : S → ℕ) (may : S → Type 0) (old mid new : S) (A B : Type 0) → HasFault count may old mid A → HasFault count may mid new B → HasFault count may old new A
fails_before count may old mid new A B run more =
    let one = run.later in
    let two = more.later in
    record {
      later = omega (arith, one, two);
      still = λ m. run.still (more.still m);
      rose = λ a. rose_on (count old) (count mid) (count new) two (run.rose a);
      allowed = run.allowed;
    }
  where
    rose_on : (a b c : ℕ) → b ≤ c → Rose a b → Rose a c
    rose_on a b c le rose = omega (arith, le, rose)

-- ---- what a crash leaves of a settled target

module _ (source : SourceMeaning) (target : Meaning) (crash : CrashLaws target) (mode : Mode) (start : View) (before : Files) (disk : Disk) (image : Files) (settled : target.settled disk) (may : MayLeaveIn (folder_of target.kind) disk image) where
  pub as_before_left : IsAsBefore target start before disk.files → IsAsBefore target start before image
  as_before_left is =
      let count : start.commits ≡ is.view.commits = is.same.commits in
      record {
        view = is.view;
        same = is.same;
        reads = crash.reads disk image is.view settled may is.reads;
        earlier = λ c change m within was.
            let le : c ≤ is.view.commits = omega (arith, count, within) in
            crash.carries disk image is.view c change m settled may is.reads le (is.earlier c change m within was);
      }

  gained_left : (origin : Origin) (here : View) (commits : List Commit) (n : ℕ) → Gained target origin here before commits n disk.files → Gained target origin here before commits n image
  gained_left origin here commits n gained =
      let view : View = gained.view in
      let count : view.commits ≡ here.commits + n = count_taken target.image origin here commits n view gained.leads gained.within in
      record {
        within = gained.within;
        view = view;
        leads = gained.leads;
        stands = crash.reads disk image view settled may gained.stands;
        each = λ i commit within at.
            let le : here.commits + i + 1 ≤ view.commits = omega (arith, count, within) in
            crash.carries disk image view (here.commits + i + 1) commit.change (standing_at origin commit.position) settled may gained.stands le (gained.each i commit within at);
        earlier = λ c change m within was.
            let le : c ≤ view.commits = omega (arith, count, within) in
            crash.carries disk image view c change m settled may gained.stands le (gained.earlier c change m within was);
      }

  underway_left : IsUnderway source target mode start before disk.files → IsUnderway source target mode start before image
  underway_left is = record {
    due = is.due;
    columns = is.columns;
    gained = record { count = is.gained.count; gained = gained_left (origin_of is.due) (with_columns is.due.partition start) is.due.commits is.gained.count is.gained.gained };
  }

  pub either_left : IsAsBeforeOrUnderway source target mode start before disk.files → IsAsBeforeOrUnderway source target mode start before image
  either_left (inl is) = inl (as_before_left is)
  either_left (inr is) = inr (underway_left is)

  pub at_head_left : IsAtHead source target mode start before disk.files → IsAtHead source target mode start before image
  unfolding gained_left
  at_head_left is = record {
    due = is.due;
    columns = is.columns;
    gained = gained_left (origin_of is.due) (with_columns is.due.partition start) is.due.commits (length is.due.commits) is.gained;
    position = is.position;
    in_full = is.in_full;
  }

-- a target that is done was in no other writer's way
undisturbed : (answer : Answer) → IsDone answer → IsUndisturbed answer
undisturbed None done = absurd done
undisturbed (Some (Ok report)) done = tt
undisturbed (Some (Err e)) done = absurd done

module _ {S : Type 0} (store : Ghosts S) (only_now : NowOnly store) (now_counts : NowCounts store) (source : SourceMeaning) (laws : SourceLaws source) (faults : FaultLaws source) (target : TargetFacts) (crash : CrashLaws target.files) (own : OwnLaws target)
    (other : Kind) (apart : other ≡ target.files.kind → ⊥) (mode : Mode) (now : ℕ) where
  abbrev folder : List ℕ
  folder = folder_of target.files.kind

  abbrev passes_now : Files → List (List ℕ) → Origin → List Commit → LimitKind → ℕ → Type 0
  passes_now files partition origin = target.passes files partition origin now

  untouched : (path : List ℕ) → IsIn folder path → MayNotTouch other path
  untouched = apart_untouched target.files.kind other apart

  abbrev IsEither : View → Files → Files → Type 0
  IsEither start before image = IsAsBeforeOrUnderway source target.files mode start before image × target.files.settled (after_crash image)

  -- what changes the other's files alone
  module _ (from to : S) (run : TouchesOwn store other from to) where
    same : SameIn folder (store.disk from).files (store.disk to).files
    same path mine = run.disk.files path (untouched path mine)

    settled_on : target.files.settled (store.disk from) → target.files.settled (store.disk to)
    settled_on settled = own.settled (store.disk from) (store.disk to) same (λ path mine clean. run.disk.clean path (untouched path mine) clean) settled

    left_in : (image : Files) → KeepsImage (MayNotTouch other) (store.disk from) image → MayLeaveIn folder (store.disk from) image
    left_in image kept path mine clean = kept path (untouched path mine) clean

    bytes_kept : (reached : List ℕ → Type 0) → ((path : List ℕ) → reached path → IsIn folder path) → LeavesAlone store reached from to
    bytes_kept reached inside = alone_of_fewer store (MayNotTouch other) reached from to (λ path is. untouched path (inside path is)) run

    both_kept : LeavesAlone store (NeitherTouches target.files.kind other) from to
    both_kept = alone_of_fewer store (MayNotTouch other) (NeitherTouches target.files.kind other) from to (λ path both. both.1) run

  -- ---- the other's changes come behind

  module _ (old mid new : S) (answer : Answer) (sync : IsSync store source target None mode now old mid answer) (run : store.tells → TouchesOwn store other mid new) (more : store.tells → StaysShort store mid new)
      (A B : Type 0) (fault : HasFault store.faults store.may_fail mid new A) (contest : HasFault store.contests store.may_contest mid new B) where
    abbrev before : Files
    before = (store.disk old).files

    reported_on : store.tells → (start : View) (Settled : Type 0) (given : Answer) → IsReported source target None mode now start Settled before (store.disk mid).files given → IsReported source target (Some other) mode now start Settled before (store.disk new).files given
    reported_on told start Settled None is = tt
    reported_on told start Settled (Some (Err e)) is = tt
    reported_on told start Settled (Some (Ok report)) is = record {
      due = is.due;
      columns = is.columns;
      last = is.last;
      leads = is.leads;
      in_full = is.in_full;
      way = is.way;
      published = is.published;
      distinct = is.distinct;
      files_are = is.files_are;
      position = is.position;
      reads = λ settled. own.reads (store.disk mid).files (store.disk new).files is.last (same mid new (run told)) (is.reads settled);
      gained = λ settled. gained_own source target own mode start before (store.disk mid).files (store.disk new).files (same mid new (run told)) (origin_of is.due) (with_columns is.due.partition start) is.due.commits (length is.due.commits) (is.gained settled);
      written = λ settled. (before, (store.disk mid).files, (λ path mine. refl), same mid new (run told), is.written settled);
    }

    idle_on : store.tells → OnlyReads store old mid → TouchesOwn store other old new
    idle_on told idle = alone_further store (MayNotTouch other) old mid new (λ t. alone_by_reading store (MayNotTouch other) old mid idle) run told

    alone_on : store.tells → LeavesAlone store (NeitherTouches target.files.kind other) old new
    alone_on told = alone_further store (NeitherTouches target.files.kind other) old mid new
        (λ t. alone_of_fewer store (MayNotTouch target.files.kind) (NeitherTouches target.files.kind other) old mid (λ path both. both.0) (sync.alone t)) (λ t. both_kept mid new (run t)) told

    module _ (told : store.tells) (start : View) (ready : IsReady source target before start (target.files.settled (store.disk old))) where
      was : Synced store source target.files mode start (IsUndisturbed answer) (IsDone answer) old mid
      was = sync.synced told start ready

      moments_on : IsUndisturbed answer → IsEachMoment store old new (IsEither start before)
      moments_on u =
          let settled : target.files.settled (store.disk mid) = was.settled u in
          goes_further store old mid new (IsEither start before) (λ t. was.moments u)
          (weaker store mid new (KeepsImage (MayNotTouch other) (store.disk mid)) (IsEither start before)
          (λ image kept.
          let may : MayLeaveIn folder (store.disk mid) image = left_in mid new (run told) image kept in (
            either_left source target.files crash mode start before (store.disk mid) image settled may (was.at_return u),
            crash.settled (store.disk mid) image settled may,
          )) (λ t. (run t).moments)) told

      done_on : IsDone answer → IsAtHead source target.files mode start before (store.disk new).files
      done_on d = at_head_own source target own mode start before (store.disk mid).files (store.disk new).files (same mid new (run told)) (was.done d)

      synced_on : Synced store source target.files mode start (IsUndisturbed answer) (IsDone answer) old new
      synced_on = record {
        at_return = λ u. either_own source target own mode start before (store.disk mid).files (store.disk new).files (same mid new (run told)) (was.at_return u);
        settled = λ u. settled_on mid new (run told) (was.settled u);
        moments = moments_on;
        done = done_on;
        since = λ d image left.
            let may : MayLeave (store.disk new) image = only_now new image told left in
            at_head_left source target.files crash mode start before (store.disk new) image (settled_on mid new (run told) (was.settled (undisturbed answer d))) (λ path mine clean. may path clean) (done_on d);
        earlier = λ c change m le held. own.carries (store.disk mid).files (store.disk new).files c change m (same mid new (run told)) (was.earlier c change m le held);
        bytes = alone_further store (target.files.reached before) old mid new (λ t. was.bytes) (λ t. bytes_kept mid new (run t) (target.files.reached before) (own.reached_in before)) told;
      }

      -- what a crash shows of the target while the other is changed, it might have shown at once
      shown_on : (origin : Origin) (count : ℕ) (commits : List Commit) → IsEachMoment store old mid (StayShown target.files origin count commits (store.disk mid).files) → IsEachMoment store old new (StayShown target.files origin count commits (store.disk new).files)
      shown_on origin count commits stay =
          let Stay : Files → Files → Type 0 = StayShown target.files origin count commits in
          let on : (image : Files) → Stay (store.disk mid).files image → Stay (store.disk new).files image
          = λ image here i shown. let at = here i shown in (at.0, at.1, own.carries (store.disk mid).files (store.disk new).files (count + i + 1) at.0.change (standing_at origin at.0.position) (same mid new (run told)) at.2) in
          goes_further store old mid new (Stay (store.disk new).files)
          (weaker store old mid (Stay (store.disk mid).files) (Stay (store.disk new).files) on (λ t. stay))
          (weaker store mid new (KeepsImage (MayNotTouch other) (store.disk mid)) (Stay (store.disk new).files)
          (λ image kept i shown.
          let whole : Files = whole_image (store.disk mid) image in
          let alike : SameIn folder image whole = whole_same (store.disk mid) image folder (left_in mid new (run told) image kept) in
          let left : Stay (store.disk mid).files whole = stay.each whole (now_counts mid (store.time old) whole told stay.later (whole_may_leave (store.disk mid) image)) in
          on whole left i (shown.0, shown.1, own.carries image whole (count + i + 1) shown.0.change (standing_at origin shown.0.position) alike shown.2))
          (λ t. (run t).moments)) told

      -- What a crash shows of what is reached while the other is changed, it might have shown at once.
      theirs_on : (middle : S) → KeepsTheirs store target.files middle mid → KeepsTheirs store target.files middle new
      theirs_on middle theirs =
          let came = theirs.came in
          let later : store.contests mid ≤ store.contests new = contest.later in
          let on : (image : Files) → HasReached target.files (store.disk mid).files image → HasReached target.files (store.disk new).files image
          = λ image has path reached. same mid new (run told) path (own.reached_in image path reached) ∙ has path reached in
          record {
            came = omega (arith, later, came);
            stay = goes_further store middle mid new (HasReached target.files (store.disk new).files)
                (weaker store middle mid (HasReached target.files (store.disk mid).files) (HasReached target.files (store.disk new).files) on (λ t. theirs.stay))
                (weaker store mid new (KeepsImage (MayNotTouch other) (store.disk mid)) (HasReached target.files (store.disk new).files)
                (λ image kept path reached.
                let whole : Files = whole_image (store.disk mid) image in
                let alike : SameIn folder image whole = whole_same (store.disk mid) image folder (left_in mid new (run told) image kept) in
                let has : HasReached target.files (store.disk mid).files whole = theirs.stay.each whole (now_counts mid (store.time middle) whole told theirs.stay.later (whole_may_leave (store.disk mid) image)) in
                on whole has path (own.reached_stays image whole (λ q held. alike q (own.reached_in image q held)) path reached) ∙ alike path (own.reached_in image path reached))
                (λ t. (run t).moments)) told;
          }

      -- what was left stays while the other is changed
      abbrev stay_on : (partition : List (List ℕ)) (origin : Origin) (commits : List Commit) → StayAfter store target.files (Leaves target None now before partition origin commits) mid → StayAfter store target.files (Leaves target (Some other) now before partition origin commits) new
      stay_on partition origin commits is =
          let reached : List ℕ → Type 0 = target.files.reached (store.disk is.middle).files in
          record {
            middle = is.middle;
            left = (before, (store.disk is.middle).files, (λ path mine. refl), (λ path mine. refl), is.left);
            stay = alone_further store reached is.middle mid new (λ t. is.stay) (λ t. bytes_kept mid new (run t) reached (own.reached_in (store.disk is.middle).files)) told;
          }

      left_on : (partition : List (List ℕ)) (origin : Origin) (commits : List Commit) (files : Files) → SameIn folder (store.disk mid).files files → Leaves target None now before partition origin commits (store.disk mid).files → Leaves target (Some other) now before partition origin commits files
      left_on partition origin commits files here is = (before, (store.disk mid).files, (λ path mine. refl), here, is)

      as_left_on : (partition : List (List ℕ)) (origin : Origin) (commits : List Commit) → IsAsLeft target.files.reached (Leaves target None now before partition origin commits) (store.disk mid).files → IsAsLeft target.files.reached (Leaves target (Some other) now before partition origin commits) (store.disk new).files
      as_left_on partition origin commits is = (is.0, (before, is.0, (λ path mine. refl), (λ path mine. refl), is.1), λ path reached. same mid new (run told) path (own.reached_in is.0 path reached) ∙ is.2 path reached)

      contested_on : IsContested store source target.files (Leaves target None now) mode start before old mid → IsContested store source target.files (Leaves target (Some other) now) mode start before old new
      contested_on is = record {
        due = is.due;
        columns = is.columns;
        place = is.place;
        within = is.within;
        published = λ i commit below at. own.carries (store.disk mid).files (store.disk new).files (start.commits + i + 1) commit.change (standing_at (origin_of is.due) commit.position) (same mid new (run told)) (is.published i commit below at);
        left = stay_on is.due.partition (origin_of is.due) (take is.place is.due.commits) is.left;
        newest = subst (λ (n : ℕ). n ≤ start.commits + is.place + 1) (sym (own.commits (store.disk mid).files (store.disk new).files (same mid new (run told)))) is.newest;
        stay = shown_on (origin_of is.due) start.commits is.due.commits is.stay;
        theirs = theirs_on is.left.middle is.theirs;
      }

      limited_on : (which : LimitKind) (number : ℕ) → (OnlyReads store old mid × IsOverAtFirst source target mode now before which number) ⊎ IsLimited store source target.files passes_now (Leaves target None now) mode start before mid which number
          → (TouchesOwn store other old new × IsOverAtFirst source target mode now before which number) ⊎ IsLimited store source target.files passes_now (Leaves target (Some other) now) mode start before new which number
      limited_on which number (inl idle) = inl (idle_on told idle.0, idle.1)
      limited_on which number (inr is) = inr (record {
        due = is.due;
        columns = is.columns;
        place = is.place;
        within = is.within;
        passed = is.passed;
        left = stay_on is.due.partition (origin_of is.due) (take is.place is.due.commits) is.left;
        gained = gained_own source target own mode start before (store.disk mid).files (store.disk new).files (same mid new (run told)) (origin_of is.due) (with_columns is.due.partition start) is.due.commits is.place is.gained;
        untouched = λ names.
            let left = is.untouched names in
            (left.0, left_on is.due.partition (origin_of is.due) (take is.place is.due.commits) (store.disk new).files (same mid new (run told)) left.1);
      })

      stopped_on : (given : Answer) → StopsSo store source target None mode now start old mid given → StopsSo store source target (Some other) mode now start old new given
      stopped_on None is = tt
      stopped_on (Some (Ok report)) is = tt
      stopped_on (Some (Err e)) (inl idle) = inl (idle_on told idle)
      stopped_on (Some (Err e)) (inr is) = inr (record {
        due = is.due;
        columns = is.columns;
        place = is.place;
        within = is.within;
        left = stay_on is.due.partition (origin_of is.due) (take is.place is.due.commits) is.left;
        gained = λ u.
            let some = is.gained u in (
              some.0,
              some.1,
              some.2,
              gained_own source target own mode start before (store.disk mid).files (store.disk new).files (same mid new (run told)) (origin_of is.due) (with_columns is.due.partition start) is.due.commits some.0 some.3,
              as_left_on is.due.partition (origin_of is.due) (take some.0 is.due.commits) some.4,
            );
      })

    pub beside_behind : IsSync store source target (Some other) mode now old new answer
    beside_behind = record {
      alone = alone_on;
      short = short_further store old mid new sync.short more;
      source_stays = λ told far clean. source_of_others store source laws target.files.kind (Some other) old new told far (alone_on told) clean;
      synced = synced_on;
      reported = λ told start reads goes. reported_on told start (target.files.settled (store.disk old)) answer (sync.reported told start reads goes);
      in_full = sync.in_full;
      still = λ told mode_is done start reads goes at. idle_on told (sync.still told mode_is done start reads goes at);
      contested = λ told is start ready. contested_on told start ready (sync.contested told is start ready);
      limited = λ told which number is start ready. limited_on told start ready which number (sync.limited told which number is start ready);
      stopped = λ told start ready. stopped_on told start ready answer (sync.stopped told start ready);
      few = sync.few;
      caused = λ told. caused_as (OnlyReads store old mid) (TouchesOwn store other old new) (idle_on told) source target mode now before answer (sync.caused told);
      absent = λ told is. absent_of_two other source before answer (sync.absent told is);
      foreign = sync.foreign;
      fault = fails_before store.faults store.may_fail old mid new (answer ≡ Some (Err status.StoreFault)) A sync.fault fault;
      contest = fails_before store.contests store.may_contest old mid new (answer ≡ Some (Err (status.Contested target.files.kind))) B
          (record { later = sync.contest.later; still = sync.contest.still; rose = sync.contest.rose; allowed = sync.contest.allowed }) contest;
      complete = λ told can no_fault no_contest. sync.complete told can (λ rose. no_fault (rose_on (store.faults old) (store.faults mid) (store.faults new) fault.later rose)) no_contest;
    }
      where
        rose_on : (a b c : ℕ) → b ≤ c → Rose a b → Rose a c
        rose_on a b c le rose = omega (arith, le, rose)

  -- ---- the other's changes came before

  module _ (far : source.kind ≡ other → ⊥) (old mid new : S) (answer : Answer) (sync : IsSync store source target None mode now mid new answer) (run : store.tells → TouchesOwn store other old mid) (before_it : store.tells → StaysShort store old mid)
      (A B : Type 0) (fault : HasFault store.faults store.may_fail old mid A) (contest : HasFault store.contests store.may_contest old mid B) where
    abbrev first : Files
    first = (store.disk old).files

    abbrev middle : Files
    middle = (store.disk mid).files

    idle_since : store.tells → OnlyReads store mid new → TouchesOwn store other old new
    idle_since told idle = alone_further store (MayNotTouch other) old mid new run (λ t. alone_by_reading store (MayNotTouch other) mid new idle) told

    alone_since : store.tells → LeavesAlone store (NeitherTouches target.files.kind other) old new
    alone_since told = alone_further store (NeitherTouches target.files.kind other) old mid new (λ t. both_kept old mid (run t))
        (λ t. alone_of_fewer store (MayNotTouch target.files.kind) (NeitherTouches target.files.kind other) mid new (λ path both. both.0) (sync.alone t)) told

    module _ (told : store.tells) where
      here : SameIn folder first middle
      here = same old mid (run told)

      back : SameIn folder middle first
      back = same_back folder first middle here

      source_here : SameIn (folder_of source.kind) first middle
      source_here path mine = (run told).disk.files path (apart_untouched source.kind other (λ is. far (sym is)) path mine)

      source_back : SameIn (folder_of source.kind) middle first
      source_back = same_back (folder_of source.kind) first middle source_here

    reads_mid : store.tells → (start : View) → target.files.reads first start → target.files.reads middle start
    reads_mid told start reads = own.reads first middle start (here told) reads

    reported_since : store.tells → (start : View) (Settled Before : Type 0) → (Before → Settled) → (given : Answer) → IsReported source target None mode now start Settled middle (store.disk new).files given
        → IsReported source target (Some other) mode now start Before first (store.disk new).files given
    unfolding due_own
    reported_since told start Settled Before from None is = tt
    reported_since told start Settled Before from (Some (Err e)) is = tt
    reported_since told start Settled Before from (Some (Ok report)) is = record {
      due = due_own source laws middle first (source_back told) mode start is.due;
      columns = is.columns;
      last = is.last;
      leads = is.leads;
      in_full = λ full.
          let has = is.in_full full in
          record { table = has.table; is_table = laws.table_own middle first has.table (source_back told) has.is_table; rows = has.rows; partition = has.partition; schema = has.schema };
      way = is.way;
      published = is.published;
      distinct = is.distinct;
      files_are = is.files_are;
      position = is.position;
      reads = λ settled. is.reads (from settled);
      gained = λ settled. gained_since source laws target own mode start middle first (store.disk new).files (source_back told) (here told) (origin_of is.due) (with_columns is.due.partition start) is.due.commits (length is.due.commits) (is.gained (from settled));
      written = λ settled. (middle, (store.disk new).files, here told, (λ path mine. refl), is.written (from settled));
    }

    module _ (told : store.tells) (start : View) (ready : IsReady source target first start (target.files.settled (store.disk old))) where
      ready_mid : IsReady source target middle start (target.files.settled (store.disk mid))
      ready_mid = record { reads = reads_mid told start ready.reads; goes_on = ready.goes_on; settled = settled_on old mid (run told) ready.settled }

      did : Synced store source target.files mode start (IsUndisturbed answer) (IsDone answer) mid new
      did = sync.synced told start ready_mid

      either_first : (image : Files) → IsAsBeforeOrUnderway source target.files mode start middle image → IsAsBeforeOrUnderway source target.files mode start first image
      either_first image is = either_since source laws target own mode start middle first image (source_back told) (here told) is

      head_first : (image : Files) → IsAtHead source target.files mode start middle image → IsAtHead source target.files mode start first image
      head_first image is = at_head_since source laws target own mode start middle first image (source_back told) (here told) is

      moments_since : IsUndisturbed answer → IsEachMoment store old new (IsEither start first)
      moments_since u =
          goes_further store old mid new (IsEither start first)
          (weaker store old mid (KeepsImage (MayNotTouch other) (store.disk old)) (IsEither start first)
          (λ image kept.
          let may : MayLeaveIn folder (store.disk old) image = left_in old mid (run told) image kept in
          let as_before : IsAsBefore target.files start first image = record {
            view = start;
            same = same_refl start;
            reads = crash.reads (store.disk old) image start ready.settled may ready.reads;
            earlier = λ c change m le held. crash.carries (store.disk old) image start c change m ready.settled may ready.reads le held;
          } in
          (inl as_before, crash.settled (store.disk old) image ready.settled may)) (λ t. (run t).moments))
          (weaker store mid new (IsEither start middle) (IsEither start first) (λ image is. (either_first image is.0, is.1)) (λ t. did.moments u)) told

      synced_since : Synced store source target.files mode start (IsUndisturbed answer) (IsDone answer) old new
      synced_since = record {
        at_return = λ u. either_first (store.disk new).files (did.at_return u);
        settled = did.settled;
        moments = moments_since;
        done = λ d. head_first (store.disk new).files (did.done d);
        since = λ d image left. head_first image (did.since d image left);
        earlier = λ c change m le held. did.earlier c change m le (own.carries first middle c change m (here told) held);
        bytes = alone_further store (target.files.reached first) old mid new (λ t. bytes_kept old mid (run t) (target.files.reached first) (own.reached_in first))
            (λ t. alone_of_fewer store (target.files.reached middle) (target.files.reached first) mid new
            (λ path reached. own.reached_stays first middle (λ q held. here told q (own.reached_in first q held)) path reached) did.bytes) told;
      }

      shown_since : (origin : Origin) (commits : List Commit) → IsEachMoment store mid new (StayShown target.files origin start.commits commits (store.disk new).files) → IsEachMoment store old new (StayShown target.files origin start.commits commits (store.disk new).files)
      shown_since origin commits stay =
          goes_further store old mid new (StayShown target.files origin start.commits commits (store.disk new).files)
          (weaker store old mid (KeepsImage (MayNotTouch other) (store.disk old)) (StayShown target.files origin start.commits commits (store.disk new).files)
          (λ image kept i shown.
          let may : MayLeaveIn folder (store.disk old) image = left_in old mid (run told) image kept in
          let le : start.commits + i + 1 ≤ start.commits = crash.within image start (start.commits + i + 1) shown.0.change (standing_at origin shown.0.position) (crash.reads (store.disk old) image start ready.settled may ready.reads) shown.2 in
          absurd (omega (arith, le))) (λ t. (run t).moments))
          (λ t. stay) told

      -- what was left over the other's files was left over the first ones
      left_since : (partition : List (List ℕ)) (origin : Origin) (commits : List Commit) (files : Files) → Leaves target None now middle partition origin commits files → Leaves target (Some other) now first partition origin commits files
      left_since partition origin commits files is = (middle, files, here told, (λ path mine. refl), is)

      abbrev stay_since : (partition : List (List ℕ)) (origin : Origin) (commits : List Commit) → StayAfter store target.files (Leaves target None now middle partition origin commits) new → StayAfter store target.files (Leaves target (Some other) now first partition origin commits) new
      stay_since partition origin commits is = record { middle = is.middle; left = left_since partition origin commits (store.disk is.middle).files is.left; stay = is.stay }

      contested_since : IsContested store source target.files (Leaves target None now) mode start middle mid new → IsContested store source target.files (Leaves target (Some other) now) mode start first old new
      unfolding due_own
      contested_since is = record {
        due = due_own source laws middle first (source_back told) mode start is.due;
        columns = is.columns;
        place = is.place;
        within = is.within;
        published = is.published;
        left = stay_since is.due.partition (origin_of is.due) (take is.place is.due.commits) is.left;
        newest = is.newest;
        stay = shown_since (origin_of is.due) is.due.commits is.stay;
        theirs = is.theirs;
      }

      limited_since : (which : LimitKind) (number : ℕ) → (OnlyReads store mid new × IsOverAtFirst source target mode now middle which number) ⊎ IsLimited store source target.files passes_now (Leaves target None now) mode start middle new which number
          → (TouchesOwn store other old new × IsOverAtFirst source target mode now first which number) ⊎ IsLimited store source target.files passes_now (Leaves target (Some other) now) mode start first new which number
      unfolding due_own
      limited_since which number (inl idle) = inl (idle_since told idle.0, over_own source laws faults target own mode now middle first (source_back told) (back told) which number idle.1)
      limited_since which number (inr is) = inr (record {
        due = due_own source laws middle first (source_back told) mode start is.due;
        columns = is.columns;
        place = is.place;
        within = is.within;
        passed = own.passes middle first is.due.partition (origin_of is.due) now _ which number (back told) is.passed;
        left = stay_since is.due.partition (origin_of is.due) (take is.place is.due.commits) is.left;
        gained = gained_since source laws target own mode start middle first (store.disk new).files (source_back told) (here told) (origin_of is.due) (with_columns is.due.partition start) is.due.commits is.place is.gained;
        untouched = λ names.
            let left = is.untouched names in
            (left.0, left_since is.due.partition (origin_of is.due) (take is.place is.due.commits) (store.disk new).files left.1);
      })

      stopped_since : (given : Answer) → StopsSo store source target None mode now start mid new given → StopsSo store source target (Some other) mode now start old new given
      unfolding due_own
      stopped_since None is = tt
      stopped_since (Some (Ok report)) is = tt
      stopped_since (Some (Err e)) (inl idle) = inl (idle_since told idle)
      stopped_since (Some (Err e)) (inr is) = inr (record {
        due = due_own source laws middle first (source_back told) mode start is.due;
        columns = is.columns;
        place = is.place;
        within = is.within;
        left = stay_since is.due.partition (origin_of is.due) (take is.place is.due.commits) is.left;
        gained = λ u.
            let some = is.gained u in (
              some.0,
              some.1,
              some.2,
              gained_since source laws target own mode start middle first (store.disk new).files (source_back told) (here told) (origin_of is.due) (with_columns is.due.partition start) is.due.commits some.0 some.3,
              (some.4.0, left_since is.due.partition (origin_of is.due) (take some.0 is.due.commits) some.4.0 some.4.1, some.4.2),
            );
      })

    pub beside_before : IsSync store source target (Some other) mode now old new answer
    beside_before = record {
      alone = alone_since;
      short = short_further store old mid new before_it sync.short;
      source_stays = λ told clear clean. source_of_others store source laws target.files.kind (Some other) old new told clear (alone_since told) clean;
      synced = synced_since;
      reported = λ told start reads goes. reported_since told start (target.files.settled (store.disk mid)) (target.files.settled (store.disk old)) (settled_on old mid (run told)) answer (sync.reported told start (reads_mid told start reads) goes);
      in_full = sync.in_full;
      still = λ told mode_is done start reads goes at. idle_since told (sync.still told mode_is done start (reads_mid told start reads) goes (stands_at_head source laws first middle (source_here told) start at));
      contested = λ told is start ready. contested_since told start ready (sync.contested told is start (ready_mid told start ready));
      limited = λ told which number is start ready. limited_since told start ready which number (sync.limited told which number is start (ready_mid told start ready));
      stopped = λ told start ready. stopped_since told start ready answer (sync.stopped told start (ready_mid told start ready));
      few = sync.few;
      caused = λ told. caused_own source laws faults target own mode now middle first (source_back told) (back told) (TouchesOwn store other old new) answer
          (caused_as (OnlyReads store mid new) (TouchesOwn store other old new) (idle_since told) source target mode now middle answer (sync.caused told));
      absent = λ told is. absent_of_two other source first answer
          (absent_own source laws faults target own mode now middle first (source_back told) (back told) answer (sync.absent told (laws.absent_own first middle (source_here told) is)));
      foreign = λ told path is. status_own source laws faults target own mode now middle first (source_back told) (back told) (status.Foreign target.files.kind path) answer
          (sync.foreign told path (own.foreign first middle source.kind path (here told) is));
      fault = fails_then store.faults store.may_fail old mid new A (answer ≡ Some (Err status.StoreFault)) fault sync.fault;
      contest = fails_then store.contests store.may_contest old mid new B (answer ≡ Some (Err (status.Contested target.files.kind))) contest
          (record { later = sync.contest.later; still = sync.contest.still; rose = sync.contest.rose; allowed = sync.contest.allowed });
      complete = λ told can no_fault no_contest. sync.complete told (can_own source laws faults target own mode now first middle (source_here told) (here told) can)
          (λ rose. no_fault (rose_from (store.faults old) (store.faults mid) (store.faults new) fault.later rose)) no_contest;
    }
