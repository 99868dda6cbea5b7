-- A sync behind a run that only read.
use Rattle.std.proofs.Common.{◌≡◌, ◌⊎◌, ⊎_elim, ℕ, List, Option, Some, Ok, Err, None, sym, subst, inl, inr, arith}
use Rattle.lake_store.specs.Cause.{HasFault}
use Rattle.lake_store.specs.Disk.{Disk, Files, IsClean}
use Rattle.lake_store.specs.Runs.{FailsBy, IsIn, IsUncontestedBy, OnlyReads}
use Rattle.lake_store.specs.declared.store.Store.{Ghosts}
use Rattle.lake_store.proofs.RunLaws.{alone_by_reading, alone_further, reading_further}
use Rattle.table_history.specs.declared.kind.Kind.{Kind}
use Rattle.table_history.specs.declared.limit.LimitKind.{LimitKind}
use Rattle.target_core.specs.Folders.{folder_of}
use Rattle.target_core.specs.OwnFiles.{MayNotTouch}
use Rattle.target_core.specs.Views.{View}
use Rattle.target_core.proofs.Apart.{apart_untouched}
use Rattle.target_sync.specs.Answered.{Answer, CanSync, IsAbsent, IsCaused, IsContest, IsOverAtFirst, IsReady, IsRefusal, IsReported, IsStatus, IsSync, Leaves, StandsAtHead, StopsSo}
use Rattle.target_sync.specs.Dues.{origin_of}
use Rattle.target_sync.specs.Others.{ChangesTargets, CountsContest, IsApart, IsIdle, NeitherTouches}
use Rattle.target_sync.specs.Sources.{SourceMeaning}
use Rattle.target_sync.specs.Synced.{IsContested, IsLimited, IsStopped, KeepsSource}
use Rattle.target_sync.specs.Targets.{TargetFacts}
use Rattle.target_sync.specs.declared.plan.Mode.{Mode}
use Rattle.target_sync.specs.declared.status.Side.TheVariants as side
use Rattle.target_sync.specs.declared.status.Status.{Status}
use Rattle.target_sync.specs.declared.status.Status.TheVariants as status
use Rattle.target_sync.proofs.Applying.{CrashLaws, stay_behind}
use Rattle.target_sync.proofs.Counting.{contested_then, fails_then, rose_from}
use Rattle.target_sync.proofs.Sizes.{short_further, short_reading}
use Rattle.target_sync.proofs.Standing.{SourceLaws, source_kept, source_left, synced_behind}

-- what is idle in one way is so in another
refusal_as : (Idle Other : Type 0) → (Idle → Other) → (source : SourceMeaning) (target : TargetFacts) (mode : Mode) (now : ℕ) (files : Files) (e : Status) → IsRefusal Idle source target mode now files e → IsRefusal Other source target mode now files e
refusal_as Idle Other from source target mode now files status.Done is = is
refusal_as Idle Other from source target mode now files status.Memory is = is
refusal_as Idle Other from source target mode now files status.Usage is = is
refusal_as Idle Other from source target mode now files status.Absent is = (from is.0, is.1)
refusal_as Idle Other from source target mode now files (status.Malformed path) is = (from is.0, is.1)
refusal_as Idle Other from source target mode now files (status.Unsupported side.Source feature path) is = (from is.0, is.1)
refusal_as Idle Other from source target mode now files (status.Unsupported (side.Target kind) feature path) is = (from is.0, is.1, is.2)
refusal_as Idle Other from source target mode now files (status.Limit side.Source which number) is = (from is.0, is.1)
refusal_as Idle Other from source target mode now files (status.Limit (side.Target kind) which number) is = (is.0, limit_as is.1)
  where
    limit_as : {H A B C : Type 0} → (Idle × H × A) ⊎ ((Idle × B) ⊎ C) → (Other × H × A) ⊎ ((Other × B) ⊎ C)
    limit_as (inl a) = inl (from a.0, a.1, a.2)
    limit_as (inr (inl b)) = inr (inl (from b.0, b.1))
    limit_as (inr (inr c)) = inr (inr c)
refusal_as Idle Other from source target mode now files (status.Foreign kind path) is = (from is.0, is.1, is.2, is.3)
refusal_as Idle Other from source target mode now files (status.Contested kind) is = is
refusal_as Idle Other from source target mode now files status.StoreFault is = is
refusal_as Idle Other from source target mode now files status.SinkFault is = is
refusal_as Idle Other from source target mode now files (status.Behind kind at head) is = is
refusal_as Idle Other from source target mode now files (status.Differs kind path) is = is
refusal_as Idle Other from source target mode now files (status.Stale path) is = is

pub caused_as : (Idle Other : Type 0) → (Idle → Other) → (source : SourceMeaning) (target : TargetFacts) (mode : Mode) (now : ℕ) (files : Files) (answer : Answer) → IsCaused Idle source target mode now files answer → IsCaused Other source target mode now files answer
caused_as Idle Other from source target mode now files None is = from is
caused_as Idle Other from source target mode now files (Some (Ok report)) is = is
caused_as Idle Other from source target mode now files (Some (Err e)) is = refusal_as Idle Other from source target mode now files e is

-- ---- files that are only read before

module _ {S : Type 0} (store : Ghosts S) (old mid new : S) (reading : store.tells → OnlyReads store old mid) where
  pub changes_behind : (target : Kind) (other : Option Kind) → (store.tells → ChangesTargets store target other mid new) → store.tells → ChangesTargets store target other old new
  changes_behind target None more = alone_further store (MayNotTouch target) old mid new (λ told. alone_by_reading store (MayNotTouch target) old mid (reading told)) more
  changes_behind target (Some other) more = alone_further store (NeitherTouches target other) old mid new (λ told. alone_by_reading store (NeitherTouches target other) old mid (reading told)) more

  pub idle_behind : (other : Option Kind) → store.tells → IsIdle store other mid new → IsIdle store other old new
  idle_behind None told idle = reading_further store old mid new reading (λ t. idle) told
  idle_behind (Some other) told idle = alone_further store (MayNotTouch other) old mid new (λ t. alone_by_reading store (MayNotTouch other) old mid (reading t)) (λ t. idle) told

  pub contest_behind : (other : Option Kind) (A B : Type 0) → IsUncontestedBy store old mid A → CountsContest store other mid new B → CountsContest store other old new B
  contest_behind None A B quiet contest = contested_then store.contests store.may_contest old mid new A B quiet contest
  contest_behind (Some other) A B quiet contest = fails_then store.contests store.may_contest old mid new ⊥ B (quiet_as_fault quiet) contest
    where
      quiet_as_fault : IsUncontestedBy store old mid A → HasFault store.contests store.may_contest old mid ⊥
      quiet_as_fault is =
          let same = is.same in
          record { later = omega (arith, same); still = is.still; rose = λ never. absurd never; allowed = λ never. absurd never }

-- a source of another format than the targets stays
pub source_of_others : {S : Type 0} (store : Ghosts S) (source : SourceMeaning) → SourceLaws source → (target : Kind) (other : Option Kind) (old new : S) → store.tells → IsApart source.kind target other → ChangesTargets store target other old new
    → ((path : List ℕ) → IsIn (folder_of source.kind) path → IsClean (store.disk old) path) → KeepsSource store source old new
source_of_others store source own target None old new told apart alone clean = source_kept store source own target apart old new told alone clean
source_of_others store source own target (Some other) old new told apart alone clean =
    source_left store source own (NeitherTouches target other) (λ path mine. (apart_untouched source.kind target (λ is. apart.0 (sym is)) path mine, apart_untouched source.kind other (λ is. apart.1 (sym is)) path mine)) old new told alone clean

module _ {S : Type 0} (store : Ghosts S) (source : SourceMeaning) (target : TargetFacts) (own : SourceLaws source) (crash : CrashLaws target.files) (other : Option Kind) (mode : Mode) (now : ℕ) where
  pub sync_behind : (old mid new : S) → (store.tells → OnlyReads store old mid) → (A B : Type 0) → FailsBy store old mid A → IsUncontestedBy store old mid B → (answer : Answer) → IsSync store source target other mode now mid new answer
      → IsSync store source target other mode now old new answer
  sync_behind old mid new reading A B cause quiet answer sync =
      let same : store.tells → store.disk mid ≡ store.disk old = λ told. (reading told).disk in
      let alone : store.tells → ChangesTargets store target.files.kind other old new = changes_behind store old mid new reading target.files.kind other sync.alone in
      let fault = fails_then store.faults store.may_fail old mid new A (answer ≡ Some (Err status.StoreFault)) cause sync.fault in
      let contest = contest_behind store old mid new reading other B (answer ≡ Some (Err (status.Contested target.files.kind))) quiet sync.contest in
      record {
        alone = alone;
        short = short_further store old mid new (short_reading store old mid reading) sync.short;
        source_stays = λ told apart clean. source_of_others store source own target.files.kind other old new told apart (alone told) clean;
        synced = λ told start ready.
            synced_behind source own target.files mode crash store start _ _ old mid new told (reading told) ready.reads ready.settled (sync.synced told start (ready_mid told start ready));
        reported = λ told start reads goes.
            subst (λ (d : Disk). IsReported source target other mode now start (target.files.settled d) d.files (store.disk new).files answer) (same told) (sync.reported told start (reads_mid told start reads) goes);
        in_full = sync.in_full;
        still = λ told mode_is done start reads goes at.
            idle_behind store old mid new reading other told (sync.still told mode_is done start (reads_mid told start reads) goes (subst (λ (d : Disk). StandsAtHead source d.files start) (sym (same told)) at));
        contested = λ told is start ready. contested_old told start ready (subst (λ (d : Disk). IsContested store source target.files (Leaves target other now) mode start d.files mid new) (same told) (sync.contested told is start (ready_mid told start ready)));
        limited = λ told which number is start ready. limited_old told start which number (sync.limited told which number is start (ready_mid told start ready));
        stopped = λ told start ready. stopped_old told start answer (sync.stopped told start (ready_mid told start ready));
        few = sync.few;
        caused = λ told. subst (λ (d : Disk). IsCaused (IsIdle store other old new) source target mode now d.files answer) (same told)
            (caused_as (IsIdle store other mid new) (IsIdle store other old new) (idle_behind store old mid new reading other told) source target mode now (store.disk mid).files answer (sync.caused told));
        absent = λ told is. subst (λ (d : Disk). IsAbsent other source d.files answer) (same told) (sync.absent told (subst (λ (d : Disk). source.is_absent d.files) (sym (same told)) is));
        foreign = λ told path is. subst (λ (d : Disk). IsStatus source target d.files (status.Foreign target.files.kind path) answer) (same told)
            (sync.foreign told path (subst (λ (d : Disk). target.is_foreign source.kind d.files path) (sym (same told)) is));
        fault = fault;
        contest = contest;
        complete = λ told can no_fault no_contest. sync.complete told (subst (λ (d : Disk). CanSync source target mode now d.files) (sym (same told)) can)
            (λ rose. no_fault (rose_from (store.faults old) (store.faults mid) (store.faults new) cause.later rose)) no_contest;
      }
    where
      reads_mid : store.tells → (start : View) → target.files.reads (store.disk old).files start → target.files.reads (store.disk mid).files start
      reads_mid told start reads = subst (λ (d : Disk). target.files.reads d.files start) (sym (reading told).disk) reads

      ready_mid : store.tells → (start : View) → IsReady source target (store.disk old).files start (target.files.settled (store.disk old)) → IsReady source target (store.disk mid).files start (target.files.settled (store.disk mid))
      ready_mid told start ready = record {
        reads = reads_mid told start ready.reads;
        goes_on = ready.goes_on;
        settled = subst (λ (d : Disk). target.files.settled d) (sym (reading told).disk) ready.settled;
      }

      limited_old : store.tells → (start : View) (which : LimitKind) (number : ℕ)
          → (IsIdle store other mid new × IsOverAtFirst source target mode now (store.disk mid).files which number) ⊎ IsLimited store source target.files (λ files partition origin. target.passes files partition origin now) (Leaves target other now) mode start (store.disk mid).files new which number
          → (IsIdle store other old new × IsOverAtFirst source target mode now (store.disk old).files which number) ⊎ IsLimited store source target.files (λ files partition origin. target.passes files partition origin now) (Leaves target other now) mode start (store.disk old).files new which number
      limited_old told start which number (inl idle) = inl (idle_behind store old mid new reading other told idle.0, subst (λ (d : Disk). IsOverAtFirst source target mode now d.files which number) (reading told).disk idle.1)
      limited_old told start which number (inr at) = inr (subst (λ (d : Disk). IsLimited store source target.files (λ files partition origin. target.passes files partition origin now) (Leaves target other now) mode start d.files new which number) (reading told).disk at)

      stopped_old : store.tells → (start : View) (given : Answer) → StopsSo store source target other mode now start mid new given → StopsSo store source target other mode now start old new given
      stopped_old told start None is = tt
      stopped_old told start (Some (Ok report)) is = tt
      stopped_old told start (Some (Err e)) is = ⊎_elim (λ (idle : IsIdle store other mid new). inl (idle_behind store old mid new reading other told idle))
          (λ (at : IsStopped store source target.files (Leaves target other now) mode start (¬ IsContest e) (store.disk mid).files new).
          inr (subst (λ (d : Disk). IsStopped store source target.files (Leaves target other now) mode start (¬ IsContest e) d.files new) (reading told).disk at)) is

      contested_old : store.tells → (start : View) → IsReady source target (store.disk old).files start (target.files.settled (store.disk old)) → IsContested store source target.files (Leaves target other now) mode start (store.disk old).files mid new
          → IsContested store source target.files (Leaves target other now) mode start (store.disk old).files old new
      contested_old told start ready is = record {
        due = is.due;
        columns = is.columns;
        place = is.place;
        within = is.within;
        published = is.published;
        left = is.left;
        newest = is.newest;
        stay = stay_behind store target.files (origin_of is.due) start is.due.commits crash old mid new told (reading told) ready.reads ready.settled (store.disk new).files is.stay;
        theirs = is.theirs;
      }
