-- The syncs of two targets, one behind the other.
use Rattle.std.proofs.Common.{◌≡◌, ◌⊎◌, ⊎_elim, ◌+◌, ◌-◌, ◌^◌, ◌≤◌, ℕ, Some, None, ◌∙◌, arith}
use Rattle.std.specs.Prelude.{Err, min}
use Rattle.lake_store.specs.Cause.{HasContest, HasFault, Rose}
use Rattle.lake_store.specs.Runs.{FailsBy, IsUncontestedBy, OnlyReads}
use Rattle.lake_store.specs.declared.store.Store.{Ghosts}
use Rattle.lake_store.proofs.RunLaws.{NowOnly, alone_by_reading}
use Rattle.target_core.specs.OwnFiles.{MayNotTouch, TouchesOwn}
use Rattle.target_sync.specs.Answered.{Answer, IsSync}
use Rattle.target_sync.specs.Sources.{SourceMeaning}
use Rattle.target_sync.specs.Targets.{TargetFacts}
use Rattle.target_sync.specs.declared.plan.Mode.{Mode}
use Rattle.target_sync.specs.declared.status.Status.TheVariants as status
use Rattle.target_sync.proofs.Applying.{CrashLaws}
use Rattle.target_sync.proofs.Beside.{NowCounts, beside_before, beside_behind, fails_before}
use Rattle.target_sync.proofs.Counting.{contested_of_none, fails_as, fails_then}
use Rattle.target_sync.proofs.Owning.{FaultLaws, OwnLaws}
use Rattle.target_sync.proofs.Sizes.{short_reading}
use Rattle.target_sync.proofs.Standing.{SourceLaws, source_kept, synced_idle}

-- what was counted, whoever was refused for it
as_fault : {S : Type 0} (count : S → ℕ) (may : S → Type 0) (old new : S) (A : Type 0) → HasContest count may old new A → HasFault count may old new A
as_fault count may old new A is = record { later = is.later; still = is.still; rose = is.rose; allowed = is.allowed }

-- a fault of either run
pub fails_either : {S : Type 0} (count : S → ℕ) (may : S → Type 0) (old mid new : S) (A B : Type 0) → HasFault count may old mid A → HasFault count may mid new B → HasFault count may old new (A ⊎ B)
fails_either count may old mid new A B one two =
    let first = fails_before count may old mid new A B one two in
    let second = fails_then count may old mid new A B one two in
    record { later = first.later; still = first.still; rose = ⊎_elim first.rose second.rose; allowed = ⊎_elim first.allowed second.allowed }

-- a target that has not been looked at
pub sync_none : {S : Type 0} (store : Ghosts S) (source : SourceMeaning) (target : TargetFacts) (mode : Mode) (now : ℕ) → SourceLaws source → CrashLaws target.files → (old new : S) → (store.tells → OnlyReads store old new) → (A B : Type 0) → FailsBy store old new A
    → IsUncontestedBy store old new B → (store.tells → ¬ source.is_absent (store.disk old).files) → IsSync store source target None mode now old new None
sync_none store source target mode now own crash old new reading A B cause quiet there =
    let alone : store.tells → TouchesOwn store target.files.kind old new = λ told. alone_by_reading store (MayNotTouch target.files.kind) old new (reading told) in
    record {
      alone = alone;
      short = short_reading store old new reading;
      source_stays = λ told apart clean. source_kept store source own target.files.kind apart old new told (alone told) clean;
      synced = λ told start ready. synced_idle source own target.files mode crash store start (Unit {0}) ⊥ (λ never. never) old new told (reading told) ready.reads ready.settled;
      reported = λ told start reads goes. tt;
      in_full = tt;
      still = λ told mode_is done start reads goes at. absurd done;
      contested = λ told is start ready. absurd (cc is);
      limited = λ told which number is start ready. absurd (cc is);
      stopped = λ told start ready. tt;
      few = tt;
      caused = reading;
      absent = λ told is. absurd (there told is);
      foreign = λ told path is. tt;
      fault = fails_as store.faults store.may_fail old new A (None ≡ Some (Err status.StoreFault)) (λ is. absurd (cc is)) cause;
      contest = none_contested;
      complete = λ told can no_fault no_contest. tt;
    }
  where
    none_contested : HasContest store.contests store.may_contest old new (◌≡◌ {A = Answer} None (Some (Err (status.Contested target.files.kind))))
    none_contested = contested_of_none store.contests store.may_contest old new ⊥ (None ≡ Some (Err (status.Contested target.files.kind))) (λ is. cc is) (record { same = quiet.same; still = quiet.still; never = λ never. never })

-- The first target has its turn, and then the second. Each keeps what is said of it alone, from before the first's to behind the second's.
module _ {S : Type 0} (store : Ghosts S) (only_now : NowOnly store) (now_counts : NowCounts store) (source : SourceMeaning) (laws : SourceLaws source) (faults : FaultLaws source)
    (first : TargetFacts) (first_crash : CrashLaws first.files) (first_own : OwnLaws first) (second : TargetFacts) (second_crash : CrashLaws second.files) (second_own : OwnLaws second)
    (apart : first.files.kind ≡ second.files.kind → ⊥) (back : second.files.kind ≡ first.files.kind → ⊥) (far : source.kind ≡ first.files.kind → ⊥) (mode : Mode) (now : ℕ) (old mid new : S) (one two : Answer)
    (first_sync : IsSync store source first None mode now old mid one) (second_sync : IsSync store source second None mode now mid new two) where
  pub first_turn : IsSync store source first (Some second.files.kind) mode now old new one
  first_turn = beside_behind store only_now now_counts source laws faults first first_crash first_own second.files.kind back mode now old mid new one first_sync second_sync.alone second_sync.short
      (two ≡ Some (Err status.StoreFault)) (two ≡ Some (Err (status.Contested second.files.kind))) second_sync.fault (as_fault store.contests store.may_contest mid new (two ≡ Some (Err (status.Contested second.files.kind))) second_sync.contest)

  pub second_turn : IsSync store source second (Some first.files.kind) mode now old new two
  second_turn = beside_before store only_now now_counts source laws faults second second_crash second_own first.files.kind apart mode now far old mid new two second_sync first_sync.alone first_sync.short
      (one ≡ Some (Err status.StoreFault)) (one ≡ Some (Err (status.Contested first.files.kind))) first_sync.fault (as_fault store.contests store.may_contest old mid (one ≡ Some (Err (status.Contested first.files.kind))) first_sync.contest)

  pub both_fault : FailsBy store old new ((one ≡ Some (Err status.StoreFault)) ⊎ (two ≡ Some (Err status.StoreFault)))
  both_fault = fails_either store.faults store.may_fail old mid new (one ≡ Some (Err status.StoreFault)) (two ≡ Some (Err status.StoreFault)) first_sync.fault second_sync.fault

  pub none_contested : ¬ (one ≡ Some (Err (status.Contested first.files.kind))) → ¬ (two ≡ Some (Err (status.Contested second.files.kind))) → store.contests new ≡ store.contests old
  none_contested never other = second_sync.contest.same other ∙ first_sync.contest.same never

  pub both_contested : one ≡ Some (Err (status.Contested first.files.kind)) → two ≡ Some (Err (status.Contested second.files.kind)) → min (store.contests old + 2) (2 ^ 64 - 1) ≤ store.contests new
  both_contested is other = twice (store.contests old) (store.contests mid) (store.contests new) (first_sync.contest.rose is) (second_sync.contest.rose other)
    where
      twice : (a b c : ℕ) → Rose a b → Rose b c → min (a + 2) (2 ^ 64 - 1) ≤ c
      twice a b c one two = omega (arith, one, two)
