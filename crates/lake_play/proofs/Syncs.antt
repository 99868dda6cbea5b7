-- What a sync of one target leaves is what the next one asks.
use Rattle.std.proofs.Common.{◌≡◌, inl, inr, ⊎_elim, ℕ, zero, suc, ◌^◌, ◌≤◌, ◌<◌, Bool, true, false, ◌&&◌, List, ◌++◌, length, Some, None, Result, Ok, Err, refl, sym, ap, subst, ◌∙◌, arith, if◌then◌else◌}
use Rattle.std.proofs.lemmas.Bool.{cases_lt, false≢true}
use Rattle.std.specs.FinMap as map
use Rattle.lake_store.specs.Disk.{IsClean}
use Rattle.lake_store.specs.Fuse.{FuseCanBeContested, fuse_disk, room_of}
use Rattle.lake_store.specs.Runs.{IsIn, OnlyReads}
use Rattle.lake_store.specs.declared.fuse.FuseStore.{FuseStore}
use Rattle.conformance.specs.Histories.{IsHistoryFrom}
use Rattle.source_core.specs.Histories.{IsAt, ShowsTable}
use Rattle.source_delta.specs.Heads.{IsAbsent}
use Rattle.table_history.specs.History.{History}
use Rattle.table_history.specs.declared.kind.Kind.{Kind}
use Rattle.table_history.specs.declared.kind.Kind.TheVariants.{Delta}
use Rattle.target_core.specs.Conditions.{GoesOn}
use Rattle.target_core.specs.Folders.{SameIn, folder_of}
use Rattle.target_core.specs.OwnFiles.{MayNotTouch}
use Rattle.target_core.specs.Views.{View}
use Rattle.target_core.proofs.Apart.{apart_untouched}
use Rattle.target_sync.specs.Along.{GoesOnAlong, IsWholeSync}
use Rattle.target_sync.specs.Answered.{IsContest, IsDone, IsFew, IsOfSync, IsReady, IsReported, IsUndisturbed, StopsSo}
use Rattle.target_sync.specs.Dues.{Due}
use Rattle.target_sync.specs.Targets.{TargetFacts}
use Rattle.target_sync.specs.declared.apply.Report.{Report}
use Rattle.target_sync.specs.declared.plan.Mode.{Mode}
use Rattle.target_sync.specs.declared.status.Status.{Status}
use Rattle.target_sync.specs.declared.status.Status.TheVariants as status
use Rattle.lake_play.specs.Formats.{from_delta}
use Rattle.lake_play.specs.Playing.{Brings, scripted, status_of}
use Rattle.lake_play.specs.Scripted.{ScriptedCanBeContested, scripted_contests, scripted_store}
use Rattle.lake_play.specs.Standing.{floor_behind, is_done, is_same}
use Rattle.lake_play.proofs.Histories.{holds_history, is_absent, is_history, same_length}
use Rattle.lake_play.proofs.Logs.{HoldsCommits}
use Rattle.lake_play.proofs.Rooms.{enters_free}
use Rattle.lake_play.proofs.Targets.{IsPlayed, at_front, at_whole}
use Rattle.lake_basics.proofs.Lists.{empty_of}

-- ---- answers

done_status : (e : Status) → is_done e ≡ true → e ≡ status.Done
done_status status.Done is = refl
done_status status.Memory is = absurd (false≢true is)
done_status status.Usage is = absurd (false≢true is)
done_status status.Absent is = absurd (false≢true is)
done_status (status.Malformed path) is = absurd (false≢true is)
done_status (status.Unsupported side feature path) is = absurd (false≢true is)
done_status (status.Limit side which number) is = absurd (false≢true is)
done_status (status.Foreign target path) is = absurd (false≢true is)
done_status (status.Contested target) is = absurd (false≢true is)
done_status status.StoreFault is = absurd (false≢true is)
done_status status.SinkFault is = absurd (false≢true is)
done_status (status.Behind target at head) is = absurd (false≢true is)
done_status (status.Differs target path) is = absurd (false≢true is)
done_status (status.Stale path) is = absurd (false≢true is)

contest_of : (kind : Kind) (e : Status) → IsOfSync kind e → IsContest e → e ≡ status.Contested kind
contest_of kind status.Done of is = absurd is
contest_of kind status.Memory of is = absurd is
contest_of kind status.Usage of is = absurd is
contest_of kind status.Absent of is = absurd is
contest_of kind (status.Malformed path) of is = absurd is
contest_of kind (status.Unsupported side feature path) of is = absurd is
contest_of kind (status.Limit side which number) of is = absurd is
contest_of kind (status.Foreign target path) of is = absurd is
contest_of kind (status.Contested target) of is = ap (λ k. status.Contested k) of
contest_of kind status.StoreFault of is = absurd is
contest_of kind status.SinkFault of is = absurd is
contest_of kind (status.Behind target at head) of is = absurd is
contest_of kind (status.Differs target path) of is = absurd is
contest_of kind (status.Stale path) of is = absurd is

-- the floor stays, or where the target was done it is the number of commits
floor_grows : (target synced : Kind) (count floor : ℕ) (given : Status) → floor ≤ count → floor_behind target synced count floor given ≤ count
floor_grows target synced count floor given le = by (is_same target synced && is_done given)
  where
    by : (b : Bool) → (if b then count else floor) ≤ count
    by true = omega arith
    by false = le

pub floor_stays : (target synced : Kind) (count floor : ℕ) (given : Status) → (is_done given ≡ true → ⊥) → floor_behind target synced count floor given ≡ floor
floor_stays target synced count floor given not = by (is_same target synced) (is_done given) refl
  where
    by : (a b : Bool) → is_done given ≡ b → (if a && b then count else floor) ≡ floor
    by true true is = absurd (not is)
    by true false is = refl
    by false b is = refl

pub floor_other : (target synced : Kind) (count floor : ℕ) (given : Status) → is_same target synced ≡ false → floor_behind target synced count floor given ≡ floor
floor_other target synced count floor given other = ap (λ (b : Bool). if b && is_done given then count else floor) other

-- ---- one sync

module _ (target : TargetFacts) (mode : Mode) (now : ℕ) (old new : FuseStore) (given : Status) (brings : Brings target mode now old new given) (none : FuseCanBeContested old → ⊥) where
  abbrev sync : IsWholeSync scripted_store from_delta target None mode now (scripted (room_of old) old) (scripted brings.room new) (Some brings.answer)
  sync = brings.sync

  -- what isn't the target's own file stays
  pub untouched_stays : (path : List ℕ) → MayNotTouch target.files.kind path → map.get (fuse_disk new).files path ≡ map.get (fuse_disk old).files path
  untouched_stays path out = (sync.sync.alone tt).disk.files path out

  pub untouched_clean : (path : List ℕ) → MayNotTouch target.files.kind path → IsClean (fuse_disk old) path → IsClean (fuse_disk new) path
  untouched_clean path out = (sync.sync.alone tt).disk.clean path out

  pub still_uncontested : FuseCanBeContested new → ⊥
  still_uncontested can = enters_free old none (sync.sync.contest.still (inl can))

  -- nor is more taken than there was room for
  pub still_free : ScriptedCanBeContested (scripted brings.room new) → ⊥
  still_free can = enters_free old none (sync.sync.contest.still can)

  pub same_told : scripted_contests (scripted brings.room new) ≡ scripted_contests (scripted (room_of old) old)
  same_told = sync.sync.contest.same (λ refused. enters_free old none (sync.sync.contest.allowed refused))

  undisturbed : (answer : Result Report Status) → brings.answer ≡ answer → IsUndisturbed (Some answer)
  undisturbed (Ok report) is = tt
  undisturbed (Err e) is = λ contest.
      let few : IsOfSync target.files.kind e = subst (λ (a : Result Report Status). IsFew target.files.kind (Some a)) is sync.sync.few in
      enters_free old none (sync.sync.contest.allowed (ap (λ (a : Result Report Status). Some a) is ∙ ap (λ (s : Status). Some (Err s)) (contest_of target.files.kind e few contest)))

  pub alone : IsUndisturbed (Some brings.answer)
  alone = undisturbed brings.answer refl

  pub going : (history : History) (k : ℕ) (view : View) → ShowsTable Delta target.files.image history k view → GoesOn Delta view
  going history zero view shows = inl shows
  going history (suc k) view shows = inr (shows.2.standing, shows.2.mark, shows.2.format)

  module _ (commits : List (List ℕ)) (first : ℕ) (log : HoldsCommits commits first (fuse_disk old)) (history behind : History) (is : IsHistoryFrom 0 None commits history) (few : length commits ≤ 2 ^ 64) where
    abbrev count : ℕ
    count = length commits

    -- so many tables the history has
    whole : length history ≡ count
    whole = same_length 0 None commits history is

    module _ (floor : ℕ) (was : IsPlayed target.files (history ++ behind) floor count (fuse_disk old)) where
      abbrev k : ℕ
      k = was.stands.j

      within : k ≤ length history
      within = let up = was.stands.up_to in let e = whole in omega (arith, up, e)

      here : IsAt Delta target.files history (fuse_disk old).files k
      here = at_front target.files history behind (fuse_disk old).files k within was.stands.at

      ready : IsReady from_delta target (fuse_disk old).files here.view (target.files.settled (fuse_disk old))
      ready = record { reads = here.reads; goes_on = going history k here.view here.shows; settled = was.settled }

      settled : target.files.settled (fuse_disk new)
      settled = (sync.sync.synced tt here.view ready).settled alone

      abbrev Left : Type 0
      Left = IsPlayed target.files (history ++ behind) (floor_behind target.files.kind target.files.kind count floor given) count (fuse_disk new)

      -- it isn't done where it is refused
      refused : (e : Status) → brings.answer ≡ Err e → floor_behind target.files.kind target.files.kind count floor given ≡ floor
      refused e is =
          let never : is_done given ≡ true → ⊥ = λ done.
          let same : given ≡ e = brings.told ∙ ap status_of is in
          let one : e ≡ status.Done = done_status e (sym (ap is_done same) ∙ done) in
          let few : IsOfSync target.files.kind e = subst (λ (a : Result Report Status). IsFew target.files.kind (Some a)) is sync.sync.few in
          subst (λ (s : Status). IsOfSync target.files.kind s) one few in
          floor_stays target.files.kind target.files.kind count floor given never

      -- there is a table
      module _ (some : 0 < count) where
        goes : GoesOnAlong scripted_store from_delta target.files mode history k here.view (IsUndisturbed (Some brings.answer)) (IsDone (Some brings.answer)) (scripted (room_of old) old) (scripted brings.room new)
        goes = sync.along.goes tt history (is_history commits history is few) (holds_history commits first (fuse_disk old) log some history is) k here was.settled

        at_end : (report : Report) → brings.answer ≡ Ok report → Left
        at_end report done =
            let e = whole in
            let last : IsAt Delta target.files history (fuse_disk new).files (length history) = (goes.done (subst (λ (a : Result Report Status). IsDone (Some a)) (sym done) tt)).at in
            let low = was.stands.from_there in
            let up = was.stands.up_to in
            let grows : floor_behind target.files.kind target.files.kind count floor given ≤ count = floor_grows target.files.kind target.files.kind count floor given (omega (arith, low, up)) in
            record {
              stands = record { j = length history; from_there = omega (arith, grows, e); up_to = omega (arith, e); at = at_whole target.files history behind (fuse_disk new).files (length history) (omega arith) last };
              settled = settled;
            }

        on_the_way : (e : Status) → brings.answer ≡ Err e → Left
        on_the_way e is =
            let len = whole in
            let on = goes.at_return alone in
            let low = was.stands.from_there in
            let from = on.from in
            let up = on.within in
            let same = refused e is in
            record {
              stands = record { j = on.j; from_there = omega (arith, same, low, from); up_to = omega (arith, up, len); at = at_whole target.files history behind (fuse_disk new).files on.j up on.at };
              settled = settled;
            }

      -- there is none
      module _ (empty : count ≡ 0) where
        nothing : IsAbsent (fuse_disk old).files
        nothing = subst (λ (l : List (List ℕ)). HoldsCommits l first (fuse_disk old) → IsAbsent (fuse_disk old).files) (sym (empty_of commits empty)) (is_absent first (fuse_disk old)) log

        no_due : Due from_delta mode (fuse_disk old).files here.view → ⊥
        no_due due = nothing due.is_head.newest due.is_head.is.there

        never_done : (report : Report) → brings.answer ≡ Ok report → Left
        never_done report is =
            let told = sync.sync.reported tt here.view here.reads (going history k here.view here.shows) in
            let report_is = subst (λ (a : Result Report Status). IsReported from_delta target None mode now here.view (target.files.settled (fuse_disk old)) (fuse_disk old).files (fuse_disk new).files (Some a)) is told in
            absurd (no_due report_is.due)

        as_it_was : (e : Status) → brings.answer ≡ Err e → Left
        as_it_was e is =
            let stops = subst (λ (a : Result Report Status). StopsSo scripted_store from_delta target None mode now here.view (scripted (room_of old) old) (scripted brings.room new) (Some a)) is (sync.sync.stopped tt here.view ready) in
            ⊎_elim
            (λ (idle : OnlyReads scripted_store (scripted (room_of old) old) (scripted brings.room new)).
            subst (λ (n : ℕ). IsPlayed target.files (history ++ behind) n count (fuse_disk new)) (sym (refused e is))
            (subst (IsPlayed target.files (history ++ behind) floor count) (sym idle.disk) was))
            (λ stopped. absurd (no_due stopped.due))
            stops

      by_answer : (answer : Result Report Status) → brings.answer ≡ answer → Left
      by_answer (Ok report) is = ⊎_elim (λ (empty : count < 1). never_done (omega (arith, empty)) report is) (λ (some : 1 ≤ count). at_end some report is) (cases_lt count 1)
      by_answer (Err e) is = ⊎_elim (λ (empty : count < 1). as_it_was (omega (arith, empty)) e is) (λ (some : 1 ≤ count). on_the_way some e is) (cases_lt count 1)

      -- The target stands where it stood or further, at the last table where it was done, and the next sync may go on from there.
      pub brought : Left
      brought = by_answer brings.answer refl

-- ---- the other target, and the source

module _ (target : TargetFacts) (mode : Mode) (now : ℕ) (old new : FuseStore) (given : Status) (brings : Brings target mode now old new given) (none : FuseCanBeContested old → ⊥) (kind : Kind) (apart : target.files.kind ≡ kind → ⊥) where
  out : (path : List ℕ) → IsIn (folder_of kind) path → MayNotTouch target.files.kind path
  out = apart_untouched kind target.files.kind apart

  pub same_beside : SameIn (folder_of kind) (fuse_disk old).files (fuse_disk new).files
  same_beside path mine = untouched_stays target mode now old new given brings none path (out path mine)

  pub clean_beside : (path : List ℕ) → IsIn (folder_of kind) path → IsClean (fuse_disk old) path → IsClean (fuse_disk new) path
  clean_beside path mine was = untouched_clean target mode now old new given brings none path (out path mine) was
