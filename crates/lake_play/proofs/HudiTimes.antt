-- The times of a Hudi target's instants stay near the time of its syncs.
use Rattle.std.proofs.Common.{◌≡◌, inl, inr, ⊎_elim, ℕ, ℤ, pos, zero, suc, ◌+◌, ◌*◌, ◌≤◌, ◌<◌, ◌≤ℤ◌, ◌+ℤ◌, true, false, List, [], ◌∷◌, ◌++◌, length, map, take, Contains, Option, Some, None, Result, Ok, Err, refl, sym, ap, subst, ◌∙◌, arith}
use Rattle.std.proofs.Math.Logic.{∥∥₁_elim}
use Rattle.std.specs.Cmp.Lexicographic.{slice_cmp}
use Rattle.std.specs.FinMap as finite
use Rattle.std.specs.Int.{int_max}
use Rattle.std.specs.List.{list_any}
use Rattle.std.specs.Ordering.{nat_cmp}
use Rattle.std.specs.Prelude.{IfSome, is_some}
use Rattle.std.specs.Str.{bytes_eq}
use Rattle.std.specs.declared.cmp.Ordering.TheVariants.{Less}
use Rattle.std.proofs.lemmas.Bool.{cases_Bool}
use Rattle.std.proofs.lemmas.Cmp.{nat_list_eq_equiv}
use Rattle.std.proofs.lemmas.Int.{ints}
use Rattle.std.proofs.lemmas.List.{length-append, length-map, length-take-le}
use Rattle.std.proofs.lemmas.List.Elements.{Contains-append_cases, Contains-append_right, Contains-push_cases}
use Rattle.std.proofs.lemmas.Map.Keys.{IsDistinct-push}
use Rattle.std.proofs.lemmas.Map.Views.{Contains-from_any}
use Rattle.std.proofs.lemmas.Slice.Eq.{bytes_eq-Decides}
use Rattle.delta_table.specs.SameVersions.{version_in}
use Rattle.delta_table.specs.Versions.{log_folder}
use Rattle.hudi_commit.proofs.NameLaws.{cancel, completed_no_leftover, not_properties_name}
use Rattle.hudi_commit.proofs.OrderlyLaws.{there}
use Rattle.hudi_commit.specs.Names.{IsInstantIn, IsLeftover, IsOpenLeftover, completed_name, pending_name, timeline_folder, timeline_path}
use Rattle.hudi_names.proofs.NextLemmas.{next_later}
use Rattle.hudi_names.proofs.TimeLemmas.{time_same}
use Rattle.hudi_names.specs.Next.{IsNext}
use Rattle.hudi_names.specs.Time.{IsPast9999, IsSomeTime, IsTime}
use Rattle.hudi_names.specs.declared.name.State.TheVariants as state
use Rattle.hudi_table.specs.Instants.{path_of, time_of}
use Rattle.hudi_table.specs.declared.instants.CompletedInstant.{CompletedInstant}
use Rattle.lake_store.specs.Disk.{Disk, Files, IsName}
use Rattle.lake_store.specs.Fuse.{FuseCanBeContested, fuse_disk, room_of}
use Rattle.lake_store.specs.Runs.{IsIn}
use Rattle.lake_store.specs.declared.fuse.FuseStore.{FuseStore}
use Rattle.source_core.specs.Histories.{IsAt, ShowsTable}
use Rattle.table_history.proofs.RowListLemmas.{Contains-cases, Contains-head, Contains-none, Contains-one, Contains-tail}
use Rattle.table_history.proofs.TableLemmas.{distinct_order}
use Rattle.table_history.specs.History.{History}
use Rattle.table_history.specs.declared.kind.Kind.{Kind}
use Rattle.table_history.specs.declared.kind.Kind.TheVariants.{Delta, Hudi, Iceberg}
use Rattle.table_history.specs.declared.limit.LimitKind.TheVariants as limit
use Rattle.table_history.specs.declared.table.Commit.{Commit}
use Rattle.target_core.proofs.Apart.{folders_apart}
use Rattle.target_core.specs.Conditions.{GoesOn}
use Rattle.target_core.specs.Folders.{MayLeaveIn, SameIn, folder_of}
use Rattle.target_core.specs.Views.{IsUnpublished, Origin, View}
use Rattle.target_core.specs.Written.{AreWritten}
use Rattle.target_hudi.proofs.TimelineLemmas.{AreEarlier, all_earlier, completed_more, new_one}
use Rattle.target_hudi.specs.InstantLemmas.{completed_same, from_there, in_byte_order, named}
use Rattle.target_hudi.specs.Kept.{IsNewest, StandsFor}
use Rattle.target_hudi.specs.Reading.{IsReached, IsSettledTarget, Reads, commits_in, completed_in}
use Rattle.target_hudi.specs.ReadingLemmas.{never_pending, same_alike}
use Rattle.target_hudi.specs.ReachedLemmas.{instant_reached}
use Rattle.target_hudi.specs.SettledLemmas.{completed_own, kept_clean}
use Rattle.target_hudi.specs.ViewLemmas.{commits_read}
use Rattle.target_hudi.specs.Writes.{Writes}
use Rattle.target_hudi.specs.Writing.{PassesLast, TimelineEnd, end_behind}
use Rattle.target_hudi.specs.declared.kept.HudiKept.{HudiKept}
use Rattle.target_hudi.specs.declared.target.HudiTarget.{HudiTarget}
use Rattle.target_sync.specs.Answered.{IsReady, IsReported, IsUndisturbed, Leaves, StopsSo}
use Rattle.target_sync.specs.Dues.{Due, origin_of}
use Rattle.target_sync.specs.Synced.{with_columns}
use Rattle.target_sync.specs.Targets.{HaveWritten, TargetFacts, target_facts}
use Rattle.target_sync.specs.declared.apply.Report.{Report}
use Rattle.target_sync.specs.declared.plan.Mode.TheVariants as modes
use Rattle.target_sync.specs.declared.status.Status.{Status}
use Rattle.lake_play.proofs.AtSyncs.{Stays}
use Rattle.lake_play.proofs.DrillDue.{few_due}
use Rattle.lake_play.proofs.EachOnce.{hudi_side}
use Rattle.lake_play.proofs.Logs.{HoldsCommits, extended_elsewhere}
use Rattle.lake_play.proofs.Once.{advanced_count}
use Rattle.lake_play.proofs.Plays.{Keeps}
use Rattle.lake_play.proofs.Syncs.{alone}
use Rattle.lake_play.specs.Formats.{from_delta, to_hudi}
use Rattle.lake_play.specs.Playing.{Brings, IsSynced, scripted}
use Rattle.lake_play.specs.Scripted.{scripted_store}
use Rattle.lake_play.specs.Standing.{meaning_of_hudi}
use Rattle.lake_basics.proofs.Texts.{fewer}

-- Each completed instant is at most so many milliseconds after the start of 1970.
abbrev pub AreUpTo : ℕ → Files → Type 0
AreUpTo most files = (c : CompletedInstant) → Contains (completed_in files) c → (ms : ℤ) → IsTime c.time ms → ms ≤ℤ pos most

pub up_to_later : (most more : ℕ) (files : Files) → most ≤ more → AreUpTo most files → AreUpTo more files
up_to_later most more files le are c there ms is = let low = are c there ms is in grind (arith, ints, low, le)

pub up_to_same : (most : ℕ) (a b : Files) → completed_in b ≡ completed_in a → AreUpTo most a → AreUpTo most b
up_to_same most a b same are c there = are c (subst (λ (l : List CompletedInstant). Contains l c) same there)

-- ---- one commit

open_leftover : (files : Files) (path : List ℕ) → IsOpenLeftover files path → IsLeftover path
open_leftover files path (inl is) = inl is
open_leftover files path (inr (instant, real, none, inl is)) = inr (inl (instant, real.1.digits, is))
open_leftover files path (inr (instant, real, none, inr (stage, is))) = inr (inr (stage, instant, real.1.digits, is))

-- what comes next is at most one millisecond later
next_near : (now most : ℕ) (files : Files) (newest : Option (List ℕ)) (ms : ℤ) → now ≤ most → AreUpTo most files → IsNewest files newest → IsNext newest now ms → ms ≤ℤ pos (most + 1)
next_near now most files None ms le are none next = grind (arith, ints, next, le)
next_near now most files (Some last) ms le are is next =
    let there : Contains (completed_in files) is.1 = subst (λ (l : List CompletedInstant). Contains l is.1) (sym is.2) (Contains-append_right is.0 (is.1 ∷ []) is.1 (Contains-head is.1 [])) in
    let low = are is.1 there next.0 (subst (λ (t : List ℕ). IsTime t next.0) (sym is.3) next.1) in
    let max = next.2 in
    grind (arith, ints, low, le, max)

module _ (name : List ℕ) (kept : HudiKept) (before after : Files) (origin : Origin) (now : ℕ) (commit : Commit) (writes : Writes name kept before origin now commit after) (newest : IsNewest before kept.newest) where
  abbrev time : List ℕ
  time = writes.time

  real : IsSomeTime time
  real = (writes.next_time.0, writes.next_time.2)

  earlier : AreEarlier before time
  earlier = all_earlier before kept.newest time newest (λ last is. subst (λ (o : Option (List ℕ)). IfSome o (λ l. slice_cmp nat_cmp l time ≡ Less)) is (next_later kept.newest now writes.next_time.0 time writes.next_time.1 writes.next_time.2))

  others_stay : (q : List ℕ) → IsName q → IsInstantIn state.Completed q → (q ≡ completed_name time → ⊥) → finite.get after (timeline_path q) ≡ finite.get before (timeline_path q)
  others_stay q proper is apart =
      ⊎_elim
      (λ (stays : finite.get after (timeline_path q) ≡ finite.get before (timeline_path q)). stays)
      (λ (goes : IsOpenLeftover before (timeline_path q) × (finite.get after (timeline_path q) ≡ None)). absurd (completed_no_leftover q proper is (open_leftover before (timeline_path q) goes.0)))
      (writes.others (timeline_path q) (λ same. apart (cancel q (completed_name time) same)) (λ stage same. never_pending stage time q real.1.digits (cancel q (pending_name stage time) same) is) (λ none. not_properties_name state.Completed q is))

  -- The commit's instant comes behind those of before.
  one_more : completed_in after ≡ completed_in before ++ new_one time real ∷ []
  one_more = completed_more time real before earlier after others_stay (ap is_some writes.completed)

  count_more : commits_in after ≡ commits_in before + 1
  count_more = ap (λ (l : List CompletedInstant). length l) one_more ∙ length-append (completed_in before) (new_one time real ∷ [])

  up_to_more : (most : ℕ) → now ≤ most → AreUpTo most before → AreUpTo (most + 1) after
  up_to_more most le are c there ms is =
      ⊎_elim
      (λ (old : Contains (completed_in before) c). up_to_later most (most + 1) before (omega arith) are c old ms is)
      (λ (new : Contains (new_one time real ∷ []) c).
      let one : time ≡ c.time = ap (λ (d : CompletedInstant). d.time) (Contains-one (new_one time real) c new) in
      let same : writes.next_time.0 ≡ ms = time_same time writes.next_time.0 ms writes.next_time.2 (subst (λ (t : List ℕ). IsTime t ms) (sym one) is) in
      subst (λ (m : ℤ). m ≤ℤ pos (most + 1)) same (next_near now most before kept.newest writes.next_time.0 le are newest writes.next_time.1))
      (Contains-append_cases (completed_in before) (new_one time real ∷ []) c (subst (λ (l : List CompletedInstant). Contains l c) one_more there))

-- ---- commits one behind the other

-- So many came, and no instant is later than that many milliseconds more.
pub record HaveCome (most count : ℕ) (before after : Files) : Type 0 where
  pub counted : commits_in after ≡ commits_in before + count
  pub times : AreUpTo (most + count) after

written_on : (t : HudiTarget) (origin : Origin) (now : ℕ) (commits : List Commit) (kept last : HudiKept) (before after : Files) (most : ℕ) → now ≤ most → StandsFor kept before → AreUpTo most before
    → AreWritten StandsFor (λ here from commit to. Writes t.name here from origin now commit to) kept before commits last after → HaveCome most (length commits) before after
written_on t origin now [] kept last before after most le stands are written =
    let none : most ≡ most + 0 = omega arith in
    subst (HaveCome most 0 before) (sym written.1) (record { counted = omega arith; times = subst (λ (n : ℕ). AreUpTo n before) none are })
written_on t origin now (commit ∷ commits) kept last before after most le stands are written =
    let middle = written.1 in
    let writes = written.2 in
    let newest = stands.counted.newest in
    let first = count_more t.name kept before middle origin now commit writes newest in
    let on = written_on t origin now commits written.0 last middle after (most + 1) (omega (arith, le)) written.3 (up_to_more t.name kept before middle origin now commit writes newest most le are) written.4 in
    let rest = on.counted in
    let sum : most + 1 + length commits ≡ most + length (commit ∷ commits) = omega arith in
    record { counted = omega (arith, first, rest); times = subst (λ (n : ℕ). AreUpTo n after) sum on.times }

pub times_written : (t : HudiTarget) (kept : HudiKept) (before after : Files) (origin : Origin) (now : ℕ) (commits : List Commit) (most : ℕ) → now ≤ most → StandsFor kept before → AreUpTo most before → HaveWritten to_hudi t kept before origin now commits after → HaveCome most (length commits) before after
times_written t kept before after origin now commits most le stands are written = written_on t origin now commits kept written.0 before after most le stands are written.1

-- ---- files that have what is reached of others

abbrev names_of : List CompletedInstant → List (List ℕ)
names_of cs = map (λ (c : CompletedInstant). c.name) cs

in_names : (cs : List CompletedInstant) (c : CompletedInstant) → Contains cs c → Contains (names_of cs) c.name
in_names [] c within = absurd (Contains-none c within)
in_names (d ∷ cs) c within =
    ⊎_elim
    (λ (here : d ≡ c). subst (Contains (d.name ∷ names_of cs)) (ap (λ (e : CompletedInstant). e.name) here) (Contains-head d.name (names_of cs)))
    (λ later. Contains-tail d.name (names_of cs) c.name (in_names cs c later))
    (Contains-cases d cs c within)

from_names : (cs : List CompletedInstant) (name : List ℕ) → Contains (names_of cs) name → (c : CompletedInstant) × Contains cs c × (c.name ≡ name)
from_names [] name within = absurd (Contains-none name within)
from_names (d ∷ cs) name within =
    ⊎_elim
    (λ (here : d.name ≡ name). (d, Contains-head d cs, here))
    (λ later. let found = from_names cs name later in (found.0, Contains-tail d cs found.0 found.1, found.2))
    (Contains-cases d.name (names_of cs) name within)

module _ (left files : Files) (same : (path : List ℕ) → IsReached left path → finite.get files path ≡ finite.get left path) (count : commits_in files ≡ commits_in left) where
  abbrev theirs : List (List ℕ)
  theirs = names_of (completed_in left)

  abbrev all : List (List ℕ)
  all = names_of (completed_in files)

  still_there : (c : CompletedInstant) → Contains (completed_in left) c → Contains all c.name
  still_there c within =
      let is = named left c within in
      let found = from_there files c.name is.proper (there left files (path_of c.name) (same (path_of c.name) (instant_reached left c within)) is.there) is.digits is.action is.says is.commit in
      subst (Contains all) found.2 (in_names (completed_in files) found.0 found.1)

  -- another one would be one more
  one_too_many : (c : CompletedInstant) → Contains (completed_in files) c → list_any (bytes_eq c.name) theirs ≡ false → ⊥
  one_too_many c within new =
      let few = fewer (theirs ++ c.name ∷ []) all (IsDistinct-push nat_list_eq_equiv theirs c.name (distinct_order theirs (in_byte_order left)) new) (λ name there.
      ⊎_elim
      (λ (old : Contains theirs name). let d = from_names (completed_in left) name old in subst (Contains all) d.2 (still_there d.0 d.1))
      (λ (last : c.name ≡ name). subst (Contains all) last (in_names (completed_in files) c within))
      (Contains-push_cases theirs c.name name there)) in
      let more = length-append theirs (c.name ∷ []) in
      let mine = length-map (completed_in files) (λ (d : CompletedInstant). d.name) in
      let other = length-map (completed_in left) (λ (d : CompletedInstant). d.name) in
      omega (arith, few, more, mine, other, count)

  pub up_to_as_left : (most : ℕ) → AreUpTo most left → AreUpTo most files
  up_to_as_left most are c within ms is =
      ⊎_elim
      (λ (found : list_any (bytes_eq c.name) theirs ≡ true).
      let d = from_names (completed_in left) c.name (Contains-from_any {eq = bytes_eq} (λ a b. (bytes_eq-Decides a b).0) c.name theirs found) in
      let one : c.time ≡ d.0.time = (named files c within).time ∙ ap time_of (sym d.2) ∙ sym (named left d.0 d.1).time in
      are d.0 d.1 ms (subst (λ (t : List ℕ). IsTime t ms) one is))
      (λ (none : list_any (bytes_eq c.name) theirs ≡ false). absurd (one_too_many c within none))
      (cases_Bool (list_any (bytes_eq c.name) theirs))

-- ---- one sync

module _ (t : HudiTarget) (now : ℕ) (old new : FuseStore) (given : Status) (brings : Brings (target_facts to_hudi t) modes.Sync now old new given) (none : FuseCanBeContested old → ⊥) (start : View)
    (ready : IsReady from_delta (target_facts to_hudi t) (fuse_disk old).files start (IsSettledTarget (fuse_disk old))) (commits : List (List ℕ)) (first : ℕ) (log : HoldsCommits commits first (fuse_disk old)) (most : ℕ) (le : now ≤ most) (are : AreUpTo most (fuse_disk old).files) where
  abbrev before : Files
  before = (fuse_disk old).files

  abbrev after : Files
  after = (fuse_disk new).files

  abbrev facts : TargetFacts
  facts = target_facts to_hudi t

  few : (due : Due from_delta modes.Sync before start) → length due.commits ≤ length commits + 1
  few due = few_due commits first (fuse_disk old) log modes.Sync start due

  -- what some of the commits that are due leave
  left_by : (partition : List (List ℕ)) (origin : Origin) (some : List Commit) (left : Files) → Leaves facts None now before partition origin some left → HaveCome most (length some) before left
  left_by partition origin some left leaves = times_written t leaves.0 before left origin now some most le leaves.1.0 are leaves.2

  done : (report : Report) → brings.answer ≡ Ok report → AreUpTo (most + (length commits + 1)) after
  done report is =
      let told = subst (λ (a : Result Report Status). IsReported from_delta facts None modes.Sync now start (IsSettledTarget (fuse_disk old)) before after (Some a)) is (brings.sync.sync.reported tt start ready.reads ready.goes_on) in
      let come = left_by told.due.partition (origin_of told.due) told.due.commits after (told.written ready.settled) in
      let count = few told.due in
      up_to_later (most + length told.due.commits) (most + (length commits + 1)) after (omega (arith, count)) come.times

  refused : (e : Status) → brings.answer ≡ Err e → AreUpTo (most + (length commits + 1)) after
  refused e is = by (subst (λ (a : Result Report Status). StopsSo scripted_store from_delta facts None modes.Sync now start (scripted (room_of old) old) (scripted brings.room new) (Some a)) is (brings.sync.sync.stopped tt start ready))
    where
      by : StopsSo scripted_store from_delta facts None modes.Sync now start (scripted (room_of old) old) (scripted brings.room new) (Some (Err e)) → AreUpTo (most + (length commits + 1)) after
      by (inl idle) = up_to_later most (most + (length commits + 1)) after (omega arith) (subst (λ (d : Disk). AreUpTo most d.files) (sym idle.disk) are)
      by (inr stopped) =
          let gained = stopped.gained (subst (λ (a : Result Report Status). IsUndisturbed (Some a)) is (alone facts modes.Sync now old new given brings none)) in
          let due = stopped.due in
          let n = gained.0 in
          let view = gained.3 in
          let left = gained.4.0 in
          let some = take n due.commits in
          let come = left_by due.partition (origin_of due) some left gained.4.1 in
          let within = view.within in
          let taken : length some ≡ n = length-take-le n due.commits within in
          let grown = advanced_count facts.files.image (origin_of due) (with_columns due.partition start) view.view some view.leads in
          let mine = commits_read after view.view view.stands in
          let first_count = commits_read before start ready.reads in
          let counted = come.counted in
          let count = few due in
          let equal : commits_in after ≡ commits_in left = omega (arith, grown, mine, first_count, counted) in
          up_to_later (most + length some) (most + (length commits + 1)) after (omega (arith, taken, within, count)) (up_to_as_left left after gained.4.2 equal (most + length some) come.times)

  by_answer : (answer : Result Report Status) → brings.answer ≡ answer → AreUpTo (most + (length commits + 1)) after
  by_answer (Ok report) is = done report is
  by_answer (Err e) is = refused e is

  pub times_synced : AreUpTo (most + (length commits + 1)) after
  times_synced = by_answer brings.answer refl

-- ---- along a play

goes_on : (history : History) (k : ℕ) (view : View) → ShowsTable Delta meaning_of_hudi.image history k view → GoesOn Delta view
goes_on history zero view shows = inl shows
goes_on history (suc k) view shows = inr (shows.2.standing, shows.2.mark, shows.2.format)

no_instants : (files : Files) (view : View) → Reads files view → IsUnpublished view → completed_in files ≡ []
no_instants files view reads none = no_items (completed_in files) (commits_read files view reads ∙ ap (λ (v : View). v.commits) none)
  where
    no_items : (cs : List CompletedInstant) → length cs ≡ 0 → cs ≡ []
    no_items [] is = refl
    no_items (c ∷ cs) is = absurd (omega (arith, is))

crash_completed : (disk : Disk) (image : Files) → IsSettledTarget disk → MayLeaveIn timeline_folder disk image → completed_in image ≡ completed_in disk.files
crash_completed disk image settled left = completed_same disk.files image (same_alike disk.files image (λ path within free. left path within (kept_clean disk settled.timeline path within free)))

module _ (history : History) (now : ℕ) where
  -- Where the source has at most 200 commits, each sync brings the times on by at most 300 milliseconds.
  abbrev pub HudiTimes : ℕ → List (List ℕ) → FuseStore → Type 0
  HudiTimes syncs commits store = length commits ≤ 200 → AreUpTo (now + 300 * syncs) (fuse_disk store).files

  kept_times : (syncs more : ℕ) (a b : Files) → syncs ≤ more → SameIn (folder_of Hudi) a b → AreUpTo (now + 300 * syncs) a → AreUpTo (now + 300 * more) b
  kept_times syncs more a b later same are = up_to_later (now + 300 * syncs) (now + 300 * more) b (omega (arith, later)) (up_to_same (now + 300 * syncs) a b (completed_own a b same) are)

  synced_times : (syncs : ℕ) (commits : List (List ℕ)) (front behind : History) (hudi iceberg : ℕ) (old new : FuseStore) (target : Kind) (given : Status) → Keeps history commits front behind 0 hudi iceberg old → IsSynced target modes.Sync now old new given → HudiTimes syncs commits old → HudiTimes (syncs + 1) commits new
  synced_times syncs commits front behind hudi iceberg old new Hudi given keeps (inl is) was few = kept_times syncs (syncs + 1) (fuse_disk old).files (fuse_disk new).files (omega arith) (subst (λ (s : FuseStore). SameIn (folder_of Hudi) (fuse_disk old).files (fuse_disk s).files) (sym is.1) (λ path within. refl)) (was few)
  synced_times syncs commits front behind hudi iceberg old new Hudi given keeps (inr is) was few =
      let at = keeps.to_hudi.stands.at in
      let ready : IsReady from_delta (target_facts to_hudi is.0) (fuse_disk old).files at.view (IsSettledTarget (fuse_disk old)) = record { reads = at.reads; goes_on = goes_on history keeps.to_hudi.stands.j at.view at.shows; settled = keeps.to_hudi.settled } in
      up_to_later (now + 300 * syncs + (length commits + 1)) (now + 300 * (syncs + 1)) (fuse_disk new).files (omega (arith, few))
      (times_synced is.0 now old new given is.2 keeps.uncontested at.view ready commits 0 keeps.log (now + 300 * syncs) (omega arith) (was few))
  synced_times syncs commits front behind hudi iceberg old new Delta given keeps is was few = kept_times syncs (syncs + 1) (fuse_disk old).files (fuse_disk new).files (omega arith) (hudi_side.beside Delta modes.Sync now old new given refl keeps.uncontested is) (was few)
  synced_times syncs commits front behind hudi iceberg old new Iceberg given keeps is was few = kept_times syncs (syncs + 1) (fuse_disk old).files (fuse_disk new).files (omega arith) (hudi_side.beside Iceberg modes.Sync now old new given refl keeps.uncontested is) (was few)

  pub hudi_times : Stays history now (λ given. Unit {0}) HudiTimes
  hudi_times = record {
    extended = λ syncs commits front behind hudi iceberg old new bytes keeps is was few.
        let grown : length (commits ++ bytes ∷ []) ≡ length commits + 1 = length-append commits (bytes ∷ []) in
        kept_times syncs syncs (fuse_disk old).files (fuse_disk new).files (omega arith) (λ path within.
        extended_elsewhere (fuse_disk old) (fuse_disk new) is.path bytes path is.disk (λ e. folders_apart Hudi Delta (λ same. cc) path within (subst (IsIn log_folder) (sym e) (version_in is.path (length commits) is.is)))) (was (omega (arith, grown, few)));
    synced = λ syncs commits front behind hudi iceberg old new target given keeps small some is ends was. synced_times syncs commits front behind hudi iceberg old new target given keeps is was;
    stopped = λ syncs commits old call was. was;
    crashed = λ syncs commits front behind hudi iceberg old new choices keeps is was few.
        up_to_same (now + 300 * syncs) (fuse_disk old).files (fuse_disk new).files (crash_completed (fuse_disk old) (fuse_disk new).files keeps.to_hudi.settled (λ path within clean. is.image path clean)) (was few);
  }

  pub no_times : (store : FuseStore) (hudi iceberg : ℕ) → Keeps history [] [] history 0 hudi iceberg store → HudiTimes 0 [] store
  no_times store hudi iceberg keeps few c within =
      let stands = keeps.to_hudi.stands in
      let up = stands.up_to in
      let none : stands.j ≡ 0 = omega (arith, up) in
      let at : IsAt Delta meaning_of_hudi history (fuse_disk store).files 0 = subst (IsAt Delta meaning_of_hudi history (fuse_disk store).files) none stands.at in
      absurd (Contains-none c (subst (λ (l : List CompletedInstant). Contains l c) (no_instants (fuse_disk store).files at.view at.reads at.shows) within))

-- ---- none passes the year 9999

-- The newest instant, if there is one, is a real time and not later than this.
abbrev pub IsNewestUpTo : ℕ → Option (List ℕ) → Type 0
IsNewestUpTo most None = Unit {0}
IsNewestUpTo most (Some last) = (ms : ℤ) × IsTime last ms × (ms ≤ℤ pos most)

next_up_to : (now most : ℕ) (newest : Option (List ℕ)) (ms : ℤ) → now ≤ most → IsNewestUpTo most newest → IsNext newest now ms → ms ≤ℤ pos (most + 1)
next_up_to now most None ms le up next = omega (arith, ints, next, le)
next_up_to now most (Some last) ms le up next =
    let same : up.0 ≡ next.0 = time_same last up.0 next.0 up.1 next.1 in
    let low = up.2 in
    let max = next.2 in
    grind (arith, ints, low, le, max, same)

some_next : (now : ℕ) (newest : Option (List ℕ)) (most : ℕ) → IsNewestUpTo most newest → (ms : ℤ) × IsNext newest now ms
some_next now None most up = (pos now, refl)
some_next now (Some last) most up = (int_max (pos now) (up.0 +ℤ pos 1), (up.0, up.1, refl))

never_past : (ms : ℤ) (most : ℕ) → ms ≤ℤ pos most → most < 253402300799999 → IsPast9999 ms → ⊥
never_past ms most up small past = omega (arith, ints, up, small, past)

pub within_9999 : (end : TimelineEnd) (origin : Origin) (now : ℕ) (commits : List Commit) (n most : ℕ) → now ≤ most → IsNewestUpTo most end.newest → most + length commits < 253402300799999 → PassesLast end origin now commits limit.Versions n → ⊥
within_9999 end origin now [] n most le up small passes = passes
within_9999 end origin now (commit ∷ []) n most le up small passes =
    let next = some_next now end.newest most up in
    never_past next.0 (most + 1) (next_up_to now most end.newest next.0 le up next.1) (omega (arith, small)) (passes.1 next.0 next.1)
within_9999 end origin now (commit ∷ (more ∷ commits)) n most le up small passes =
    let next = passes.1 in
    within_9999 (end_behind end passes.0 commit) origin now (more ∷ commits) n (most + 1) (omega (arith, le)) (next.0, next.2, next_up_to now most end.newest next.0 le up next.1) (omega (arith, small)) passes.2

no_prop : IsProp ⊥
no_prop x y = absurd x

-- What is kept of files with such times: the newest instant is real.
pub kept_up_to : (kept : HudiKept) (files : Files) (most : ℕ) → IsNewest files kept.newest → AreUpTo most files → (IsNewestUpTo most kept.newest → ⊥) → ⊥
kept_up_to kept files most newest are none = by kept.newest refl newest none
  where
    by : (o : Option (List ℕ)) → kept.newest ≡ o → IsNewest files o → (IsNewestUpTo most o → ⊥) → ⊥
    by None is none_there not = not tt
    by (Some last) is there not =
        ∥∥₁_elim (kept.newest_real last is) no_prop (λ (real : IsSomeTime last).
        not (real.0, real.1, are there.1 (subst (λ (l : List CompletedInstant). Contains l there.1) (sym there.2) (Contains-append_right there.0 (there.1 ∷ []) there.1 (Contains-head there.1 []))) real.0 (subst (λ (t : List ℕ). IsTime t real.0) (sym there.3) real.1)))
