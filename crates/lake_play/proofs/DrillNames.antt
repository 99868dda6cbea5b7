-- The store of a drill has few files, so that no folder has too many names.
use Rattle.std.proofs.Common.{◌≡◌, ◌≢◌, ◌⊎◌, inl, inr, ⊎_elim, ℕ, zero, suc, ◌+◌, ◌-◌, ◌*◌, ◌^◌, ◌≤◌, ◌<◌, Bool, true, false, List, [], ◌∷◌, drop, length, Contains, Option, Some, None, is_some, Result, Ok, Err, refl, sym, ap, subst, ◌∙◌, arith, if◌then◌else◌}
use Rattle.std.specs.Prelude.{IsSome, nat_le}
use Rattle.std.specs.List.{AllByRecursion}
use Rattle.std.specs.Cmp.Lexicographic.{slice_cmp}
use Rattle.std.specs.FinMap as finite
use Rattle.std.specs.Ordering.{nat_cmp}
use Rattle.std.proofs.lemmas.Bool.Decides.{nat_tests}
use Rattle.std.proofs.lemmas.List.{length-append}
use Rattle.conformance.proofs.Bounds.{drill_history, entry_after}
use Rattle.conformance.proofs.Numbers.{length_map}
use Rattle.conformance.proofs.Tables.{table_after}
use Rattle.lake_basics.specs.declared.limits.TheConstants.{MAX_NAMES}
use Rattle.lake_store.specs.Disk.{Disk, Files, names_in}
use Rattle.lake_store.specs.Fuse.{CanFail, FuseCanBeContested, contests_of, fuse_disk, room_of, with_stop}
use Rattle.lake_store.specs.declared.fuse.FuseStore.{FuseStore}
use Rattle.source_core.specs.Histories.{ShowsEntry, ShowsTable}
use Rattle.table_history.proofs.RowListLemmas.{Contains-none}
use Rattle.table_history.specs.History.{History}
use Rattle.table_history.specs.declared.kind.Kind.{Kind}
use Rattle.table_history.specs.declared.kind.Kind.TheVariants.{Delta, Hudi, Iceberg}
use Rattle.table_history.specs.declared.table.Commit.{Commit}
use Rattle.table_history.specs.declared.table.Table.{Table}
use Rattle.target_core.specs.Views.{IsUnpublished, View}
use Rattle.target_hudi.specs.declared.target.HudiTarget.{HudiTarget}
use Rattle.target_hudi.specs.InspectLemmas.{none_is_some}
use Rattle.iceberg_version.specs.KeptEnd as iceberg_kept
use Rattle.target_iceberg.specs.Writes.{most_manifests}
use Rattle.target_iceberg.specs.declared.target.IcebergTarget.{IcebergTarget}
use Rattle.target_sync.specs.Answered.{IsFew, IsOfSync, IsReported}
use Rattle.target_sync.specs.Dues.{AreSinceMark, Due, IsInFull, origin_of}
use Rattle.target_sync.specs.Targets.{TargetFacts, target_facts}
use Rattle.target_sync.specs.declared.apply.Report.{Report}
use Rattle.target_sync.specs.declared.plan.Mode.TheVariants as modes
use Rattle.target_sync.specs.declared.status.Status.{Status}
use Rattle.target_sync.specs.declared.status.Status.TheVariants as status
use Rattle.lake_play.specs.Drilled.{IsEnded}
use Rattle.lake_play.specs.Formats.{from_delta, to_hudi, to_iceberg}
use Rattle.lake_play.specs.Playing.{Brings, Crashes, Extends, IsSynced, scripted, status_of}
use Rattle.lake_play.specs.Scripted.{known_room, some_of, stop_of}
use Rattle.lake_play.specs.Standing.{IsFresh}
use Rattle.lake_play.proofs.AtSyncs.{Stays, StaysBy}
use Rattle.lake_play.proofs.DrillChanges.{AreEntries, AreOfDrill, IsSmall, added_most, are_entries, entries_drop, entry_at, entry_last, of_drill, removed_most, small_along}
use Rattle.lake_play.proofs.DrillDue.{few_due}
use Rattle.lake_play.proofs.DrillEvents.{drill_weight}
use Rattle.lake_play.proofs.FileCounts.{all_torn_count, inserted_count, names_count}
use Rattle.lake_play.proofs.Histories.{holds_history, is_history, same_length}
use Rattle.lake_play.proofs.Plays.{Keeps}
use Rattle.lake_play.proofs.Rooms.{Told, held_by, held_falls, left_until, none_named, told_by}
use Rattle.lake_play.proofs.Syncs.{going, same_told, still_free}
use Rattle.lake_play.proofs.Targets.{shows_front}
use Rattle.lake_play.proofs.WrittenCounts.{all_written, hudi_one, iceberg_one, total, total_most}

-- ---- what is known of the store

-- the stop is a number of 64 bits, if there is one
abbrev pub IsNear : Option ℕ → Type 0
IsNear None = Unit {0}
IsNear (Some stop) = stop ≤ 2 ^ 64 - 1

-- The script names no call, no contest was counted, and the files with the calls that are left until the stop are no more than this.
pub record HasFew (spent : ℕ) (store : FuseStore) : Type 0 where
  pub unscripted : store.script.failing.items ≡ []
  pub uncounted : contests_of store ≡ 0
  pub near : IsNear store.script.stop
  pub few : spent < 2 ^ 31 → held_by store ≤ spent

pub more_spent : (spent more : ℕ) (store : FuseStore) → spent ≤ more → (more < 2 ^ 31 → held_by store ≤ more) → HasFew spent store → HasFew more store
more_spent spent more store le few was = record { unscripted = was.unscripted; uncounted = was.uncounted; near = was.near; few = few }

few_more : (spent more : ℕ) (store : FuseStore) → spent ≤ more → HasFew spent store → HasFew more store
few_more spent more store le was = more_spent spent more store le (λ small. let few = was.few (omega (arith, le, small)) in omega (arith, few, le)) was

-- the same script and counts, of another store inside
inside_few : (spent more : ℕ) (old new : FuseStore) → new ≡ record old { inner = new.inner } → (held_by old ≤ spent → finite.len new.inner.disk.files ≤ finite.len old.inner.disk.files + (more - spent)) → spent ≤ more → HasFew spent old → HasFew more new
inside_few spent more old new outside grown le was =
    subst (HasFew more) (sym outside) (record {
      unscripted = was.unscripted;
      uncounted = was.uncounted;
      near = was.near;
      few = λ small.
          let few = was.few (omega (arith, le, small)) in
          let count = grown few in
          omega (arith, few, count, le);
    })

-- ---- a commit, a stop and a crash

extended_few : (spent version : ℕ) (bytes : List ℕ) (old new : FuseStore) → Extends version bytes old new → HasFew spent old → HasFew (spent + 1) new
extended_few spent version bytes old new is was =
    inside_few spent (spent + 1) old new is.outside (λ few.
    let more = inserted_count old.inner.disk.files is.path bytes in
    let same = ap (λ (d : Disk). finite.len d.files) is.disk in
    omega (arith, more, same)) (omega arith) was

stopped_few : (spent call : ℕ) (old : FuseStore) → HasFew spent old → HasFew (spent + call) (with_stop old (Some call))
stopped_few spent call old was = record {
  unscripted = was.unscripted;
  uncounted = was.uncounted;
  near = omega arith;
  few = λ small. let few = was.few (omega (arith, small)) in omega (arith, few);
}

crashed_few : (spent : ℕ) (choices : List ℕ) (old new : FuseStore) → Crashes choices old new → HasFew spent old → HasFew (spent + length choices) new
crashed_few spent choices old new is was =
    subst (HasFew (spent + length choices)) (sym is.outside) (record {
      unscripted = was.unscripted;
      uncounted = was.uncounted;
      near = tt;
      few = λ small.
          let few = was.few (omega (arith, small)) in
          let torn = all_torn_count old.inner.disk.files is.disk.0 choices in
          let same = ap (λ (d : Disk). finite.len d.files) is.disk.2 in
          omega (arith, few, torn, same);
    })

-- ---- a sync

stop_none : (stop : Option ℕ) → stop_of stop ≡ 0 → stop ≡ None
stop_none None is = refl
stop_none (Some stop) is = absurd (by (nat_le stop (2 ^ 64 - 1)) is)
  where
    by : (b : Bool) → ◌≡◌ {A = ℕ} (if b then 1 else 2) 0 → ⊥
    by true zero_is = omega (arith, zero_is)
    by false zero_is = omega (arith, zero_is)

near_one : (stop : ℕ) → stop ≤ 2 ^ 64 - 1 → stop_of (Some stop) ≡ 1
near_one stop le = ap (λ (b : Bool). if b then 1 else 2) (least stop le)
  where
    least : (stop : ℕ) → stop ≤ 2 ^ 64 - 1 → nat_le stop (2 ^ 64 - 1) ≡ true
    least stop le = grind (arith, nat_tests, le)

one_near : (stop : Option ℕ) → stop_of stop ≡ 1 → IsNear stop
one_near None is = tt
one_near (Some stop) is = by (nat_le stop (2 ^ 64 - 1)) refl is
  where
    by : (b : Bool) → nat_le stop (2 ^ 64 - 1) ≡ b → ◌≡◌ {A = ℕ} (if b then 1 else 2) 1 → stop ≤ 2 ^ 64 - 1
    by true least one = grind (arith, nat_tests, least)
    by false least one = absurd (omega (arith, one))

module _ (target : TargetFacts) (now : ℕ) (old new : FuseStore) (given : Status) (brings : Brings target modes.Sync now old new given) (none : FuseCanBeContested old → ⊥) (spent : ℕ) (was : HasFew spent old) where
  told : Told (contests_of new) (known_room (scripted brings.room new)) (stop_of new.script.stop) (some_of new.script.failing.items) (known_room (scripted (room_of old) old)) (stop_of old.script.stop) (some_of old.script.failing.items)
  told = told_by (scripted (room_of old) old) (scripted brings.room new) was.uncounted (same_told target modes.Sync now old new given brings none)

  unscripted : new.script.failing.items ≡ []
  unscripted = none_named new.script.failing.items (told.some ∙ ap some_of was.unscripted)

  -- behind a stop
  behind_stop : (stop : ℕ) → old.script.stop ≡ Some stop → HasFew (spent + 10800) new
  behind_stop stop is =
      let before : stop_of old.script.stop ≡ 1 = ap stop_of is ∙ near_one stop (subst IsNear is was.near) in
      let after : stop_of new.script.stop ≡ 1 = told.stop ∙ before in
      record {
        unscripted = unscripted;
        uncounted = told.contests;
        near = one_near new.script.stop after;
        few = λ small.
            let few = was.few (omega (arith, small)) in
            let falls = held_falls old new brings.room (still_free target modes.Sync now old new given brings none) told.room before after (omega (arith, few, small)) in
            omega (arith, few, falls);
      }

  -- without one
  without_stop : old.script.stop ≡ None → finite.len new.inner.disk.files ≤ finite.len old.inner.disk.files + 10800 → HasFew (spent + 10800) new
  without_stop is grown =
      let no : new.script.stop ≡ None = stop_none new.script.stop (told.stop ∙ ap stop_of is) in
      let left : left_until new.script.stop new.calls ≡ 0 = ap (λ (s : Option ℕ). left_until s new.calls) no in
      record {
        unscripted = unscripted;
        uncounted = told.contests;
        near = subst IsNear (sym no) tt;
        few = λ small. let few = was.few (omega (arith, small)) in omega (arith, few, left, grown);
      }

  pub synced_few : (old.script.stop ≡ None → finite.len new.inner.disk.files ≤ finite.len old.inner.disk.files + 10800) → HasFew (spent + 10800) new
  synced_few grown = by old.script.stop refl
    where
      by : (stop : Option ℕ) → old.script.stop ≡ stop → HasFew (spent + 10800) new
      by None is = without_stop is (grown is)
      by (Some stop) is = behind_stop stop is

  -- a store without a stop doesn't fail
  never_fails : old.script.stop ≡ None → brings.answer ≡ Err status.StoreFault → ⊥
  never_fails is fails =
      ⊎_elim
      (λ (stop : IsSome old.script.stop). cc (sym stop ∙ ap is_some is))
      (λ (some : old.script.failing.items ≢ []). some was.unscripted)
      (brings.sync.sync.fault.allowed (ap (λ (a : Result Report Status). Some a) fails))

  -- so a sync that ends as it may is done
  pub is_done : old.script.stop ≡ None → IsEnded given → (report : Report) × (brings.answer ≡ Ok report)
  is_done is ended = by brings.answer refl
    where
      by : (answer : Result Report Status) → brings.answer ≡ answer → (report : Report) × (brings.answer ≡ Ok report)
      by (Ok report) answered = (report, answered)
      by (Err e) answered =
          let same : given ≡ e = brings.told ∙ ap status_of answered in
          let of : IsOfSync target.files.kind e = subst (λ (a : Result Report Status). IsFew target.files.kind (Some a)) answered brings.sync.sync.few in
          absurd (⊎_elim
          (λ (done : given ≡ status.Done). subst (IsOfSync target.files.kind) (sym same ∙ done) of)
          (λ (fault : given ≡ status.StoreFault). never_fails is (answered ∙ ap (λ (s : Status). Err s) (sym same ∙ fault)))
          ended)

-- ---- a sync that is done

module _ (number now : ℕ) (commits : List (List ℕ)) (front behind : History) (hudi iceberg : ℕ) (old new : FuseStore) (given : Status) (keeps : Keeps (drill_history number 200) commits front behind 0 hudi iceberg old) (small : length commits ≤ 2 ^ 64) (some : 0 < length commits) (ended : IsEnded given)
    (no_stop : old.script.stop ≡ None) (spent : ℕ) (was : HasFew spent old) where
  abbrev before : Files
  before = (fuse_disk old).files

  abbrev after : Files
  after = (fuse_disk new).files

  few_commits : length commits ≤ 200
  few_commits =
      let first = same_length 0 None commits front keeps.made in
      let both : length (drill_history number 200) ≡ length front + length behind = ap (λ (h : History). length h) keeps.split ∙ length-append front behind in
      let all = length_map (entry_after number) 200 in
      omega (arith, first, both, all)

  module _ (t : HudiTarget) (brings : Brings (target_facts to_hudi t) modes.Sync now old new given) where
    hudi_view : View
    hudi_view = keeps.to_hudi.stands.at.view

    by_hudi : (report : Report) → brings.answer ≡ Ok report → finite.len after ≤ finite.len before + 10800
    by_hudi report done =
        let at = keeps.to_hudi.stands.at in
        let facts : TargetFacts = target_facts to_hudi t in
        let told = subst (λ (a : Result Report Status). IsReported from_delta facts None modes.Sync now at.view (facts.files.settled (fuse_disk old)) before after (Some a)) done
        (brings.sync.sync.reported tt at.view at.reads (going facts modes.Sync now old new given brings keeps.uncontested (drill_history number 200) keeps.to_hudi.stands.j at.view at.shows)) in
        let leaves = told.written keeps.to_hudi.settled in
        let grown = all_written (to_hudi.stands_for t) (λ kept here commit next. to_hudi.writes t kept here (origin_of told.due) now commit next) (λ commit. 4)
        (λ kept here commit next writes. hudi_one t.name kept here (origin_of told.due) now commit next writes) told.due.commits leaves.0 leaves.2.0 before after leaves.2.1 in
        let sum = total_most (λ commit. 4) 4 told.due.commits (all_four told.due.commits) in
        let due = few_due commits 0 (fuse_disk old) keeps.log modes.Sync at.view told.due in
        let few = few_commits in
        omega (arith, grown, sum, due, few)
      where
        all_four : (cs : List Commit) → AllByRecursion (λ commit. 4 ≤ 4) cs
        all_four [] = tt
        all_four (c ∷ cs) = (omega arith, all_four cs)

    pub hudi_grown : finite.len after ≤ finite.len before + 10800
    hudi_grown = let done = is_done (target_facts to_hudi t) now old new given brings keeps.uncontested spent was no_stop ended in by_hudi done.0 done.1

  module _ (t : IcebergTarget) (brings : Brings (target_facts to_iceberg t) modes.Sync now old new given) where
    abbrev facts : TargetFacts
    facts = target_facts to_iceberg t

    abbrev start : View
    start = keeps.to_iceberg.stands.at.view

    abbrev j : ℕ
    j = keeps.to_iceberg.stands.j

    abbrev added : Commit → ℕ
    added commit = most_manifests commit.change + 2

    shows : ShowsTable Delta facts.files.image front j start
    shows =
        let first = same_length 0 None commits front keeps.made in
        let up = keeps.to_iceberg.stands.up_to in
        shows_front facts.files.image front behind j start (omega (arith, first, up)) (subst (λ (h : History). ShowsTable Delta facts.files.image h j start) keeps.split keeps.to_iceberg.stands.at.shows)

    -- a few manifests for each commit since the mark
    few_manifests : (cs : List Commit) → AllByRecursion IsSmall cs → AllByRecursion (λ commit. added commit ≤ 53) cs
    few_manifests [] all = tt
    few_manifests (c ∷ cs) all = ((let removed = all.0.0 in let new = all.0.1 in omega (arith, removed, new)), few_manifests cs all.1)

    module _ (due : Due from_delta modes.Sync before start) where
      since_small : (k : ℕ) (view : View) → view ≡ start → ShowsTable Delta facts.files.image front k view → due.full ≡ false → AreSinceMark from_delta modes.Sync before start due.partition due.commits due.full → AllByRecursion IsSmall due.commits
      since_small zero view same none full since = absurd (none_is_some start since.marked.0 (subst IsUnpublished same none) since.marked.1)
      since_small (suc k) view same there full since =
          let entries = are_entries number front behind keeps.split in
          let at = entry_at number 0 k front there.0 entries there.1 in
          let base : there.0.1 ≡ table_after number (0 + (k + 1)) = ap (λ (e : List ℕ × Table). e.1) at.0 ∙ ap (table_after number) (let e : suc (0 + k) ≡ 0 + (k + 1) = omega arith in e) in
          small_along number (0 + (k + 1)) (drop (k + 1) front) there.0.1 due.commits base (entries_drop number 0 (k + 1) front entries)
          (brings.sync.along.each_once tt front (is_history commits front keeps.made small) (holds_history commits 0 (fuse_disk old) keeps.log some front keeps.made) k there.0 there.1 start (subst (ShowsEntry Delta facts.files.image there.0) same there.2) due full)

      start_rows : (k : ℕ) (view : View) → view ≡ start → ShowsTable Delta facts.files.image front k view → AreOfDrill number start.table.rows
      start_rows zero view same none =
          let empty : [] ≡ start.table.rows = sym (ap (λ (v : View). v.table.rows) (subst IsUnpublished same none)) in
          subst (AreOfDrill number) empty (λ row there. absurd (Contains-none row there))
      start_rows (suc k) view same there =
          let entries = are_entries number front behind keeps.split in
          let at = entry_at number 0 k front there.0 entries there.1 in
          let less = at.1 in
          let shown : ShowsEntry Delta facts.files.image there.0 start = subst (ShowsEntry Delta facts.files.image there.0) same there.2 in
          λ row has. of_drill number (suc (0 + k)) (omega (arith, less)) row (subst (λ (e : List ℕ × Table). Contains e.1.rows row) at.0 ((shown.rows row).0 has))

      whole_most : due.full ≡ true → total added due.commits ≤ 10003
      whole_most full =
          let last = brings.sync.along.in_full tt front (is_history commits front keeps.made small) (holds_history commits 0 (fuse_disk old) keeps.log some front keeps.made) start due full in
          let entry = entry_last number 0 last.last.0 last.entry (subst (AreEntries number 0) last.last.1 (are_entries number front behind keeps.split)) in
          let less = entry.1 in
          let end : AreOfDrill number last.entry.1.rows = subst (λ (e : List ℕ × Table). AreOfDrill number e.1.rows) (sym entry.2) (of_drill number (suc entry.0) (omega (arith, less))) in
          let begin = start_rows j start refl shows in
          let removed = removed_most number start.table.rows last.entry.1.rows last.commit.change.removed last.commit.change.added last.rows begin end in
          let new = added_most number start.table.rows last.entry.1.rows last.commit.change.removed last.commit.change.added last.rows begin end in
          let one : total added due.commits ≡ added last.commit + 0 = ap (total added) last.only in
          omega (arith, removed, new, one)

      due_most : total added due.commits ≤ 10800
      due_most =
          ⊎_elim
          (λ (since : AreSinceMark from_delta modes.Sync before start due.partition due.commits due.full).
          let sum = total_most added 53 due.commits (few_manifests due.commits (since_small j start refl shows since.way since)) in
          let is = since.marked.2.1.2 in
          let within = (keeps.log.only (is.version + length due.commits) is.newest.there).1 in
          let few = few_commits in
          omega (arith, sum, within, few))
          (λ (whole : IsInFull from_delta modes.Sync before start due.head due.partition due.commits due.full). let most = whole_most whole.way in omega (arith, most))
          due.way

    by_iceberg : (report : Report) → brings.answer ≡ Ok report → finite.len after ≤ finite.len before + 10800
    by_iceberg report done =
        let at = keeps.to_iceberg.stands.at in
        let told = subst (λ (a : Result Report Status). IsReported from_delta facts None modes.Sync now at.view (facts.files.settled (fuse_disk old)) before after (Some a)) done
        (brings.sync.sync.reported tt at.view at.reads (going facts modes.Sync now old new given brings keeps.uncontested (drill_history number 200) j at.view at.shows)) in
        let leaves = told.written keeps.to_iceberg.settled in
        let grown = all_written (to_iceberg.stands_for t) (λ kept here commit next. to_iceberg.writes t kept here (origin_of told.due) now commit next) added
        (λ kept here commit next writes. iceberg_one (iceberg_kept.end_of kept) here (origin_of told.due) now commit next writes) told.due.commits leaves.0 leaves.2.0 before after leaves.2.1 in
        let sum = due_most told.due in
        omega (arith, grown, sum)

    pub iceberg_grown : finite.len after ≤ finite.len before + 10800
    iceberg_grown = let done = is_done facts now old new given brings keeps.uncontested spent was no_stop ended in by_iceberg done.0 done.1

-- ---- along a play

module _ (number now : ℕ) where
  abbrev tables : History
  tables = drill_history number 200

  sync_few : (spent : ℕ) (commits : List (List ℕ)) (front behind : History) (hudi iceberg : ℕ) (old new : FuseStore) (target : Kind) (given : Status) → Keeps tables commits front behind 0 hudi iceberg old → length commits ≤ 2 ^ 64 → 0 < length commits
      → IsSynced target modes.Sync now old new given → IsEnded given → HasFew spent old → HasFew (spent + 10800) new
  sync_few spent commits front behind hudi iceberg old new Delta given keeps small some is ended was = subst (HasFew (spent + 10800)) (sym is.1) (few_more spent (spent + 10800) old (omega arith) was)
  sync_few spent commits front behind hudi iceberg old new Hudi given keeps small some (inl is) ended was = subst (HasFew (spent + 10800)) (sym is.1) (few_more spent (spent + 10800) old (omega arith) was)
  sync_few spent commits front behind hudi iceberg old new Hudi given keeps small some (inr is) ended was =
      synced_few (target_facts to_hudi is.0) now old new given is.2 keeps.uncontested spent was (λ no_stop. hudi_grown number now commits front behind hudi iceberg old new given keeps small some ended no_stop spent was is.0 is.2)
  sync_few spent commits front behind hudi iceberg old new Iceberg given keeps small some (inl is) ended was = subst (HasFew (spent + 10800)) (sym is.1) (few_more spent (spent + 10800) old (omega arith) was)
  sync_few spent commits front behind hudi iceberg old new Iceberg given keeps small some (inr is) ended was =
      synced_few (target_facts to_iceberg is.0) now old new given is.3 keeps.uncontested spent was (λ no_stop. iceberg_grown number now commits front behind hudi iceberg old new given keeps small some ended no_stop spent was is.0 is.3)

  -- with what is known of the store by the number of syncs
  abbrev pub Budgeted : (ℕ → List (List ℕ) → FuseStore → Type 0) → ℕ → List (List ℕ) → FuseStore → Type 0
  Budgeted P spent commits store = (syncs : ℕ) × (10800 * syncs ≤ spent) × P syncs commits store × HasFew spent store

  pub budgeted : (P : ℕ → List (List ℕ) → FuseStore → Type 0) → Stays tables now (λ given. Unit {0}) P → StaysBy tables now IsEnded drill_weight (Budgeted P)
  budgeted P stays = record {
    extended = λ spent commits front behind hudi iceberg old new bytes keeps is was.
        let within = was.1 in
        (was.0, omega (arith, within), stays.extended was.0 commits front behind hudi iceberg old new bytes keeps is was.2, extended_few spent (length commits) bytes old new is was.3);
    synced = λ spent commits front behind hudi iceberg old new target given keeps small some is ended was.
        let within = was.1 in
        (was.0 + 1, omega (arith, within), stays.synced was.0 commits front behind hudi iceberg old new target given keeps small some is tt was.2, sync_few spent commits front behind hudi iceberg old new target given keeps small some is ended was.3);
    stopped = λ spent commits old call was.
        let within = was.1 in
        (was.0, omega (arith, within), stays.stopped was.0 commits old (Some call) was.2, stopped_few spent call old was.3);
    crashed = λ spent commits front behind hudi iceberg old new choices keeps is was.
        let within = was.1 in
        (was.0, omega (arith, within), stays.crashed was.0 commits front behind hudi iceberg old new choices keeps is was.2, crashed_few spent choices old new is was.3);
  }

-- ---- at first

pub none_held : (store : FuseStore) → IsFresh store → (CanFail store.script → ⊥) → HasFew 0 store
none_held store fresh never_named =
    let no_stop : store.script.stop ≡ None = none_of store.script.stop (λ some. never_named (inl some)) in
    record {
      unscripted = nothing_named store.script.failing.items (λ some. never_named (inr some));
      uncounted = fresh.contests;
      near = subst IsNear (sym no_stop) tt;
      few = λ small.
          let empty : finite.len store.inner.disk.files ≡ 0 = ap (λ (d : Disk). finite.len d.files) fresh.disk ∙ finite.len-empty (slice_cmp nat_cmp) (List ℕ) in
          let left : left_until store.script.stop store.calls ≡ 0 = ap (λ (s : Option ℕ). left_until s store.calls) no_stop in
          omega (arith, empty, left);
    }
  where
    none_of : (stop : Option ℕ) → (IsSome stop → ⊥) → stop ≡ None
    none_of None never = refl
    none_of (Some stop) never = absurd (never refl)

    nothing_named : (calls : List ℕ) → (calls ≢ [] → ⊥) → calls ≡ []
    nothing_named [] never = refl
    nothing_named (call ∷ calls) never = absurd (never (λ is. cc))

-- no folder has too many names
pub names_within : (spent : ℕ) (store : FuseStore) (folder : List ℕ) → spent ≤ 1900000 → HasFew spent store → MAX_NAMES < length (names_in (fuse_disk store).files folder) → ⊥
names_within spent store folder le was many =
    let few = was.few (omega (arith, le)) in
    let names = names_count (fuse_disk store).files folder in
    omega (arith, few, names, le, many)
