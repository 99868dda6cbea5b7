-- A target that is synced before each commit but the first has one commit for each table: what one sync makes of that.
use Rattle.std.proofs.Common.{◌≡◌, ◌⊎◌, inl, inr, ⊎_elim, ℕ, zero, suc, ◌+◌, ◌-◌, ◌^◌, ◌≤◌, ◌<◌, Bool, true, false, List, [], ◌∷◌, ◌++◌, length, take, Option, Some, None, refl, sym, ap, subst, ◌∙◌, arith}
use Rattle.std.specs.Fmt.{decimal}
use Rattle.std.specs.Prelude.{slice_get}
use Rattle.std.proofs.lemmas.Bool.{cases_lt}
use Rattle.std.proofs.lemmas.Fmt.{decimal_injective}
use Rattle.std.proofs.lemmas.List.{length-take-le}
use Rattle.std.proofs.lemmas.Option.{same_Some, slice_get_within}
use Rattle.conformance.specs.Histories.{IsHistoryFrom}
use Rattle.delta_log.specs.Readable.{IsReadableCommit}
use Rattle.delta_log.specs.declared.commit.DeltaCommit.{DeltaCommit}
use Rattle.delta_log.specs.declared.commit.MetaData.{MetaData}
use Rattle.delta_table.specs.Log.{SaysCommit}
use Rattle.delta_table.specs.Versions.{HasVersion}
use Rattle.delta_table.proofs.PathLaws.{bytes_once, says_once}
use Rattle.lake_store.specs.Disk.{Files}
use Rattle.lake_store.specs.Fuse.{FuseCanBeContested, fuse_disk, room_of}
use Rattle.lake_store.specs.declared.fuse.FuseStore.{FuseStore}
use Rattle.source_core.specs.Histories.{IsAt, ShowsTable}
use Rattle.source_delta.specs.Heads.{IsTableId}
use Rattle.source_delta.specs.Since.{Reaches}
use Rattle.table_history.specs.History.{History}
use Rattle.table_history.specs.TypeTree.{ColumnTrees}
use Rattle.table_history.specs.declared.kind.Kind.TheVariants.{Delta}
use Rattle.table_history.specs.declared.table.Commit.{Commit}
use Rattle.table_history.specs.declared.table.Table.{Table}
use Rattle.target_core.specs.Meaning.{Meaning}
use Rattle.target_core.specs.Views.{IsAdvancedAll, IsUnpublished, Origin, SameView, Standing, View, standing_at}
use Rattle.target_sync.specs.Along.{GoesOnAlong, HasGoneTo, LeadsAsFar, StandsFrom}
use Rattle.target_sync.specs.Answered.{IsDone, IsUndisturbed}
use Rattle.target_sync.specs.Dues.{AreSinceMark, Due, IsIdBehind, IsInFull, MayBeSame, TakesCommits, origin_of}
use Rattle.target_sync.specs.Synced.{IsAsBefore, with_columns}
use Rattle.target_sync.specs.Targets.{TargetFacts}
use Rattle.target_sync.specs.declared.plan.Mode.TheVariants as modes
use Rattle.target_sync.specs.declared.status.Status.{Status}
use Rattle.lake_play.specs.Formats.{from_delta}
use Rattle.lake_play.specs.Playing.{Brings, scripted}
use Rattle.lake_play.specs.Scripted.{scripted_store}
use Rattle.lake_play.proofs.Histories.{entry_of, has_kept, holds_history, is_history, same_length}
use Rattle.lake_play.proofs.Logs.{HoldsCommits}
use Rattle.lake_play.proofs.Syncs.{alone}
use Rattle.lake_play.proofs.Targets.{shows_front, shows_whole}
use Rattle.lake_basics.proofs.Lists.{some_at}
use Rattle.target_hudi.specs.InspectLemmas.{none_is_some}

-- ---- the laws of a target that are used

pub record Counts (target : Meaning) : Type 0 where
  pub one_view : (files : Files) (v w : View) → target.reads files v → target.reads files w → SameView v w ⊎ (IsUnpublished v × IsUnpublished w)
  pub commits_read : (files : Files) (v : View) → target.reads files v → target.commits_in files ≡ v.commits

-- ---- views

pub advanced_count : (image : ColumnTrees → Option ColumnTrees) (origin : Origin) (start view : View) (commits : List Commit) → IsAdvancedAll image origin start commits view → view.commits ≡ start.commits + length commits
advanced_count image origin start view [] leads = let same = leads.commits in omega (arith, same)
advanced_count image origin start view (commit ∷ commits) leads =
    let one = leads.1.commits in
    let rest = advanced_count image origin leads.0 view commits leads.2 in
    omega (arith, one, rest)

-- the mark is the one before, or one of this origin
abbrev IsMarkBehind : Origin → View → View → Type 0
IsMarkBehind origin start view = (view.mark ≡ start.mark) ⊎ ((position : List ℕ) × (view.mark ≡ Some (standing_at origin position)))

advanced_mark : (image : ColumnTrees → Option ColumnTrees) (origin : Origin) (start view : View) (commits : List Commit) → IsAdvancedAll image origin start commits view → IsMarkBehind origin start view
advanced_mark image origin start view [] leads = inl (sym leads.mark)
advanced_mark image origin start view (commit ∷ commits) leads =
    ⊎_elim
    (λ (same : view.mark ≡ leads.0.mark). inr (commit.position, same ∙ leads.1.mark))
    (λ (newer : (position : List ℕ) × (view.mark ≡ Some (standing_at origin position))). inr newer)
    (advanced_mark image origin leads.0 view commits leads.2)

-- ---- one place in a history

module _ (target : Meaning) (counts : Counts target) (commits : List (List ℕ)) (history : History) (is : IsHistoryFrom 0 None commits history) (few : length commits ≤ 2 ^ 64) (files : Files) where
  place_of : (k : ℕ) (entry : List ℕ × Table) → slice_get history k ≡ Some entry → (entry.0 ≡ decimal k) × (k < 2 ^ 64)
  place_of k entry at =
      let none : 0 + k ≡ k = omega arith in
      let within : k < length history = slice_get_within history k entry at in
      let count = same_length 0 None commits history is in
      ((entry_of 0 None commits history is k entry at).position ∙ ap decimal none, omega (arith, within, count, few))

  same_place : (a b : ℕ) (v w : View) → target.reads files v → target.reads files w → ShowsTable Delta target.image history a v → ShowsTable Delta target.image history b w → a ≡ b
  same_place zero zero v w rv rw sv sw = refl
  same_place zero (suc b) v w rv rw sv sw =
      absurd (⊎_elim
      (λ (same : SameView v w). none_is_some v sw.2.standing sv (same.mark ∙ sw.2.mark))
      (λ (both : IsUnpublished v × IsUnpublished w). none_is_some w sw.2.standing both.1 sw.2.mark)
      (counts.one_view files v w rv rw))
  same_place (suc a) zero v w rv rw sv sw =
      absurd (⊎_elim
      (λ (same : SameView v w). none_is_some w sv.2.standing sw (sym same.mark ∙ sv.2.mark))
      (λ (both : IsUnpublished v × IsUnpublished w). none_is_some v sv.2.standing both.0 sv.2.mark)
      (counts.one_view files v w rv rw))
  same_place (suc a) (suc b) v w rv rw sv sw =
      ⊎_elim
      (λ (same : SameView v w).
      let one : sv.2.standing ≡ sw.2.standing = same_Some sv.2.standing sw.2.standing (sym sv.2.mark ∙ same.mark ∙ sw.2.mark) in
      let first = place_of a sv.0 sv.1 in
      let second = place_of b sw.0 sw.1 in
      let to : decimal a ≡ decimal b = sym first.0 ∙ sym sv.2.position ∙ ap (λ (s : Standing). s.to) one ∙ sw.2.position ∙ second.0 in
      ap suc (decimal_injective a b first.1 second.1 to))
      (λ (both : IsUnpublished v × IsUnpublished w). absurd (none_is_some v sv.2.standing both.0 sv.2.mark))
      (counts.one_view files v w rv rw)

  -- The target stands at one table alone.
  pub one_place : (a b : ℕ) → IsAt Delta target history files a → IsAt Delta target history files b → a ≡ b
  one_place a b x y = same_place a b x.view y.view x.reads y.reads x.shows y.shows

-- ---- what is kept

-- The id is what the metadata of the first commit states, as far as that can be read.
abbrev IsIdOf : List ℕ → List ℕ → Type 0
IsIdOf bytes id = (c : DeltaCommit) (m : MetaData) → IsReadableCommit bytes c → c.meta ≡ Some m → id ≡ m.id

-- the mark states that id
abbrev IsNamed : List (List ℕ) → Standing → Type 0
IsNamed all standing = (id : List ℕ) × (standing.origin.table ≡ Some id) × ((bytes : List ℕ) → slice_get all 0 ≡ Some bytes → IsIdOf bytes id)

-- The target has as many commits as it stands tables into the history, and its mark names the source's table. A commit is published, or the source has one
-- commit at most.
pub record IsOnce (target : Meaning) (history : History) (count : ℕ) (all : List (List ℕ)) (files : Files) : Type 0 where
  pub j : ℕ
  pub within : j ≤ count
  pub at : IsAt Delta target history files j
  pub commits : at.view.commits ≡ j
  pub named : (standing : Standing) → at.view.mark ≡ Some standing → IsNamed all standing
  pub early : (count ≤ 1) ⊎ (0 < j)

-- ---- one sync

module _ (target : TargetFacts) (counts : Counts target.files) (now : ℕ) (old new : FuseStore) (given : Status) (brings : Brings target modes.Sync now old new given) (none : FuseCanBeContested old → ⊥)
    (commits : List (List ℕ)) (log : HoldsCommits commits 0 (fuse_disk old)) (front rest : History) (is : IsHistoryFrom 0 None commits front) (few : length commits ≤ 2 ^ 64) (some : 0 < length commits)
    (all : List (List ℕ)) (heads : (bytes : List ℕ) → slice_get commits 0 ≡ Some bytes → slice_get all 0 ≡ Some bytes) (settled : target.files.settled (fuse_disk old))
    (was : IsOnce target.files (front ++ rest) (length commits) all (fuse_disk old).files) where
  abbrev before : Files
  before = (fuse_disk old).files

  abbrev after : Files
  after = (fuse_disk new).files

  whole : length front ≡ length commits
  whole = same_length 0 None commits front is

  inside : was.j ≤ length front
  inside = let e = whole in let up = was.within in omega (arith, e, up)

  abbrev start : View
  start = was.at.view

  abbrev here : IsAt Delta target.files front before was.j
  here = record { view = was.at.view; reads = was.at.reads; shows = shows_front target.files.image front rest was.j was.at.view inside was.at.shows }

  -- the first version
  first_bytes : (bytes : List ℕ) × (slice_get commits 0 ≡ Some bytes)
  first_bytes = some_at commits 0 some

  first_there : HasVersion before 0
  first_there = let first = first_bytes in (first.0, log.holds 0 first.0 (omega arith) first.1)

  -- what the first version says is that of the first commit
  says_first : (c : DeltaCommit) → SaysCommit before 0 c → (bytes : List ℕ) × (slice_get all 0 ≡ Some bytes) × IsReadableCommit bytes c
  says_first c says =
      let first = first_bytes in
      let same : says.bytes ≡ first.0 = bytes_once before 0 says.bytes first.0 says.holds (log.holds 0 first.0 (omega arith) first.1) in
      (first.0, heads first.0 first.1, subst (λ (b : List ℕ). IsReadableCommit b c) same says.readable)

  one_bytes : (a b : List ℕ) → slice_get all 0 ≡ Some a → slice_get all 0 ≡ Some b → a ≡ b
  one_bytes a b x y = same_Some a b (sym x ∙ y)

  -- ---- the ids

  some_meta : (m n : MetaData) → Some m ≡ Some n → m ≡ n
  some_meta m n e = cc

  head_named : (id : List ℕ) → IsTableId before (Some id) → (bytes : List ℕ) → slice_get all 0 ≡ Some bytes → IsIdOf bytes id
  head_named id table bytes at c m readable meta =
      let first = first_bytes in
      let same : first.0 ≡ bytes = one_bytes first.0 bytes (heads first.0 first.1) at in
      let says : SaysCommit before 0 c = record { bytes = first.0; holds = log.holds 0 first.0 (omega arith) first.1; readable = subst (λ (b : List ℕ). IsReadableCommit b c) (sym same) readable } in
      let one = says_once before 0 table.0 c table.3 says in
      table.5 ∙ ap (λ (x : MetaData). x.id) (some_meta table.1 m (sym table.4 ∙ ap (λ (x : DeltaCommit). x.meta) one ∙ meta))

  may_be_same : (head : Option (List ℕ)) → IsTableId before head → (standing : Standing) → IsNamed all standing → MayBeSame head standing.origin.table
  may_be_same None table standing named = tt
  may_be_same (Some id) table standing named =
      let first = says_first table.0 table.3 in
      let theirs : named.0 ≡ table.1.id = named.2 first.0 first.1 table.0 table.1 first.2 table.4 in
      subst (MayBeSame (Some id)) (sym named.1) (table.5 ∙ sym theirs)

  due_named : (due : Due from_delta modes.Sync before start) (head : Option (List ℕ)) → due.head.table ≡ head → (position : List ℕ) → IsNamed all (standing_at (origin_of due) position)
  due_named due None is position = absurd (subst (IsTableId before) is due.is_head.table first_there)
  due_named due (Some id) is position = (id, subst (λ (h : Option (List ℕ)). IsIdBehind from_delta before start h due.id) is due.is_id, head_named id (subst (IsTableId before) is due.is_head.table))

  -- ---- the way

  -- of a target with a mark the commits since it are taken
  reaches_on : (k : ℕ) → k < length commits → (due : Due from_delta modes.Sync before start) → (to : List ℕ) → to ≡ decimal k → Reaches before to
  reaches_on k less due to spelled = (
    k,
    due.is_head.newest,
    record {
      spelled = spelled;
      is = due.is_head.is;
      within =
          let last : length commits - 1 ≤ due.is_head.newest = due.is_head.is.last (length commits - 1) (has_kept commits 0 (fuse_disk old) log (length commits - 1) (omega arith) (omega (arith, some))) in
          omega (arith, last, less);
      later = λ v low up.
          let of = log.only due.is_head.newest due.is_head.is.there in
          let top = of.1 in
          has_kept commits 0 (fuse_disk old) log v (omega arith) (omega (arith, top, up));
    },
  )

  takes : (n : ℕ) → n ≤ length front → ShowsTable Delta target.files.image front n start → 0 < n → (due : Due from_delta modes.Sync before start) → TakesCommits from_delta modes.Sync before start
  takes zero le shows more due = absurd (omega (arith, more))
  takes (suc k) le shows more due =
      let none_added : 0 + k ≡ k = omega arith in
      let len = whole in
      let entry = shows.2 in
      let to : entry.standing.to ≡ decimal k = entry.position ∙ (entry_of 0 None commits front is k shows.0 shows.1).position ∙ ap decimal none_added in (
        refl,
        (
          entry.standing,
          entry.mark,
          (
            record { format = entry.format; head = due.head; is_head = due.is_head; table = may_be_same due.head.table due.is_head.table entry.standing (was.named entry.standing entry.mark) },
            reaches_on k (omega (arith, le, len)) due entry.standing.to to,
          ),
        ),
      )

  true_false : true ≡ false → ⊥
  true_false e = cc

  first_alone : (due : Due from_delta modes.Sync before start) → due.full ≡ true → was.j ≡ 0
  first_alone due full =
      ⊎_elim
      (λ (unpublished : was.j < 1). omega (arith, unpublished))
      (λ (published : 1 ≤ was.j).
      absurd (⊎_elim
      (λ (since : AreSinceMark from_delta modes.Sync before start due.partition due.commits due.full). true_false (sym full ∙ since.way))
      (λ (in_full : IsInFull from_delta modes.Sync before start due.head due.partition due.commits due.full). in_full.not_since (takes was.j inside here.shows published due))
      due.way))
      (cases_lt was.j 1)

  -- ---- where it stands

  goes : GoesOnAlong scripted_store from_delta target.files modes.Sync front was.j here.view (IsUndisturbed (Some brings.answer)) (IsDone (Some brings.answer)) (scripted (room_of old) old) (scripted brings.room new)
  goes = brings.sync.along.goes tt front (is_history commits front is few) (holds_history commits 0 (fuse_disk old) log some front is) was.j here settled

  on : StandsFrom from_delta target.files modes.Sync front was.j start before after
  on = goes.at_return (alone target modes.Sync now old new given brings none)

  abbrev Counted : Type 0
  Counted = (on.at.view.commits ≡ on.j) × ((standing : Standing) → on.at.view.mark ≡ Some standing → IsNamed all standing)

  marked_so : (view : View) → target.files.reads after view → (standing : Standing) → on.at.view.mark ≡ Some standing → (view.mark ≡ Some standing → IsNamed all standing) → IsNamed all standing
  marked_so view reads standing mark named =
      ⊎_elim
      (λ (same : SameView on.at.view view). named (sym same.mark ∙ mark))
      (λ (both : IsUnpublished on.at.view × IsUnpublished view). absurd (none_is_some on.at.view standing both.0 mark))
      (counts.one_view after on.at.view view on.at.reads reads)

  same_count : (view : View) → target.files.reads after view → on.at.view.commits ≡ view.commits
  same_count view reads = sym (counts.commits_read after on.at.view on.at.reads) ∙ counts.commits_read after view reads

  as_before : on.j ≡ was.j → IsAsBefore target.files start before after → Counted
  as_before stays before_it = (
    same_count before_it.view before_it.reads ∙ sym before_it.same.commits ∙ was.commits ∙ sym stays,
    λ standing mark. marked_so before_it.view before_it.reads standing mark (λ is. was.named standing (before_it.same.mark ∙ is)),
  )

  gone : HasGoneTo from_delta target.files modes.Sync front was.j on.j start before after → Counted
  gone by =
      let base : View = with_columns by.due.partition start in
      let within = by.gained.within in
      let taken : length (take by.count by.due.commits) ≡ by.count = length-take-le by.count by.due.commits within in
      let grown = advanced_count target.files.image (origin_of by.due) base by.gained.view (take by.count by.due.commits) by.gained.leads in
      let first = was.commits in
      let count : by.gained.view.commits ≡ was.j + by.count = omega (arith, grown, taken, first) in (
        same_count by.gained.view by.gained.stands ∙ count ∙ sym (as_far by.due.full refl by.as_far),
        λ standing mark. marked_so by.gained.view by.gained.stands standing mark (λ is.
            ⊎_elim
            (λ (same : by.gained.view.mark ≡ start.mark). was.named standing (sym same ∙ is))
            (λ (newer : (position : List ℕ) × (by.gained.view.mark ≡ Some (standing_at (origin_of by.due) position))).
            subst (IsNamed all) (same_Some (standing_at (origin_of by.due) newer.0) standing (sym newer.1 ∙ is)) (due_named by.due by.due.head.table refl newer.0))
            (advanced_mark target.files.image (origin_of by.due) base by.gained.view (take by.count by.due.commits) by.gained.leads)),
      )
    where
      as_far : (full : Bool) → by.due.full ≡ full → LeadsAsFar full front was.j by.count on.j → on.j ≡ was.j + by.count
      as_far false full far = far
      as_far true full (inl far) = let none_more = far.0 in let stays = far.1 in omega (arith, none_more, stays)
      as_far true full (inr far) =
          let one = far.0 in
          let last = far.1 in
          let unpublished = first_alone by.due full in
          let e = whole in
          let single : length commits ≡ 1 = ⊎_elim (λ (few_commits : length commits ≤ 1). omega (arith, few_commits, some)) (λ (published : 0 < was.j). absurd (omega (arith, published, unpublished))) was.early in
          omega (arith, one, last, unpublished, e, single)

  counted : Counted
  counted = ⊎_elim (λ (stays : (on.j ≡ was.j) × IsAsBefore target.files start before after). as_before stays.0 stays.1) gone on.by

  -- It has one commit for each table again.
  pub once_more : IsOnce target.files (front ++ rest) (length commits) all after
  once_more =
      let e = whole in
      let up = on.within in
      let from = on.from in
      record {
        j = on.j;
        within = omega (arith, up, e);
        at = record { view = on.at.view; reads = on.at.reads; shows = shows_whole target.files.image front rest on.j on.at.view up on.at.shows };
        commits = counted.0;
        named = counted.1;
        early = ⊎_elim (λ (few_commits : length commits ≤ 1). inl few_commits) (λ (published : 0 < was.j). inr (omega (arith, published, from))) was.early;
      }
