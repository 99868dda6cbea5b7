-- A target that is synced before each commit but the first has one commit for each table, whatever else happens.
use Rattle.std.proofs.Common.{◌≡◌, ◌⊎◌, inl, inr, ⊎_elim, ℕ, ◌+◌, ◌^◌, ◌≤◌, ◌<◌, max, min, Bool, true, false, List, [], ◌∷◌, ◌++◌, length, Option, Some, None, refl, sym, ap, subst, ◌∙◌, arith}
use Rattle.std.specs.Prelude.{slice_get}
use Rattle.std.proofs.lemmas.Bool.{cases_lt, false≢true}
use Rattle.std.proofs.lemmas.Option.{slice_get_within}
use Rattle.std.proofs.lemmas.List.{append-nil, append_assoc, length-append}
use Rattle.conformance.specs.Histories.{AreInOrder, IsHistoryFrom, IsHistoryOf, extensions}
use Rattle.conformance.specs.declared.event.Event.{Event}
use Rattle.conformance.specs.declared.event.Event.TheVariants as event
use Rattle.conformance.proofs.Legal.{last_more, last_table}
use Rattle.lake_store.specs.Disk.{Disk, Files, MayLeave}
use Rattle.lake_store.specs.Fuse.{FuseCanBeContested, fuse_disk}
use Rattle.lake_store.specs.declared.fuse.FuseStore.{FuseStore}
use Rattle.source_core.specs.Histories.{IsAt}
use Rattle.table_history.specs.History.{History}
use Rattle.table_history.specs.declared.kind.Kind.{Kind}
use Rattle.table_history.specs.declared.kind.Kind.TheVariants.{Delta, Hudi, Iceberg}
use Rattle.table_history.specs.declared.table.Table.{Table}
use Rattle.target_core.specs.Folders.{SameIn, folder_of}
use Rattle.target_core.specs.Meaning.{Meaning}
use Rattle.target_hudi.specs.ViewLemmas as hudi_view
use Rattle.target_hudi.specs.InspectLemmas.{none_is_some}
use Rattle.target_iceberg.specs.CountLemmas as iceberg_count
use Rattle.target_iceberg.specs.IcebergMeaning.{iceberg_meaning}
use Rattle.target_iceberg.specs.TableId.{table_id}
use Rattle.target_iceberg.specs.ViewLemmas as iceberg_view
use Rattle.target_iceberg.specs.declared.target.IcebergTarget.{IcebergTarget}
use Rattle.target_sync.specs.Targets.{TargetFacts, target_facts}
use Rattle.target_sync.specs.declared.plan.Mode.{Mode}
use Rattle.target_sync.specs.declared.plan.Mode.TheVariants as modes
use Rattle.target_sync.specs.declared.status.Status.{Status}
use Rattle.lake_play.specs.Formats.{place, to_hudi, to_iceberg}
use Rattle.lake_play.specs.Playing.{Extends, IsSynced, PlaysAll, nothing_played, with_answer}
use Rattle.lake_play.specs.Standing.{BothHaveEachOnce, HasEachOnce, IsFresh, IsSyncedEarly, floor_behind, is_same, meaning_of_hudi, meaning_of_iceberg}
use Rattle.lake_play.specs.declared.playing.Progress.{Progress}
use Rattle.lake_play.proofs.Histories.{same_length}
use Rattle.lake_play.proofs.Once.{Counts, IsOnce, once_more, one_place}
use Rattle.lake_play.proofs.Plays.{Keeps, begins, crash_keeps, extend_keeps, nothing_keeps, shorten_keeps, sync_keeps}
use Rattle.lake_play.proofs.Syncs.{floor_other, same_beside}
use Rattle.lake_play.proofs.Targets.{IsPlayed, Laws, at_front, first_get, hudi_laws, iceberg_laws}
use Rattle.lake_play.proofs.Logs.{extended_elsewhere}
use Rattle.target_core.proofs.Apart.{folders_apart}
use Rattle.target_core.proofs.Unpublished.{no_commits}
use Rattle.delta_table.specs.SameVersions.{version_in}
use Rattle.delta_table.specs.Versions.{log_folder}
use Rattle.lake_store.specs.Runs.{IsIn}

-- ---- the two targets

pub hudi_counts : Counts meaning_of_hudi
hudi_counts = record { one_view = hudi_view.one_view; commits_read = hudi_view.commits_read }

pub iceberg_counts : (id : List ℕ) → Counts (iceberg_meaning id)
iceberg_counts id = record { one_view = iceberg_view.one_view; commits_read = iceberg_count.commits_read }

-- the first of the commits so far is the first of them all
abbrev Heads : List (List ℕ) → List (List ℕ) → Type 0
Heads commits all = (bytes : List ℕ) → slice_get commits 0 ≡ Some bytes → slice_get all 0 ≡ Some bytes

-- What is used of a target: its floor, where it stands, what its own sync makes of that, and that another target's sync leaves its files.
pub record Side (kind : Kind) (target : Meaning) : Type 0 where
  pub is_kind : target.kind ≡ kind
  pub apart : Delta ≡ kind → ⊥
  pub laws : Laws target
  pub counts : Counts target
  pub floor : ℕ → ℕ → ℕ
  pub floors : (synced : Kind) (count hudi iceberg : ℕ) (given : Status) → floor (floor_behind Hudi synced count hudi given) (floor_behind Iceberg synced count iceberg given) ≡ floor_behind kind synced count (floor hudi iceberg) given
  pub played : (history : History) (commits : List (List ℕ)) (front behind : History) (first hudi iceberg : ℕ) (store : FuseStore) → Keeps history commits front behind first hudi iceberg store → IsPlayed target history (floor hudi iceberg) (length commits) (fuse_disk store)
  pub synced : (history : History) (commits : List (List ℕ)) (front behind : History) (hudi iceberg now : ℕ) (old new : FuseStore) (given : Status) (all : List (List ℕ)) → Keeps history commits front behind 0 hudi iceberg old
      → length commits ≤ 2 ^ 64 → 0 < length commits → Heads commits all → IsSynced kind modes.Sync now old new given → IsOnce target history (length commits) all (fuse_disk old).files → IsOnce target history (length commits) all (fuse_disk new).files
  pub beside : (other : Kind) (mode : Mode) (now : ℕ) (old new : FuseStore) (given : Status) → is_same kind other ≡ false → (FuseCanBeContested old → ⊥) → IsSynced other mode now old new given → SameIn (folder_of kind) (fuse_disk old).files (fuse_disk new).files

pub same_kind : (a b : Kind) → is_same a b ≡ true → a ≡ b
same_kind Delta Delta is = refl
same_kind Delta Hudi is = absurd (false≢true is)
same_kind Delta Iceberg is = absurd (false≢true is)
same_kind Hudi Delta is = absurd (false≢true is)
same_kind Hudi Hudi is = refl
same_kind Hudi Iceberg is = absurd (false≢true is)
same_kind Iceberg Delta is = absurd (false≢true is)
same_kind Iceberg Hudi is = absurd (false≢true is)
same_kind Iceberg Iceberg is = refl

heads : (commits more : List (List ℕ)) {all : List (List ℕ)} → all ≡ commits ++ more → Heads commits all
heads commits more whole bytes at = ap (λ (l : List (List ℕ)). slice_get l 0) whole ∙ first_get commits more 0 (slice_get_within commits 0 bytes at) ∙ at

same_disk : (kind : Kind) (old new : FuseStore) → new ≡ old → SameIn (folder_of kind) (fuse_disk old).files (fuse_disk new).files
same_disk kind old new is = subst (λ (s : FuseStore). SameIn (folder_of kind) (fuse_disk old).files (fuse_disk s).files) (sym is) (λ path within. refl)

same_once : (target : Meaning) (history : History) (count : ℕ) (all : List (List ℕ)) (old new : FuseStore) → new ≡ old → IsOnce target history count all (fuse_disk old).files → IsOnce target history count all (fuse_disk new).files
same_once target history count all old new is once = subst (λ (s : FuseStore). IsOnce target history count all (fuse_disk s).files) (sym is) once

pub hudi_side : Side Hudi meaning_of_hudi
hudi_side = record {
  is_kind = refl;
  apart = λ e. cc;
  laws = hudi_laws;
  counts = hudi_counts;
  floor = λ hudi iceberg. hudi;
  floors = λ synced count hudi iceberg given. refl;
  played = λ history commits front behind first hudi iceberg store keeps. keeps.to_hudi;
  synced = by;
  beside = besides;
}
  where
    by : (history : History) (commits : List (List ℕ)) (front behind : History) (hudi iceberg now : ℕ) (old new : FuseStore) (given : Status) (all : List (List ℕ)) → Keeps history commits front behind 0 hudi iceberg old
        → length commits ≤ 2 ^ 64 → 0 < length commits → Heads commits all → IsSynced Hudi modes.Sync now old new given → IsOnce meaning_of_hudi history (length commits) all (fuse_disk old).files → IsOnce meaning_of_hudi history (length commits) all (fuse_disk new).files
    by history commits front behind hudi iceberg now old new given all keeps few some heads (inl gave_up) was = same_once meaning_of_hudi history (length commits) all old new gave_up.1 was
    by history commits front behind hudi iceberg now old new given all keeps few some heads (inr is) was =
        let facts : TargetFacts = target_facts to_hudi is.0 in
        subst (λ (h : History). IsOnce meaning_of_hudi h (length commits) all (fuse_disk new).files) (sym keeps.split)
        (once_more facts hudi_counts now old new given is.2 keeps.uncontested commits keeps.log front behind keeps.made few some all heads keeps.to_hudi.settled
        (subst (λ (h : History). IsOnce meaning_of_hudi h (length commits) all (fuse_disk old).files) keeps.split was))

    besides : (other : Kind) (mode : Mode) (now : ℕ) (old new : FuseStore) (given : Status) → is_same Hudi other ≡ false → (FuseCanBeContested old → ⊥) → IsSynced other mode now old new given → SameIn (folder_of Hudi) (fuse_disk old).files (fuse_disk new).files
    besides Delta mode now old new given not none is = same_disk Hudi old new is.1
    besides Hudi mode now old new given not none is = absurd (false≢true (sym not))
    besides Iceberg mode now old new given not none (inl is) = same_disk Hudi old new is.1
    besides Iceberg mode now old new given not none (inr is) = same_beside (target_facts to_iceberg is.0) mode now old new given is.3 none Hudi (λ e. cc)

pub iceberg_side : Side Iceberg meaning_of_iceberg
iceberg_side = record {
  is_kind = refl;
  apart = λ e. cc;
  laws = iceberg_laws;
  counts = iceberg_counts (table_id place);
  floor = λ hudi iceberg. iceberg;
  floors = λ synced count hudi iceberg given. refl;
  played = λ history commits front behind first hudi iceberg store keeps. keeps.to_iceberg;
  synced = by;
  beside = besides;
}
  where
    by_id : (target : IcebergTarget) (id : List ℕ) → target.id ≡ id → (history : History) (commits : List (List ℕ)) (all : List (List ℕ)) (files : Files) → IsOnce (iceberg_meaning id) history (length commits) all files → IsOnce (iceberg_meaning target.id) history (length commits) all files
    by_id target id same history commits all files h = subst (λ (i : List ℕ). IsOnce (iceberg_meaning i) history (length commits) all files) (sym same) h

    by : (history : History) (commits : List (List ℕ)) (front behind : History) (hudi iceberg now : ℕ) (old new : FuseStore) (given : Status) (all : List (List ℕ)) → Keeps history commits front behind 0 hudi iceberg old
        → length commits ≤ 2 ^ 64 → 0 < length commits → Heads commits all → IsSynced Iceberg modes.Sync now old new given → IsOnce meaning_of_iceberg history (length commits) all (fuse_disk old).files → IsOnce meaning_of_iceberg history (length commits) all (fuse_disk new).files
    by history commits front behind hudi iceberg now old new given all keeps few some heads (inl gave_up) was = same_once meaning_of_iceberg history (length commits) all old new gave_up.1 was
    by history commits front behind hudi iceberg now old new given all keeps few some heads (inr is) was =
        let facts : TargetFacts = target_facts to_iceberg is.0 in
        let settled = subst (λ (i : List ℕ). (iceberg_meaning i).settled (fuse_disk old)) (sym is.1) keeps.to_iceberg.settled in
        let made = once_more facts (iceberg_counts is.0.id) now old new given is.3 keeps.uncontested commits keeps.log front behind keeps.made few some all heads settled
        (subst (λ (h : History). IsOnce (iceberg_meaning is.0.id) h (length commits) all (fuse_disk old).files) keeps.split (by_id is.0 (table_id place) is.1 history commits all (fuse_disk old).files was)) in
        subst (λ (i : List ℕ). IsOnce (iceberg_meaning i) history (length commits) all (fuse_disk new).files) is.1
        (subst (λ (h : History). IsOnce (iceberg_meaning is.0.id) h (length commits) all (fuse_disk new).files) (sym keeps.split) made)

    besides : (other : Kind) (mode : Mode) (now : ℕ) (old new : FuseStore) (given : Status) → is_same Iceberg other ≡ false → (FuseCanBeContested old → ⊥) → IsSynced other mode now old new given → SameIn (folder_of Iceberg) (fuse_disk old).files (fuse_disk new).files
    besides Delta mode now old new given not none is = same_disk Iceberg old new is.1
    besides Hudi mode now old new given not none (inl is) = same_disk Iceberg old new is.1
    besides Hudi mode now old new given not none (inr is) = same_beside (target_facts to_hudi is.0) mode now old new given is.2 none Iceberg (λ e. cc)
    besides Iceberg mode now old new given not none is = absurd (false≢true (sym not))

-- ---- one event

-- The other answers, and that one commit stands for each table behind these events, where it did before them.
record Ends (kind : Kind) (target : Meaning) (history : History) (all : List (List ℕ)) (events : List Event) (before after : Progress) (count total floor : ℕ) (old new : FuseStore) : Type 0 where
  answers : List Status
  told : after.answers ≡ before.answers ++ answers
  settled : target.settled (fuse_disk new)
  once : before.first ≡ 0 → IsSyncedEarly kind count floor events answers → IsOnce target history count all (fuse_disk old).files → IsOnce target history total all (fuse_disk new).files

module _ (kind : Kind) (target : Meaning) (side : Side kind target) (history : History) (all : List (List ℕ)) where
  moved_once : (count : ℕ) (a b : Files) → SameIn (folder_of kind) a b → IsOnce target history count all a → IsOnce target history count all b
  moved_once count a b same once = record {
    j = once.j;
    within = once.within;
    at = record { view = once.at.view; reads = side.laws.reads_own a b once.at.view (subst (λ (k : Kind). SameIn (folder_of k) a b) (sym side.is_kind) same) once.at.reads; shows = once.at.shows };
    commits = once.commits;
    named = once.named;
    early = once.early;
  }

  crashed_once : (count : ℕ) (disk : Disk) (image : Files) → target.settled disk → MayLeave disk image → IsOnce target history count all disk.files → IsOnce target history count all image
  crashed_once count disk image settled may once = record {
    j = once.j;
    within = once.within;
    at = record { view = once.at.view; reads = side.laws.crash_reads disk image once.at.view settled (λ path own clean. may path clean) once.at.reads; shows = once.at.shows };
    commits = once.commits;
    named = once.named;
    early = once.early;
  }

  -- before the first commit nothing is published
  first_once : (commits : List (List ℕ)) (front behind : History) (first hudi iceberg : ℕ) (store : FuseStore) → length commits ≡ 0 → Keeps history commits front behind first hudi iceberg store → IsOnce target history (length commits) all (fuse_disk store).files
  first_once commits front behind first hudi iceberg store empty keeps =
      let played = side.played history commits front behind first hudi iceberg store keeps in
      let up = played.stands.up_to in
      let none : played.stands.j ≡ 0 = omega (arith, up, empty) in
      let at : IsAt Delta target history (fuse_disk store).files 0 = subst (IsAt Delta target history (fuse_disk store).files) none played.stands.at in
      record {
        j = 0;
        within = omega arith;
        at = at;
        commits = no_commits at.view at.shows;
        named = λ standing mark. absurd (none_is_some at.view standing at.shows mark);
        early = inl (omega (arith, empty));
      }

  -- one commit more of the source
  extended_once : (commits : List (List ℕ)) (front behind : History) (hudi iceberg : ℕ) (old new : FuseStore) → length commits ≤ 2 ^ 64 → Keeps history commits front behind 0 hudi iceberg old
      → (length commits ≡ 0) ⊎ (0 < side.floor hudi iceberg) → SameIn (folder_of kind) (fuse_disk old).files (fuse_disk new).files
      → IsOnce target history (length commits) all (fuse_disk old).files → IsOnce target history (length commits + 1) all (fuse_disk new).files
  extended_once commits front behind hudi iceberg old new few keeps may same once =
      let up = once.within in
      record {
        j = once.j;
        within = omega (arith, up);
        at = record { view = once.at.view; reads = side.laws.reads_own (fuse_disk old).files (fuse_disk new).files once.at.view (subst (λ (k : Kind). SameIn (folder_of k) (fuse_disk old).files (fuse_disk new).files) (sym side.is_kind) same) once.at.reads; shows = once.at.shows };
        commits = once.commits;
        named = once.named;
        early = ⊎_elim (λ (none : length commits ≡ 0). inl (omega (arith, none))) (λ (some : 0 < side.floor hudi iceberg). inr (published some)) may;
      }
    where
      published : 0 < side.floor hudi iceberg → 0 < once.j
      published some =
          let played = side.played history commits front behind 0 hudi iceberg old keeps in
          let count = same_length 0 None commits front keeps.made in
          let up = played.stands.up_to in
          let low = played.stands.from_there in
          let top = once.within in
          let one = one_place target side.counts commits front keeps.made few (fuse_disk old).files played.stands.j once.j
          (at_front target front behind (fuse_disk old).files played.stands.j (omega (arith, up, count)) (subst (λ (h : History). IsAt Delta target h (fuse_disk old).files played.stands.j) keeps.split played.stands.at))
          (at_front target front behind (fuse_disk old).files once.j (omega (arith, top, count)) (subst (λ (h : History). IsAt Delta target h (fuse_disk old).files once.j) keeps.split once.at)) in
          omega (arith, one, low, some)

  -- a sync
  synced_once : (commits : List (List ℕ)) (front behind : History) (first hudi iceberg now : ℕ) (old new : FuseStore) (synced : Kind) (given : Status) → first ≡ 0 → length commits ≤ 2 ^ 64 → Heads commits all
      → Keeps history commits front behind first hudi iceberg old
      → Keeps history commits front behind first (floor_behind Hudi synced (length commits) hudi given) (floor_behind Iceberg synced (length commits) iceberg given) new
      → IsSynced synced modes.Sync now old new given → IsOnce target history (length commits) all (fuse_disk old).files → IsOnce target history (length commits) all (fuse_disk new).files
  synced_once commits front behind first hudi iceberg now old new synced given none few heads keeps kept is once =
      ⊎_elim
      (λ (empty : length commits < 1). first_once commits front behind first (floor_behind Hudi synced (length commits) hudi given) (floor_behind Iceberg synced (length commits) iceberg given) new (omega (arith, empty)) kept)
      (λ (some : 1 ≤ length commits). by (is_same kind synced) refl some)
      (cases_lt (length commits) 1)
    where
      by : (b : Bool) → is_same kind synced ≡ b → 0 < length commits → IsOnce target history (length commits) all (fuse_disk new).files
      by true own some =
          side.synced history commits front behind hudi iceberg now old new given all (subst (λ (n : ℕ). Keeps history commits front behind n hudi iceberg old) none keeps) few some heads
          (subst (λ (k : Kind). IsSynced k modes.Sync now old new given) (sym (same_kind kind synced own)) is) once
      by false other some = moved_once (length commits) (fuse_disk old).files (fuse_disk new).files (side.beside synced modes.Sync now old new given other keeps.uncontested is) once

-- ---- events one after another

module _ (kind : Kind) (target : Meaning) (side : Side kind target) (history : History) (all : List (List ℕ)) (total now : ℕ) (few : total ≤ 2 ^ 64) where
  once_on : (events : List Event) (commits : List (List ℕ)) (front behind : History) (hudi iceberg : ℕ) (before : Progress) (old : FuseStore) (after : Progress) (new : FuseStore)
      → Keeps history commits front behind before.first hudi iceberg old → before.next ≡ length commits → total ≡ length commits + length (extensions events) → all ≡ commits ++ extensions events
      → PlaysAll now events before old after new → AreInOrder (length commits) events → IsHistoryFrom (length commits) (last_table None front) (extensions events) behind
      → Ends kind target history all events before after (length commits) total (side.floor hudi iceberg) old new
  once_on [] commits front behind hudi iceberg before old after new keeps next sum whole plays order made =
      let here : length commits ≡ total = omega (arith, sum) in
      record {
        answers = [];
        told = sym (ap (λ (p : Progress). p.answers) plays.0) ∙ sym (append-nil before.answers);
        settled = subst (λ (s : FuseStore). target.settled (fuse_disk s)) plays.1 (side.played history commits front behind before.first hudi iceberg old keeps).settled;
        once = λ none early once. subst (λ (n : ℕ). IsOnce target history n all (fuse_disk new).files) here (subst (λ (s : FuseStore). IsOnce target history (length commits) all (fuse_disk s).files) plays.1 once);
      }
  once_on (event.Extend bytes ∷ events) commits front [] hudi iceberg before old after new keeps next sum whole plays order made = absurd made
  once_on (event.Extend bytes ∷ events) commits front (entry ∷ more) hudi iceberg before old after new keeps next sum whole plays order made =
      let between = plays.1 in
      let mid : Progress = record before { next = before.next + 1 } in
      let grown : length (commits ++ bytes ∷ []) ≡ length commits + 1 = length-append commits (bytes ∷ []) in
      let is : Extends (length commits) bytes old between = subst (λ (n : ℕ). Extends n bytes old between) next plays.2.0 in
      let rest : PlaysAll now events mid between after new = subst (λ (m : Progress). PlaysAll now events m between after new) plays.2.1 plays.3 in
      let kept = extend_keeps history commits front (entry ∷ more) before.first hudi iceberg old between keeps bytes entry more is refl made.1 made.0 in
      let same : SameIn (folder_of kind) (fuse_disk old).files (fuse_disk between).files = λ path within.
      extended_elsewhere (fuse_disk old) (fuse_disk between) is.path bytes path is.disk (λ e. folders_apart kind Delta side.apart path within (subst (IsIn log_folder) (sym e) (version_in is.path (length commits) is.is))) in
      let ends = once_on events (commits ++ bytes ∷ []) (front ++ entry ∷ []) more hudi iceberg mid between after new kept (omega (arith, next, grown)) (omega (arith, sum, grown))
      (whole ∙ sym (append_assoc commits (bytes ∷ []) (extensions events))) rest
      (subst (λ (n : ℕ). AreInOrder n events) (sym grown) order)
      (subst (λ (o : Option Table). IsHistoryFrom (length (commits ++ bytes ∷ [])) o (extensions events) more) (sym (last_more None front entry))
      (subst (λ (n : ℕ). IsHistoryFrom n (Some entry.1) (extensions events) more) (sym grown) made.2)) in
      record {
        answers = ends.answers;
        told = ends.told;
        settled = ends.settled;
        once = λ none early once. ends.once none (subst (λ (n : ℕ). IsSyncedEarly kind n (side.floor hudi iceberg) events ends.answers) (sym grown) early.1)
            (subst (λ (n : ℕ). IsOnce target history n all (fuse_disk between).files) (sym grown)
            (extended_once kind target side history all commits front (entry ∷ more) hudi iceberg old between (omega (arith, sum, few)) (subst (λ (n : ℕ). Keeps history commits front (entry ∷ more) n hudi iceberg old) none keeps) early.0 same once));
      }
  once_on (event.Shorten below ∷ events) commits front behind hudi iceberg before old after new keeps next sum whole plays order made =
      let between = plays.1 in
      let low = order.0 in
      let to : min below before.next ≡ below = omega (arith, low, next) in
      let mid : Progress = record before { first = max before.first (min below before.next) } in
      let rest : PlaysAll now events mid between after new = subst (λ (m : Progress). PlaysAll now events m between after new) plays.2.1 plays.3 in
      let kept = shorten_keeps history commits front behind before.first hudi iceberg old between keeps (min below before.next) plays.2.0 (omega (arith, to, low)) in
      let ends = once_on events commits front behind hudi iceberg mid between after new kept next sum whole rest order.1 made in
      record { answers = ends.answers; told = ends.told; settled = ends.settled; once = λ none early once. absurd early }
  once_on (event.Sync synced ∷ events) commits front behind hudi iceberg before old after new keeps next sum whole plays order made =
      let between = plays.1 in
      let given = plays.2.0 in
      let rest : PlaysAll now events (with_answer before given) between after new = subst (λ (m : Progress). PlaysAll now events m between after new) plays.2.2 plays.3 in
      let fit : length commits ≤ 2 ^ 64 = omega (arith, sum, few) in
      let kept = sync_keeps history commits front behind before.first hudi iceberg old between keeps fit modes.Sync now given synced plays.2.1 in
      let ends = once_on events commits front behind (floor_behind Hudi synced (length commits) hudi given) (floor_behind Iceberg synced (length commits) iceberg given) (with_answer before given) between after new kept next sum whole rest order.1 made in
      record {
        answers = given ∷ ends.answers;
        told = ends.told ∙ append_assoc before.answers (given ∷ []) ends.answers;
        settled = ends.settled;
        once = λ none early once. ends.once none (subst (λ (n : ℕ). IsSyncedEarly kind (length commits) n events ends.answers) (sym (side.floors synced (length commits) hudi iceberg given)) early)
            (synced_once kind target side history all commits front behind before.first hudi iceberg now old between synced given none fit (heads commits (extensions events) whole) keeps kept plays.2.1 once);
      }
  once_on (event.Full synced ∷ events) commits front behind hudi iceberg before old after new keeps next sum whole plays order made =
      let between = plays.1 in
      let given = plays.2.0 in
      let rest : PlaysAll now events (with_answer before given) between after new = subst (λ (m : Progress). PlaysAll now events m between after new) plays.2.2 plays.3 in
      let kept = sync_keeps history commits front behind before.first hudi iceberg old between keeps (omega (arith, sum, few)) modes.Full now given synced plays.2.1 in
      let ends = once_on events commits front behind (floor_behind Hudi synced (length commits) hudi given) (floor_behind Iceberg synced (length commits) iceberg given) (with_answer before given) between after new kept next sum whole rest order.1 made in
      record {
        answers = given ∷ ends.answers;
        told = ends.told ∙ append_assoc before.answers (given ∷ []) ends.answers;
        settled = ends.settled;
        once = λ none early once. ends.once none
            (subst (λ (n : ℕ). IsSyncedEarly kind (length commits) n events ends.answers) (sym (side.floors synced (length commits) hudi iceberg given ∙ floor_other kind synced (length commits) (side.floor hudi iceberg) given early.0)) early.1)
            (moved_once kind target side history all (length commits) (fuse_disk old).files (fuse_disk between).files (side.beside synced modes.Full now old between given early.0 keeps.uncontested plays.2.1) once);
      }
  once_on (event.Stop call ∷ events) commits front behind hudi iceberg before old after new keeps next sum whole plays order made =
      let between = plays.1 in
      let rest : PlaysAll now events before between after new = subst (λ (m : Progress). PlaysAll now events m between after new) plays.2.1 plays.3 in
      let kept = nothing_keeps history commits front behind before.first hudi iceberg old between keeps (Some call) plays.2.0 in
      let ends = once_on events commits front behind hudi iceberg before between after new kept next sum whole rest order made in
      record { answers = ends.answers; told = ends.told; settled = ends.settled; once = λ none early once. ends.once none early (subst (λ (s : FuseStore). IsOnce target history (length commits) all (fuse_disk s).files) (sym plays.2.0) once) }
  once_on (event.Crash choices ∷ events) commits front behind hudi iceberg before old after new keeps next sum whole plays order made =
      let between = plays.1 in
      let rest : PlaysAll now events before between after new = subst (λ (m : Progress). PlaysAll now events m between after new) plays.2.1 plays.3 in
      let kept = crash_keeps history commits front behind before.first hudi iceberg old between keeps choices plays.2.0 in
      let settled = (side.played history commits front behind before.first hudi iceberg old keeps).settled in
      let ends = once_on events commits front behind hudi iceberg before between after new kept next sum whole rest order made in
      record {
        answers = ends.answers;
        told = ends.told;
        settled = ends.settled;
        once = λ none early once. ends.once none early (crashed_once kind target side history all (length commits) (fuse_disk old) (fuse_disk between).files settled plays.2.0.image once);
      }

-- ---- from the start

module _ (kind : Kind) (target : Meaning) (side : Side kind target) (now : ℕ) (events : List Event) (old : FuseStore) (after : Progress) (new : FuseStore) (few : length (extensions events) ≤ 2 ^ 64)
    (plays : PlaysAll now events nothing_played old after new) (order : AreInOrder 0 events) (fresh : IsFresh old) (history : History) (is : IsHistoryOf events history) where
  abbrev all : List (List ℕ)
  all = extensions events

  keeps : Keeps history [] [] history 0 0 0 old
  keeps = begins history old fresh

  floor_none : side.floor 0 0 ≡ 0
  floor_none =
      let played = side.played history [] [] history 0 0 0 old keeps in
      let low = played.stands.from_there in
      let up = played.stands.up_to in
      omega (arith, low, up)

  ends : Ends kind target history all events nothing_played after 0 (length all) (side.floor 0 0) old new
  ends = once_on kind target side history all (length all) now few events [] [] history 0 0 nothing_played old after new keeps refl (omega arith) refl plays order is

  started : IsOnce target history 0 all (fuse_disk old).files
  started = first_once kind target side history all [] [] history 0 0 0 old refl keeps

  each_once : (image : Files) → MayLeave (fuse_disk new) image → HasEachOnce target events after.answers history image
  each_once image may early j at =
      let synced : IsSyncedEarly kind 0 (side.floor 0 0) events ends.answers = subst (λ (n : ℕ). IsSyncedEarly kind 0 n events ends.answers) (sym floor_none)
      (subst (λ (answers : List Status). IsSyncedEarly kind 0 0 events answers) ends.told (subst (λ (k : Kind). IsSyncedEarly k 0 0 events after.answers) side.is_kind early)) in
      let once = crashed_once kind target side history all (length all) (fuse_disk new) image ends.settled may (ends.once refl synced started) in
      side.counts.commits_read image once.at.view once.at.reads ∙ once.commits ∙ one_place target side.counts all history is few image once.j j once.at at

pub once_after : (now : ℕ) (events : List Event) (old : FuseStore) (after : Progress) (new : FuseStore) → length (extensions events) ≤ 2 ^ 64 → PlaysAll now events nothing_played old after new → AreInOrder 0 events → IsFresh old
    → (history : History) → IsHistoryOf events history → BothHaveEachOnce events after.answers history (fuse_disk new)
once_after now events old after new few plays order fresh history is image may = (
  each_once Hudi meaning_of_hudi hudi_side now events old after new few plays order fresh history is image may,
  each_once Iceberg meaning_of_iceberg iceberg_side now events old after new few plays order fresh history is image may,
)
