-- The manifests of a drill's Iceberg target have at most one entry for each file that was added.
use Rattle.std.proofs.Common.{zero, suc, Bool, true, false, ◌^◌, take, drop, ◌≡◌, ◌≢◌, ◌⊎◌, inl, inr, ⊎_elim, ℕ, ◌+◌, ◌*◌, ◌≤◌, ◌<◌, List, [], ◌∷◌, ◌++◌, length, Contains, Option, Some, None, refl, sym, ap, subst, ◌∙◌, arith}
use Rattle.std.specs.Prelude.{get_or, slice_get, unwrap_or}
use Rattle.std.specs.FinMap as map
use Rattle.conformance.proofs.Paths.{path_is}
use Rattle.schema_map.specs.Image.{wide_columns}
use Rattle.table_history.proofs.Laws.{change_fits, change_leads, change_of_same_rows}
use Rattle.table_history.proofs.TableLemmas.{distinct_order}
use Rattle.table_history.specs.Path.{IsPath}
use Rattle.table_history.specs.Row.{Row}
use Rattle.table_history.specs.Rows.{HasDistinctPaths, SameRows, paths_of}
use Rattle.table_history.specs.Tables.{CanApply, IsDiff}
use Rattle.table_history.specs.TypeTree.{ColumnTrees}
use Rattle.table_history.specs.declared.table.Commit.{Commit}
use Rattle.iceberg_metadata.specs.Writing.{metadata_text}
use Rattle.iceberg_metadata.specs.declared.metadata.Metadata.{Metadata}
use Rattle.iceberg_metadata.specs.declared.metadata.Snapshot.{Snapshot}
use Rattle.iceberg_table.specs.Files.{SaysMetadata}
use Rattle.iceberg_table.specs.Lists.{SaysList}
use Rattle.iceberg_table.specs.Plan.{IsPlanOf}
use Rattle.iceberg_table.specs.Once.{entry_count}
use Rattle.iceberg_table.specs.Snapshots.{IsTableOfSnapshot}
use Rattle.iceberg_table.specs.declared.plan.Plan.{Plan}
use Rattle.iceberg_table.proofs.OnceLaws.{newest_once}
use Rattle.iceberg_version.specs.KeptEnd.{end_of, view_of}
use Rattle.iceberg_version.specs.Writing.{TableEnd, stated_behind}
use Rattle.iceberg_version.specs.declared.kept.IcebergKept.{IcebergKept}
use Rattle.iceberg_version.proofs.Shared.{slice_there}
use Rattle.target_core.specs.Written.{AreWritten}
use Rattle.target_hudi.proofs.FittedLemmas.{wide_kinds}
use Rattle.target_hudi.specs.InspectLemmas.{none_is_some}
use Rattle.target_iceberg.proofs.WrittenCurrent as written
use Rattle.target_iceberg.proofs.WrittenFiles.{metadata_at}
use Rattle.target_iceberg.proofs.WrittenLive.{live_are}
use Rattle.target_iceberg.proofs.WrittenOwn as own
use Rattle.target_iceberg.proofs.WrittenStart.{HasEnd, IsFirstEnd, starts}
use Rattle.target_iceberg.proofs.WrittenVersion.{HasCommitted}
use Rattle.target_iceberg.specs.Fitting.{kinds_of}
use Rattle.target_iceberg.specs.Kept.{StandsFor}
use Rattle.target_iceberg.specs.OnceLemmas.{current_in, current_once, says_once}
use Rattle.target_iceberg.specs.Reading.{IsAbsent, IsCurrent, IsOurs, Reads, SaysCurrent}
use Rattle.target_iceberg.specs.Writes.{Writes}
use Rattle.lake_play.proofs.DrillGrowth.{few_new}
use Rattle.lake_play.proofs.EntriesBehind.{first_entries, more_entries}
use Rattle.std.specs.Fmt.{decimal}
use Rattle.std.proofs.lemmas.Bool.{false≢true}
use Rattle.std.proofs.lemmas.Fmt.{decimal_injective}
use Rattle.std.proofs.lemmas.List.{length-append, length-take-le}
use Rattle.std.proofs.lemmas.List.Elements.{Contains-append_left}
use Rattle.std.proofs.lemmas.Option.{none-some, same_Some, slice_get_within}
use Rattle.conformance.proofs.Bounds.{drill_history, entry_after, row_from}
use Rattle.conformance.proofs.Numbers.{from_map, length_map}
use Rattle.conformance.proofs.Tables.{distinct_rows, rows_after, table_after}
use Rattle.conformance.specs.Drill.{drill_schema}
use Rattle.conformance.specs.Histories.{IsHistoryFrom}
use Rattle.delta_table.specs.SameVersions.{version_in}
use Rattle.delta_table.specs.Versions.{log_folder}
use Rattle.lake_basics.specs.declared.limits.TheConstants.{MAX_ACTIONS, MAX_FILE_BYTES, MAX_ICEBERG_VERSION}
use Rattle.lake_store.specs.Disk.{Files}
use Rattle.lake_store.specs.Fuse.{FuseCanBeContested, fuse_disk, room_of}
use Rattle.lake_store.specs.Runs.{IsIn}
use Rattle.lake_store.specs.declared.fuse.FuseStore.{FuseStore}
use Rattle.schema_map.proofs.ImageTwice.{columns_twice}
use Rattle.source_core.specs.Histories.{IsAt, LeadAlong, ShowsTable}
use Rattle.source_delta.specs.Histories.{HoldsHistory}
use Rattle.table_history.specs.History.{History, IsHistory}
use Rattle.table_history.specs.declared.kind.Kind.{Kind}
use Rattle.table_history.specs.declared.kind.Kind.TheVariants.{Delta, Hudi, Iceberg}
use Rattle.table_history.specs.declared.limit.LimitKind.{LimitKind}
use Rattle.table_history.specs.declared.table.Table.{Table}
use Rattle.iceberg_table.specs.Folder.{HasVersion, IsNewest, metadata_folder, version_path}
use Rattle.target_core.proofs.Apart.{folders_apart}
use Rattle.target_core.specs.Folders.{SameIn}
use Rattle.target_core.specs.Meaning.{Meaning}
use Rattle.target_core.specs.Views.{IsUnpublished, Origin, SameView, View}
use Rattle.target_core.proofs.Unpublished.{no_commits}
use Rattle.target_iceberg.specs.CountLemmas.{commits_read}
use Rattle.target_iceberg.specs.IcebergMeaning.{iceberg_meaning}
use Rattle.target_iceberg.specs.Reached.{CanGoOn, IsSettled}
use Rattle.target_iceberg.specs.SettledLemmas.{crash_reached, own_reached}
use Rattle.target_iceberg.specs.SameLemmas.{SameReached, SameSnapshot, current_too, list_reached, manifest_reached, version_reached}
use Rattle.target_iceberg.specs.ViewLemmas.{is_absent, one_view}
use Rattle.target_iceberg.specs.declared.target.IcebergTarget.{IcebergTarget}
use Rattle.target_sync.specs.Along.{HasGoneTo, IsToLast, LeadsAsFar, StandsFrom}
use Rattle.target_sync.specs.Answered.{IsReady}
use Rattle.target_sync.specs.Dues.{AreSinceMark, Due, IsInFull, origin_of}
use Rattle.target_sync.specs.Synced.{IsAsBefore, with_columns}
use Rattle.target_sync.specs.Targets.{HaveWritten, IsKept, TargetFacts, target_facts}
use Rattle.target_sync.specs.declared.plan.Mode.TheVariants as modes
use Rattle.target_sync.specs.declared.status.Status.{Status}
use Rattle.lake_play.specs.Formats.{from_delta, place, to_iceberg}
use Rattle.lake_play.specs.Playing.{Brings, IsSynced, scripted}
use Rattle.lake_play.specs.Scripted.{scripted_store}
use Rattle.lake_play.specs.Standing.{meaning_of_iceberg}
use Rattle.lake_play.proofs.AtSyncs.{Stays}
use Rattle.lake_play.proofs.DrillFits.{table_of}
use Rattle.lake_play.proofs.EachOnce.{iceberg_side}
use Rattle.lake_play.proofs.EntryCounts.{once_up_to, one_up_to}
use Rattle.lake_play.proofs.Gains.{HasCome, stays_or_comes}
use Rattle.lake_play.proofs.Histories.{entry_of, holds_history, is_history, same_length}
use Rattle.lake_play.proofs.IcebergNumbers.{HasManyEntries}
use Rattle.lake_play.proofs.Logs.{HoldsCommits, extended_elsewhere}
use Rattle.lake_play.proofs.Newest.{AllMay, SameNewest, again_is, first_may, left_newest, newest_behind, of_behind, reached_newest, version_by}
use Rattle.lake_play.proofs.Once.{advanced_count}
use Rattle.lake_play.proofs.OneSchema as same_schema
use Rattle.lake_play.proofs.Plays.{Keeps}
use Rattle.lake_play.proofs.Schemas.{HoldsOnly, MayState, all_state, only_none, only_step, only_too, table_only}
use Rattle.lake_play.proofs.Syncs.{alone, going}
use Rattle.lake_play.proofs.Targets.{IsPlayed, iceberg_laws, shows_front, shows_whole}

-- ---- files of so many entries

-- The manifests of the newest version's current list have at most so many entries together.
abbrev pub EntriesUpTo : ℕ → Files → Type 0
EntriesUpTo most files = (version : ℕ) (m : Metadata) → IsNewest (HasVersion files) version → SaysMetadata files version m → (current : SaysCurrent files m) → entry_count current.manifests ≤ most

pub entries_none : (most : ℕ) (files : Files) → IsAbsent files → EntriesUpTo most files
entries_none most files none version m newest says current = absurd (none.versions version newest.there)

pub entries_later : (most more : ℕ) (files : Files) → most ≤ more → EntriesUpTo most files → EntriesUpTo more files
entries_later most more files le few version m newest says current = let low = few version m newest says current in omega (arith, low, le)

-- what is read of the one is read of the other
pub entries_same : (most : ℕ) (a b : Files) → SameNewest a b → EntriesUpTo most a → EntriesUpTo most b
entries_same most a b same few version m newest says current = few version m there says_a (current_too b a m current back)
  where
    there : IsNewest (HasVersion a) version
    there = same.newest version newest

    says_a : SaysMetadata a version m
    says_a = metadata_at b a version m (sym (same.files (version_path version) (version_reached a version there.there))) says

    list_same : (plan : Plan) → IsPlanOf m current.snapshot plan → map.get a plan.list ≡ map.get b plan.list
    list_same plan planned = sym (same.files plan.list (list_reached a version m there.there says_a current.snapshot (current_in m current.snapshot current.current) plan planned))

    back : SameSnapshot b a m current.snapshot
    back = record {
      list = list_same;
      manifests = λ plan list file planned listed named.
          let listed_a : SaysList a m plan.list list = record { bytes = listed.bytes; holds = list_same plan planned ∙ listed.holds; infos = listed.infos; rows = listed.rows; listed = listed.listed } in
          sym (same.files file.path (manifest_reached a version m there.there says_a current.snapshot (current_in m current.snapshot current.current) plan list file planned listed_a named));
    }

-- ---- one commit

-- The commit has what differs between the table after k commits of the drill and the one after j.
pub record IsBetween (number k j : ℕ) (commit : Commit) : Type 0 where
  pub later : k ≤ j
  pub within : j ≤ 200
  pub rows : IsDiff (rows_after number k) (rows_after number j) commit.change.removed commit.change.added

-- Files at the table after k commits of the drill, and what is kept of them.
pub record IsAtTable (number : ℕ) (image : ColumnTrees) (id location : List ℕ) (k : ℕ) (kept : IcebergKept) (files : Files) : Type 0 where
  pub stands : StandsFor id location kept files
  pub rows : SameRows kept.table.rows (rows_after number k)
  pub only : HoldsOnly image files
  pub goes_on : (newest : ℕ) → IsNewest (HasVersion files) newest → CanGoOn files newest
  pub few : EntriesUpTo (50 * k) files

module _ (number : ℕ) (image : ColumnTrees) (own_image : wide_columns image ≡ image) (id location : List ℕ) (plain : (front : List ℕ) → location ≢ front ++ 47 ∷ []) (origin : Origin) (now : ℕ) (k j : ℕ) (kept next : IcebergKept) (before after : Files) (commit : Commit)
    (at : IsAtTable number image id location k kept before) (writes : Writes (end_of kept) before origin now commit after) (stands : StandsFor id location next after) (within : kept.version + 1 ≤ MAX_ICEBERG_VERSION) (is : IsBetween number k j commit) (may : MayState image kept.version commit) where
  abbrev end : TableEnd
  end = end_of kept

  there : IsNewest (HasVersion after) (kept.version + 1)
  there = newest_behind id location kept before after origin now commit at.stands writes within

  ours_by : Reads after (view_of next) → IsOurs after (view_of next)
  ours_by (inl none) = absurd (none.0.versions (kept.version + 1) there.there)
  ours_by (inr ours) = ours

  ours : IsOurs after (view_of next)
  ours = ours_by stands.reads

  one : next.version ≡ kept.version + 1
  one = version_by after (view_of next) (kept.version + 1) stands.reads there

  says : SaysMetadata after (kept.version + 1) ours.metadata
  says = subst (λ (n : ℕ). SaysMetadata after n ours.metadata) one ours.says

  small : length (metadata_text writes.written.metadata) ≤ MAX_FILE_BYTES
  small =
      let low = says.small in
      let same = ap (λ (l : List ℕ). length l) (same_Some says.bytes (metadata_text writes.written.metadata) (sym says.holds ∙ writes.metadata)) in
      omega (arith, low, same)

  distinct_by : Reads before (view_of kept) → HasDistinctPaths kept.table.rows
  distinct_by (inl none) = subst HasDistinctPaths (sym (ap (λ (v : View). v.table.rows) none.1)) (distinct_rows number 0 (omega arith))
  distinct_by (inr was) = was.distinct

  distinct : HasDistinctPaths kept.table.rows
  distinct = distinct_by at.stands.reads

  distinct_later : HasDistinctPaths (rows_after number j)
  distinct_later = distinct_rows number j is.within

  diff : IsDiff kept.table.rows (rows_after number j) commit.change.removed commit.change.added
  diff = change_of_same_rows (rows_after number k) kept.table.rows (rows_after number j) (rows_after number j) commit.change.removed commit.change.added (λ row. ((at.rows row).1, (at.rows row).0)) (λ row. (λ here. here, λ here. here)) is.rows

  kinds : 0 < kept.version → kinds_of kept.table.schema kept.table.partition ≡ kinds_of (stated_behind end commit.change) kept.table.partition
  kinds some = by commit.change.schema may.0
    where
      by : (o : Option ColumnTrees) → ((schema : ColumnTrees) → o ≡ Some schema → wide_columns schema ≡ image) → kinds_of kept.table.schema kept.table.partition ≡ kinds_of (unwrap_or o kept.table.schema) kept.table.partition
      by None states = refl
      by (Some schema) states =
          ap (λ (s : ColumnTrees). kinds_of s kept.table.partition) (table_only image id location kept before at.stands at.only some ∙ sym (states schema refl)) ∙ sym (wide_kinds schema kept.table.partition)

  paths : (row : Row) → Contains commit.change.added row → IsPath row.path
  paths row added =
      let found = row_from number j row ((is.rows.added_rows row).0 added).0 in
      let less = found.2 in
      let most = is.within in
      let lt = found.3 in
      subst (λ (r : Row). IsPath r.path) found.4 (path_is number found.0 found.1 (omega (arith, less, most)) (omega (arith, lt)))

  fits : CanApply kept.table commit.change
  fits = change_fits kept.table (rows_after number j) commit.change diff distinct distinct_later

  committed : HasCommitted before after id location kept.table.rows end origin now commit
  committed = record {
    start = starts id location kept before at.goes_on at.stands;
    plain = plain;
    writes = writes;
    kinds = kinds;
    within = within;
    small = small;
    removed_there = fits.removed_there;
    added_new = fits.added_new;
    paths = paths;
  }

  -- ---- behind it

  abbrev again : Metadata
  again = writes.back.metadata.0

  same_metadata : ours.metadata ≡ again
  same_metadata = again_is id location kept before after origin now commit at.stands writes within ours.metadata says

  mine : SaysCurrent after again
  unfolding committed
  mine = written.current before after id location kept.table.rows end origin now commit committed

  table_is : IsTableOfSnapshot after again mine.snapshot next.table
  table_is =
      let current : IsCurrent again ours.current.snapshot = subst (λ (m : Metadata). IsCurrent m ours.current.snapshot) same_metadata ours.current.current in
      let same = current_once again ours.current.snapshot mine.snapshot current mine.current in
      subst (λ (s : Snapshot). IsTableOfSnapshot after again s next.table) same (subst (λ (m : Metadata). IsTableOfSnapshot after m ours.current.snapshot next.table) same_metadata ours.table)

  rows_next : SameRows next.table.rows (rows_after number j)
  unfolding committed mine
  rows_next row =
      let live = live_are after again mine row in
      let read = written.read_rows before after id location kept.table.rows end origin now commit committed in
      let are = written.rows_are before after id location kept.table.rows end origin now commit committed row in
      let leads = change_leads kept.table.rows (rows_after number j) commit.change.removed commit.change.added diff distinct distinct_later row in (
        λ here. leads.0 (are.0 (subst (λ (l : List Row). Contains l row) (sym read) (live.1 ((table_is.rows row).0 here)))),
        λ here. (table_is.rows row).1 (live.0 (subst (λ (l : List Row). Contains l row) read (are.1 (leads.1 here)))),
      )

  goes_on_next : (newest : ℕ) → IsNewest (HasVersion after) newest → CanGoOn after newest
  goes_on_next newest latest = subst (CanGoOn after) (newest_once (HasVersion after) (kept.version + 1) newest there latest) (own.goes_on before after id location kept.table.rows end origin now commit committed)

  few_added : 50 * k + length writes.is.manifests.next_are.added ≤ 50 * j
  few_added =
      let next_are = writes.is.manifests.next_are in
      few_new number k j next_are.added is.later (distinct_order (paths_of next_are.added) next_are.order) (λ row here. (is.rows.added_rows row).0 ((next_are.rows row).1 here))

  few_by : IsFirstEnd before id location end ⊎ HasEnd before end → entry_count mine.manifests ≤ 50 * j
  unfolding committed mine
  few_by (inl first) =
      let few = first_entries before after id location kept.table.rows end origin now commit committed first in
      let most = few_added in
      omega (arith, few, most)
  few_by (inr has) =
      let few = more_entries before after id location kept.table.rows end origin now commit committed has in
      let was = at.few kept.version has.metadata has.newest has.says has.current in
      let most = few_added in
      omega (arith, few, was, most)

  few_next : EntriesUpTo (50 * j) after
  few_next =
      of_behind id location kept before after origin now commit at.stands writes within (λ version m. (current : SaysCurrent after m) → entry_count current.manifests ≤ 50 * j) (λ current.
      let same = ap entry_count (says_once after again current mine).manifests in
      let few = few_by committed.start.base in
      omega (arith, same, few))

  -- Behind the commit the files are at the later table.
  pub at_next : IsAtTable number image id location j next after
  at_next = record {
    stands = stands;
    rows = rows_next;
    only = only_step image own_image id location origin now kept before after commit at.stands writes within may at.only;
    goes_on = goes_on_next;
    few = few_next;
  }

-- ---- commits one behind the other

-- They lead from the table after k commits of the drill to the one after j.
abbrev pub LeadBetween : ℕ → ℕ → List Commit → ℕ → Type 0
LeadBetween number k [] j = k ≡ j
LeadBetween number k (commit ∷ commits) j = (mid : ℕ) × IsBetween number k mid commit × LeadBetween number mid commits j

module _ (number : ℕ) (image : ColumnTrees) (own_image : wide_columns image ≡ image) (id location : List ℕ) (plain : (front : List ℕ) → location ≢ front ++ 47 ∷ []) (origin : Origin) (now : ℕ) where
  -- the files at the end, and a version for each commit
  abbrev IsEndAt : ℕ → ℕ → IcebergKept → Files → Type 0
  IsEndAt j version last files = IsAtTable number image id location j last files × (last.version ≡ version)

  pub along_tables : (commits : List Commit) (k j : ℕ) (kept : IcebergKept) (before : Files) → IsAtTable number image id location k kept before → LeadBetween number k commits j → AllMay (MayState image) kept.version commits → kept.version + length commits ≤ MAX_ICEBERG_VERSION
      → (last : IcebergKept) (after : Files) → AreWritten (StandsFor id location) (λ here from commit to. Writes (end_of here) from origin now commit to) kept before commits last after → IsEndAt j (kept.version + length commits) last after
  along_tables [] k j kept before at leads may within last after are =
      let same : last.version ≡ kept.version = ap (λ (x : IcebergKept). x.version) are.0 in (
        subst (λ (files : Files). IsAtTable number image id location j last files) (sym are.1) (subst (λ (x : IcebergKept). IsAtTable number image id location j x before) (sym are.0) (subst (λ (n : ℕ). IsAtTable number image id location n kept before) leads at)),
        omega (arith, same),
      )
  along_tables (commit ∷ commits) k j kept before at leads may within last after are =
      let next = are.0 in
      let middle = are.1 in
      let room : kept.version + 1 ≤ MAX_ICEBERG_VERSION = omega (arith, within) in
      let one : next.version ≡ kept.version + 1 = version_by middle (view_of next) (kept.version + 1) are.3.reads (newest_behind id location kept before middle origin now commit at.stands are.2 room) in
      let on = at_next number image own_image id location plain origin now k leads.0 kept next before middle commit at are.2 are.3 room leads.1 may.0 in
      let rest = along_tables commits leads.0 j next middle on leads.2 (subst (λ (v : ℕ). AllMay (MayState image) v commits) (sym one) may.1) (omega (arith, one, within)) last after are.4 in
      let count = rest.1 in
      (rest.0, omega (arith, count, one))

-- ---- the tables of a drill

-- what Iceberg's types make of their schema
abbrev image : ColumnTrees
image = wide_columns drill_schema

-- each entry, from the one of this place on, is the drill's
abbrev AreEntriesFrom : ℕ → ℕ → History → Type 0
AreEntriesFrom number p [] = Unit {0}
AreEntriesFrom number p (entry ∷ history) = (entry ≡ entry_after number p) × (p < 200) × AreEntriesFrom number (p + 1) history

first_lead : (number p : ℕ) (before : Table) (history : History) (commits : List Commit) (n : ℕ) → before ≡ table_after number p → AreEntriesFrom number p history → LeadAlong before history commits → n ≤ length commits → LeadBetween number p (take n commits) (p + n)
first_lead number p before history commits zero is entries along within = omega arith
first_lead number p before history [] (suc n) is entries along within = absurd (omega (arith, within))
first_lead number p before [] (commit ∷ commits) (suc n) is entries along within = absurd (cc along)
first_lead number p before (entry ∷ history) (commit ∷ commits) (suc n) is entries along within =
    let one : suc p ≡ p + 1 = omega arith in
    let sum : p + 1 + n ≡ p + suc n = omega arith in
    let after : entry.1 ≡ table_after number (p + 1) = ap (λ (e : List ℕ × Table). e.1) entries.0 ∙ ap (table_after number) one in
    let less = entries.1 in
    let rows = subst (λ (t : Table). IsDiff t.rows (rows_after number (p + 1)) commit.change.removed commit.change.added) is (subst (λ (t : Table). IsDiff before.rows t.rows commit.change.removed commit.change.added) after along.0.rows) in
    (p + 1, record { later = omega arith; within = omega (arith, less); rows = rows }, subst (λ (j : ℕ). LeadBetween number (p + 1) (take n commits) j) sum (first_lead number (p + 1) entry.1 history commits n after entries.2 along.1 (omega (arith, within))))

-- at each place of the history there is the drill's entry
abbrev AreEntries : ℕ → History → Type 0
AreEntries number history = (i : ℕ) (entry : List ℕ × Table) → slice_get history i ≡ Some entry → (entry ≡ entry_after number i) × (i < 200)

entries_from : (number p : ℕ) (history : History) → ((i : ℕ) (entry : List ℕ × Table) → slice_get history i ≡ Some entry → (entry ≡ entry_after number (p + i)) × (p + i < 200)) → AreEntriesFrom number p history
entries_from number p [] each = tt
entries_from number p (entry ∷ history) each =
    let none : p + 0 ≡ p = omega arith in
    let first = each 0 entry refl in
    let less = first.1 in (
      subst (λ (q : ℕ). entry ≡ entry_after number q) none first.0,
      omega (arith, less),
      entries_from number (p + 1) history (λ i other at.
          let sum : p + suc i ≡ p + 1 + i = omega arith in
          subst (λ (q : ℕ). (other ≡ entry_after number q) × (q < 200)) sum (each (suc i) other at)),
    )

drop_at : {X : Type 0} (n : ℕ) (xs : List X) (i : ℕ) (x : X) → slice_get (drop n xs) i ≡ Some x → slice_get xs (n + i) ≡ Some x
drop_at zero xs i x is = let same : i ≡ 0 + i = omega arith in subst (λ (m : ℕ). slice_get xs m ≡ Some x) same is
drop_at (suc n) [] i x is = absurd (none-some x is)
drop_at (suc n) (y ∷ xs) i x is = let sum : suc (n + i) ≡ suc n + i = omega arith in subst (λ (m : ℕ). slice_get (y ∷ xs) m ≡ Some x) sum (drop_at n xs i x is)

last_at : (history : History) (front : History) (entry : List ℕ × Table) → history ≡ front ++ entry ∷ [] → slice_get history (length front) ≡ Some entry
last_at history front entry is = ap (λ (h : History). slice_get h (length front)) is ∙ seam front
  where
    seam : (xs : History) → slice_get (xs ++ entry ∷ []) (length xs) ≡ Some entry
    seam [] = refl
    seam (x ∷ xs) = seam xs

module _ (number : ℕ) (commits : List (List ℕ)) (front rest : History) (is : IsHistoryFrom 0 None commits front) (few : length commits ≤ 200) (split : drill_history number 200 ≡ front ++ rest) where
  pub entries_are : AreEntries number front
  entries_are i entry at =
      let there : Contains (drill_history number 200) entry = subst (λ (h : History). Contains h entry) (sym split) (Contains-append_left front rest entry (slice_there front i entry at)) in
      let found = from_map (entry_after number) 200 entry there in
      let none : 0 + i ≡ i = omega arith in
      let inside = slice_get_within front i entry at in
      let count = same_length 0 None commits front is in
      let less = found.1 in
      let same : decimal found.0 ≡ decimal i = ap (λ (e : List ℕ × Table). e.0) found.2 ∙ (entry_of 0 None commits front is i entry at).position ∙ ap decimal none in
      let one : found.0 ≡ i = decimal_injective found.0 i (omega (arith, less)) (omega (arith, inside, count, few)) same in
      (subst (λ (q : ℕ). entry ≡ entry_after number q) one (sym found.2), omega (arith, less, one))

-- ---- one sync

-- The target stands at a table of the drill, and has at most 50 entries for each commit up to there.
pub record IsFew (target : Meaning) (history : History) (count : ℕ) (files : Files) : Type 0 where
  pub k : ℕ
  pub within : k ≤ count
  pub at : IsAt Delta target history files k
  pub only : HoldsOnly image files
  pub few : EntriesUpTo (50 * k) files

module _ (number : ℕ) (t : IcebergTarget) (plain : (front : List ℕ) → t.location ≢ front ++ 47 ∷ []) (now : ℕ) (old new : FuseStore) (given : Status) (brings : Brings (target_facts to_iceberg t) modes.Sync now old new given) (none : FuseCanBeContested old → ⊥)
    (commits : List (List ℕ)) (log : HoldsCommits commits 0 (fuse_disk old)) (front rest : History) (is : IsHistoryFrom 0 None commits front) (small : length commits ≤ 200) (some : 0 < length commits) (split : drill_history number 200 ≡ front ++ rest)
    (settled : IsSettled (fuse_disk old)) (was : IsFew (target_facts to_iceberg t).files (front ++ rest) (length commits) (fuse_disk old).files)
    (states : (start : View) → Reads (fuse_disk old).files start → (due : Due from_delta modes.Sync (fuse_disk old).files start) (kept : IcebergKept) → StandsFor t.id t.location kept (fuse_disk old).files → AllMay (MayState image) kept.version due.commits)
    (only_after : HoldsOnly image (fuse_disk new).files) where
  abbrev facts : TargetFacts
  facts = target_facts to_iceberg t

  abbrev before : Files
  before = (fuse_disk old).files

  abbrev after : Files
  after = (fuse_disk new).files

  abbrev start : View
  start = was.at.view

  fit : length commits ≤ 2 ^ 64
  fit = omega (arith, small)

  inside : was.k ≤ length front
  inside = let e = same_length 0 None commits front is in let up = was.within in omega (arith, e, up)

  abbrev here : IsAt Delta facts.files front before was.k
  here = record { view = start; reads = was.at.reads; shows = shows_front facts.files.image front rest was.k start inside was.at.shows }

  on : StandsFrom from_delta facts.files modes.Sync front was.k start before after
  on = (brings.sync.along.goes tt front (is_history commits front is fit) (holds_history commits 0 (fuse_disk old) log some front is) was.k here settled).at_return (alone facts modes.Sync now old new given brings none)

  ready : IsReady from_delta facts before start (facts.files.settled (fuse_disk old))
  ready = record { reads = was.at.reads; goes_on = going facts modes.Sync now old new given brings none (front ++ rest) was.k start was.at.shows; settled = settled }

  history_is : IsHistory front
  history_is = is_history commits front is fit

  holds : HoldsHistory before front
  holds = holds_history commits 0 (fuse_disk old) log some front is

  entries : AreEntries number front
  entries = entries_are number commits front rest is small split

  same_full : (d e : Due from_delta modes.Sync before start) → d.full ≡ e.full
  same_full d e = by d.way e.way
    where
      by : AreSinceMark from_delta modes.Sync before start d.partition d.commits d.full ⊎ IsInFull from_delta modes.Sync before start d.head d.partition d.commits d.full
          → AreSinceMark from_delta modes.Sync before start e.partition e.commits e.full ⊎ IsInFull from_delta modes.Sync before start e.head e.partition e.commits e.full → d.full ≡ e.full
      by (inl a) (inl b) = a.way ∙ sym b.way
      by (inl a) (inr b) = absurd (b.not_since (refl, (a.marked.0, a.marked.1, a.marked.2.0)))
      by (inr a) (inl b) = absurd (a.not_since (refl, (b.marked.0, b.marked.1, b.marked.2.0)))
      by (inr a) (inr b) = a.way ∙ sym b.way

  -- ---- what is kept before it

  rows_at : (k : ℕ) → ShowsTable Delta facts.files.image front k start → SameRows start.table.rows (rows_after number k)
  rows_at zero shows = subst (λ (l : List Row). SameRows l []) (sym (ap (λ (v : View). v.table.rows) shows)) (λ row. (λ there. there, λ there. there))
  rows_at (suc k) shows =
      let entry = entries k shows.0 shows.1 in
      subst (λ (e : List ℕ × Table). SameRows start.table.rows e.1.rows) entry.0 shows.2.rows

  kept_rows_by : (kept : IcebergKept) → SameView start (view_of kept) ⊎ (IsUnpublished start × IsUnpublished (view_of kept)) → SameRows kept.table.rows start.table.rows
  kept_rows_by kept (inl same) = λ row. ((same.rows row).1, (same.rows row).0)
  kept_rows_by kept (inr both) =
      let mine : kept.table.rows ≡ [] = ap (λ (v : View). v.table.rows) both.1 in
      let theirs : start.table.rows ≡ [] = ap (λ (v : View). v.table.rows) both.0 in
      subst (λ (l : List Row). SameRows l start.table.rows) (sym mine) (subst (λ (l : List Row). SameRows [] l) (sym theirs) (λ row. (λ there. there, λ there. there)))

  at_start : (kept : IcebergKept) → StandsFor t.id t.location kept before → IsAtTable number image t.id t.location was.k kept before
  at_start kept stands =
      let mine = kept_rows_by kept (one_view before start (view_of kept) was.at.reads stands.reads) in
      let theirs = rows_at was.k here.shows in
      record {
        stands = stands;
        rows = λ row. (λ there. (theirs row).0 ((mine row).0 there), λ there. (mine row).1 ((theirs row).1 there));
        only = was.only;
        goes_on = settled.goes_on;
        few = was.few;
      }

  -- ---- what has come

  module _ (come : HasCome from_delta facts modes.Sync now start before after) where
    abbrev due : Due from_delta modes.Sync before start
    due = come.due

    abbrev cs : List Commit
    cs = take come.count due.commits

    taken : length cs ≡ come.count
    taken = length-take-le come.count due.commits come.gained.within

    version_count : come.gained.view.commits ≡ start.commits + come.count
    version_count = advanced_count facts.files.image (origin_of due) (with_columns due.partition start) come.gained.view cs come.gained.leads ∙ ap (λ (n : ℕ). start.commits + n) taken

    -- how far the commits that have come have led
    abbrev IsFar : Bool → Type 0
    IsFar false = was.k + come.count ≤ on.j
    IsFar true = (come.count ≡ 0) ⊎ ((come.count ≡ 1) × (length front ≤ on.j))

    none_came : come.count ≡ 0 → (b : Bool) → IsFar b
    none_came nothing false = let from = on.from in omega (arith, nothing, from)
    none_came nothing true = inl nothing

    far_by : (by : HasGoneTo from_delta facts.files modes.Sync front was.k on.j start before after) → by.count ≡ come.count → (b : Bool) → LeadsAsFar b front was.k by.count on.j → IsFar b
    far_by by same false far = omega (arith, far, same)
    far_by by same true (inl far) = let nothing = far.0 in inl (omega (arith, nothing, same))
    far_by by same true (inr far) = let single = far.0 in let end = far.1 in inr (omega (arith, single, same), omega (arith, end))

    far : IsFar due.full
    far =
        ⊎_elim
        (λ (stays : (on.j ≡ was.k) × IsAsBefore facts.files start before after).
        let count = sym (commits_read after come.gained.view come.gained.stands) ∙ commits_read after stays.1.view stays.1.reads in
        let same = stays.1.same.commits in
        let all = version_count in
        none_came (omega (arith, count, same, all)) due.full)
        (λ (by : HasGoneTo from_delta facts.files modes.Sync front was.k on.j start before after).
        let count = sym (commits_read after come.gained.view come.gained.stands) ∙ commits_read after by.gained.view by.gained.stands in
        let theirs = advanced_count facts.files.image (origin_of by.due) (with_columns by.due.partition start) by.gained.view (take by.count by.due.commits) by.gained.leads in
        let their_taken = length-take-le by.count by.due.commits by.gained.within in
        let all = version_count in
        far_by by (omega (arith, count, theirs, their_taken, all)) due.full (subst (λ (b : Bool). LeadsAsFar b front was.k by.count on.j) (same_full by.due due) by.as_far))
        on.by

    -- They lead to a table that isn't behind the one at which the target stands then.
    abbrev Leads : Type 0
    Leads = (j : ℕ) × LeadBetween number was.k cs j × (j ≤ on.j)

    since_leads : due.full ≡ false → (k : ℕ) → was.k ≡ k → ShowsTable Delta facts.files.image front k start → was.k + come.count ≤ on.j → Leads
    since_leads full zero at shows reach =
        ⊎_elim
        (λ (since : AreSinceMark from_delta modes.Sync before start due.partition due.commits due.full). absurd (none_is_some start since.marked.0 shows since.marked.1))
        (λ (whole : IsInFull from_delta modes.Sync before start due.head due.partition due.commits due.full). absurd (false≢true (sym full ∙ whole.way)))
        due.way
    since_leads full (suc k) at shows reach =
        let next : k + 1 ≡ was.k = omega (arith, at) in
        let along = brings.sync.along.each_once tt front history_is holds k shows.0 shows.1 start shows.2 due full in
        let first : shows.0.1 ≡ table_after number (k + 1) = let one : suc k ≡ k + 1 = omega arith in ap (λ (e : List ℕ × Table). e.1) (entries k shows.0 shows.1).0 ∙ ap (table_after number) one in
        let leads = first_lead number (k + 1) shows.0.1 (drop (k + 1) front) due.commits come.count first (entries_from number (k + 1) (drop (k + 1) front) (λ i entry there. entries (k + 1 + i) entry (drop_at (k + 1) front i entry there))) along come.gained.within in
        (was.k + come.count, subst (λ (m : ℕ). LeadBetween number m cs (m + come.count)) next leads, reach)

    to_last : (whole : IsToLast front start due.commits) → length front ≤ on.j → come.count ≡ 1 → Leads
    to_last whole reach single =
        let place = last_at front whole.last.0 whole.entry whole.last.1 in
        let of = entries (length whole.last.0) whole.entry place in
        let whole_length : length front ≡ suc (length whole.last.0) = let e = ap (λ (h : History). length h) whole.last.1 in let both = length-append whole.last.0 (whole.entry ∷ []) in omega (arith, e, both) in
        let e = same_length 0 None commits front is in
        let rows : IsDiff (rows_after number was.k) (rows_after number (length front)) whole.commit.change.removed whole.commit.change.added =
        subst (λ (n : ℕ). IsDiff (rows_after number was.k) (rows_after number n) whole.commit.change.removed whole.commit.change.added) (sym whole_length)
        (subst (λ (x : List ℕ × Table). IsDiff (rows_after number was.k) x.1.rows whole.commit.change.removed whole.commit.change.added) of.0
        (change_of_same_rows start.table.rows (rows_after number was.k) whole.entry.1.rows whole.entry.1.rows whole.commit.change.removed whole.commit.change.added (rows_at was.k here.shows) (λ row. (λ there. there, λ there. there)) whole.rows)) in
        let only : cs ≡ whole.commit ∷ [] = (λ i. take (single i) (whole.only i)) in (
          length front,
          subst (λ (l : List Commit). LeadBetween number was.k l (length front)) (sym only) (length front, record { later = inside; within = omega (arith, e, small); rows = rows }, refl),
          reach,
        )

    leads_by : (b : Bool) → due.full ≡ b → IsFar b → Leads
    leads_by false full reach = since_leads full was.k refl here.shows reach
    leads_by true full (inl nothing) = (was.k, subst (λ (n : ℕ). LeadBetween number was.k (take n due.commits) was.k) (sym nothing) refl, on.from)
    leads_by true full (inr single) = to_last (brings.sync.along.in_full tt front history_is holds start due full) single.1 single.0

    leads : Leads
    leads = leads_by due.full refl far

    room : (v : View) (n : ℕ) → Reads after v → v.commits ≡ n → n ≤ MAX_ICEBERG_VERSION
    room v n (inl nothing) same = let none_yet = no_commits v nothing.1 in omega (arith, none_yet, same)
    room v n (inr ours) same = let low = ours.newest.there.2.within in omega (arith, low, same)

    few_after : EntriesUpTo (50 * on.j) after
    few_after =
        let left = come.left.0 in
        let all : (kept : IcebergKept) × IsKept to_iceberg t before due.partition kept × HaveWritten to_iceberg t kept before (origin_of due) now cs left = come.left.1 in
        let kept = all.0 in
        let stands : StandsFor t.id t.location kept before = all.1.0 in
        let first : start.commits ≡ kept.version = sym (commits_read before start was.at.reads) ∙ commits_read before (view_of kept) stands.reads in
        let count = version_count in
        let some = taken in
        let end = along_tables number image (columns_twice drill_schema) t.id t.location plain (origin_of due) now cs was.k leads.0 kept before (at_start kept stands) leads.1 (first_may (MayState image) come.count kept.version due.commits (states start was.at.reads due kept stands))
        (room come.gained.view (kept.version + length cs) come.gained.stands (omega (arith, count, first, some))) all.2.0 left all.2.1 in
        let last = end.1 in
        let same = left_newest t.id t.location all.2.0 left after end.0.stands come.left.2 come.gained.view come.gained.stands (omega (arith, count, first, some, last)) in
        let most = leads.2 in
        entries_later (50 * leads.0) (50 * on.j) after (omega (arith, most)) (entries_same (50 * leads.0) left after same end.0.few)

  few_behind : (after ≡ before) ⊎ HasCome from_delta facts modes.Sync now start before after → EntriesUpTo (50 * on.j) after
  few_behind (inl same) =
      let from = on.from in
      entries_later (50 * was.k) (50 * on.j) after (omega (arith, from)) (subst (EntriesUpTo (50 * was.k)) (sym same) was.few)
  few_behind (inr come) = few_after come

  -- Behind the sync it is so too.
  pub few_more : IsFew facts.files (front ++ rest) (length commits) after
  few_more =
      let e = same_length 0 None commits front is in
      let up = on.within in
      record {
        k = on.j;
        within = omega (arith, up, e);
        at = record { view = on.at.view; reads = on.at.reads; shows = shows_whole facts.files.image front rest on.j on.at.view up on.at.shows };
        only = only_after;
        few = few_behind (stays_or_comes scripted_store tt from_delta facts modes.Sync now (scripted (room_of old) old) (scripted brings.room new) brings.answer brings.sync.sync (alone facts modes.Sync now old new given brings none) start ready);
      }

-- ---- along a play

two_bytes : (front : List ℕ) → place ≡ front ++ 47 ∷ [] → ⊥
two_bytes [] is = let count = ap (λ (l : List ℕ). length l) is in omega (arith, count)
two_bytes (x ∷ []) is = let last = ap (λ (l : List ℕ). get_or l 1 0) is in omega (arith, last)
two_bytes (x ∷ (y ∷ front)) is =
    let count = ap (λ (l : List ℕ). length l) is in
    let both = length-append front (47 ∷ []) in
    omega (arith, count, both)

module _ (number now : ℕ) where
  abbrev tables : History
  tables = drill_history number 200

  -- the Iceberg target of a drill behind so many syncs and these commits
  abbrev pub HasFewEntries : ℕ → List (List ℕ) → FuseStore → Type 0
  HasFewEntries syncs commits store = IsFew meaning_of_iceberg tables (length commits) (fuse_disk store).files

  few_commits : (commits : List (List ℕ)) (front behind : History) (hudi iceberg : ℕ) (store : FuseStore) → Keeps tables commits front behind 0 hudi iceberg store → length commits ≤ 200
  few_commits commits front behind hudi iceberg store keeps =
      let count = same_length 0 None commits front keeps.made in
      let whole : length tables ≡ length (front ++ behind) = ap (λ (h : History). length h) keeps.split in
      let both = length-append front behind in
      let all = length_map (entry_after number) 200 in
      omega (arith, count, whole, both, all)

  one_schema : (entry : List ℕ × Table) → Contains tables entry → entry.1.schema ≡ drill_schema
  one_schema entry there = ap (λ (t : Table). t.schema) (table_of number entry there).1

  reached_few : (count to : ℕ) (a b : Files) → count ≤ to → SameReached a b → ((view : View) → Reads a view → Reads b view) → IsFew meaning_of_iceberg tables count a → IsFew meaning_of_iceberg tables to b
  reached_few count to a b longer same reads was =
      let up = was.within in
      record {
        k = was.k;
        within = omega (arith, up, longer);
        at = record { view = was.at.view; reads = reads was.at.view was.at.reads; shows = was.at.shows };
        only = only_too image a b same was.only;
        few = entries_same (50 * was.k) a b (reached_newest a b same) was.few;
      }

  same_few : (count to : ℕ) (a b : Files) → count ≤ to → SameIn metadata_folder a b → IsFew meaning_of_iceberg tables count a → IsFew meaning_of_iceberg tables to b
  same_few count to a b longer same was = reached_few count to a b longer (own_reached a b same) (λ view reads. iceberg_laws.reads_own a b view same reads) was

  module _ (commits : List (List ℕ)) (front behind : History) (hudi iceberg : ℕ) (old new : FuseStore) (given : Status) (keeps : Keeps tables commits front behind 0 hudi iceberg old) (few : length commits ≤ 200) (some : 0 < length commits) (was : IsFew meaning_of_iceberg tables (length commits) (fuse_disk old).files) where
    in_range : length commits ≤ 2 ^ 64
    in_range = omega (arith, few)

    in_front : (entry : List ℕ × Table) → Contains front entry → entry.1.schema ≡ drill_schema
    in_front entry there = one_schema entry (subst (λ (h : History). Contains h entry) (sym keeps.split) (Contains-append_left front behind entry there))

    own_few : IsSynced Iceberg modes.Sync now old new given → IsFew meaning_of_iceberg tables (length commits) (fuse_disk new).files
    own_few (inl gave_up) = subst (λ (s : FuseStore). IsFew meaning_of_iceberg tables (length commits) (fuse_disk s).files) (sym gave_up.1) was
    own_few (inr is) =
        let t = is.0 in
        let facts : TargetFacts = target_facts to_iceberg t in
        let played : IsPlayed facts.files (front ++ behind) iceberg (length commits) (fuse_disk old) =
        subst (λ (h : History). IsPlayed facts.files h iceberg (length commits) (fuse_disk old)) keeps.split
        (subst (λ (i : List ℕ). IsPlayed (iceberg_meaning i) tables iceberg (length commits) (fuse_disk old)) (sym is.1) keeps.to_iceberg) in
        let before : IsFew facts.files (front ++ behind) (length commits) (fuse_disk old).files = record {
          k = was.k;
          within = was.within;
          at = record { view = was.at.view; reads = was.at.reads; shows = subst (λ (h : History). ShowsTable Delta meaning_of_iceberg.image h was.k was.at.view) keeps.split was.at.shows };
          only = was.only;
          few = was.few;
        } in
        let after = few_more number t (λ front same. two_bytes front (sym is.2 ∙ same)) now old new given is.3 keeps.uncontested commits keeps.log front behind keeps.made few some keeps.split played.settled before
        (λ start reads due kept stands. all_state image kept.version due.commits
        (same_schema.states drill_schema t modes.Sync now old new given is.3 keeps.uncontested commits 0 keeps.log front behind keeps.made in_range iceberg played in_front was.only start reads due)
        (same_schema.begins_stated drill_schema t modes.Sync now old new given is.3 keeps.uncontested commits 0 keeps.log front behind keeps.made in_range iceberg played in_front was.only start reads due kept stands))
        (same_schema.sync_only drill_schema t modes.Sync now old new given is.3 keeps.uncontested commits 0 keeps.log front behind keeps.made in_range iceberg played in_front was.only) in
        record {
          k = after.k;
          within = after.within;
          at = record { view = after.at.view; reads = after.at.reads; shows = subst (λ (h : History). ShowsTable Delta meaning_of_iceberg.image h after.k after.at.view) (sym keeps.split) after.at.shows };
          only = after.only;
          few = after.few;
        }

    synced_few : (target : Kind) → IsSynced target modes.Sync now old new given → IsFew meaning_of_iceberg tables (length commits) (fuse_disk new).files
    synced_few Delta is = same_few (length commits) (length commits) (fuse_disk old).files (fuse_disk new).files (omega arith) (iceberg_side.beside Delta modes.Sync now old new given refl keeps.uncontested is) was
    synced_few Hudi is = same_few (length commits) (length commits) (fuse_disk old).files (fuse_disk new).files (omega arith) (iceberg_side.beside Hudi modes.Sync now old new given refl keeps.uncontested is) was
    synced_few Iceberg is = own_few is

  pub few_entries : Stays tables now (λ given. Unit {0}) HasFewEntries
  few_entries = record {
    extended = λ syncs commits front behind hudi iceberg old new bytes keeps is was.
        let grown : length (commits ++ bytes ∷ []) ≡ length commits + 1 = length-append commits (bytes ∷ []) in
        same_few (length commits) (length (commits ++ bytes ∷ [])) (fuse_disk old).files (fuse_disk new).files (omega (arith, grown)) (λ path within.
        extended_elsewhere (fuse_disk old) (fuse_disk new) is.path bytes path is.disk (λ e. folders_apart Iceberg Delta (λ same. cc) path within (subst (IsIn log_folder) (sym e) (version_in is.path (length commits) is.is)))) was;
    synced = λ syncs commits front behind hudi iceberg old new target given keeps small some is ends was. synced_few commits front behind hudi iceberg old new given keeps (few_commits commits front behind hudi iceberg old keeps) some was target is;
    stopped = λ syncs commits old call was. was;
    crashed = λ syncs commits front behind hudi iceberg old new choices keeps is was.
        reached_few (length commits) (length commits) (fuse_disk old).files (fuse_disk new).files (omega arith)
        (crash_reached (fuse_disk old) (fuse_disk new).files keeps.to_iceberg.settled (λ path within clean. is.image path clean))
        (λ view reads. iceberg_laws.crash_reads (fuse_disk old) (fuse_disk new).files view keeps.to_iceberg.settled (λ path within clean. is.image path clean) reads) was;
  }

  pub none_few : (store : FuseStore) (hudi iceberg : ℕ) → Keeps tables [] [] tables 0 hudi iceberg store → HasFewEntries 0 [] store
  none_few store hudi iceberg keeps =
      let stands = keeps.to_iceberg.stands in
      let up = stands.up_to in
      let none : stands.j ≡ 0 = omega (arith, up) in
      let at : IsAt Delta meaning_of_iceberg tables (fuse_disk store).files 0 = subst (IsAt Delta meaning_of_iceberg tables (fuse_disk store).files) none stands.at in
      let absent = is_absent (fuse_disk store).files at.view.table.partition (subst (Reads (fuse_disk store).files) at.shows at.reads) in
      record { k = 0; within = omega arith; at = at; only = only_none image (fuse_disk store).files absent; few = entries_none (50 * 0) (fuse_disk store).files absent }

  -- They are at most 10,000.
  pub few_in_all : (syncs : ℕ) (commits : List (List ℕ)) (store : FuseStore) → HasFewEntries syncs commits store → EntriesUpTo 10000 (fuse_disk store).files
  few_in_all syncs commits store few = entries_later (50 * few.k) 10000 (fuse_disk store).files (let low = by few.k few.at.shows in omega (arith, low)) few.few
    where
      by : (k : ℕ) → ShowsTable Delta meaning_of_iceberg.image tables k few.at.view → k ≤ 200
      by zero shows = omega arith
      by (suc k) shows =
          let inside = slice_get_within tables k shows.0 shows.1 in
          let all = length_map (entry_after number) 200 in
          omega (arith, inside, all)

-- ---- reading passes no number of entries

pub no_actions : (files : Files) (v : View) (ours : IsOurs files v) (which : LimitKind) (n most : ℕ) → EntriesUpTo most files → most ≤ MAX_ACTIONS → HasManyEntries files ours.metadata ours.current which n → ⊥
no_actions files v ours which n most few small (is, at, inl many) =
    let all = few v.commits ours.metadata ours.newest ours.says ours.current in
    let once = once_up_to ours.current.manifests in
    omega (arith, many, all, once, small)
no_actions files v ours which n most few small (is, at, inr (r, there, many)) =
    let all = few v.commits ours.metadata ours.newest ours.says ours.current in
    let one_of = one_up_to ours.current.manifests r there in
    omega (arith, many, all, one_of, small)
