-- Which numbers of a target a drill may pass.
use Rattle.std.proofs.Common.{◌≡◌, ◌≢◌, ◌⊎◌, inl, inr, ⊎_elim, ℕ, zero, suc, ◌+◌, ◌*◌, ◌^◌, ◌≤◌, ◌<◌, true, false, List, [], ◌∷◌, length, map, take, Contains, Option, Some, None, Result, Ok, Err, refl, sym, ap, subst, ◌∙◌, arith}
use Rattle.std.specs.List.{AllByRecursion}
use Rattle.std.specs.Prelude.{slice_get}
use Rattle.std.proofs.lemmas.Bool.{false≢true}
use Rattle.std.proofs.lemmas.List.{length-append, length-map, length-take-le}
use Rattle.lake_basics.specs.declared.limits.TheConstants.{MAX_COMMITS, MAX_LIVE_FILES, MAX_NAMES, MAX_PUBLISHED_COMMITS}
use Rattle.lake_basics.proofs.Texts.{fewer}
use Rattle.table_history.specs.History.{History}
use Rattle.table_history.specs.Row.{Row}
use Rattle.table_history.specs.Rows.{HasDistinctPaths, paths_of}
use Rattle.table_history.specs.declared.feature.Feature.TheVariants.{PartitionChange, TypeChange}
use Rattle.table_history.specs.declared.kind.Kind.{Kind}
use Rattle.table_history.specs.declared.kind.Kind.TheVariants.{Delta, Hudi, Iceberg}
use Rattle.table_history.specs.declared.limit.LimitKind.{LimitKind}
use Rattle.table_history.specs.declared.limit.LimitKind.TheVariants as limit
use Rattle.table_history.specs.declared.table.Commit.{Commit}
use Rattle.table_history.specs.declared.table.Table.{Table}
use Rattle.conformance.specs.Drill.{AreSaid, drill_bytes, drill_schema, drill_time, numbers_under}
use Rattle.conformance.specs.Events.{drill_events}
use Rattle.conformance.specs.Histories.{AreInOrder, IsHistoryFrom, IsHistoryOf, extensions}
use Rattle.conformance.specs.declared.event.Event.{Event}
use Rattle.conformance.proofs.Bounds.{added_paths, are_history, drill_history, path_there, paths_count, row_from}
use Rattle.conformance.proofs.Legal.{commits_are}
use Rattle.conformance.proofs.Numbers.{length_map}
use Rattle.conformance.proofs.Tables.{row_of_path, table_after}
use Rattle.lake_store.specs.Disk.{Disk, Files, names_in}
use Rattle.lake_store.specs.Fuse.{CanFail, fuse_disk, script_of}
use Rattle.lake_store.specs.declared.fuse.FuseStore.{FuseStore}
use Rattle.schema_map.specs.Paths.{column_paths}
use Rattle.hudi_commit.specs.Names.{claims_folder, timeline_folder}
use Rattle.iceberg_table.specs.Folder.{metadata_folder}
use Rattle.iceberg_version.specs.Writing as iceberg_writing
use Rattle.iceberg_version.specs.KeptEnd as iceberg_kept
use Rattle.source_core.specs.Histories.{ShowsTable}
use Rattle.target_core.specs.Folders.{folder_of}
use Rattle.target_core.specs.Views.{Origin, View}
use Rattle.target_core.specs.declared.target.TargetError.{TargetError}
use Rattle.target_core.specs.declared.target.TargetError.TheVariants as target_error
use Rattle.target_hudi.specs.Fitting as hudi_fitting
use Rattle.target_hudi.specs.Inspecting as hudi_inspecting
use Rattle.target_hudi.specs.Kept as hudi_kept
use Rattle.target_hudi.specs.Reading as hudi_reading
use Rattle.target_hudi.specs.TableName.{IsTableName}
use Rattle.target_hudi.specs.Writing as hudi_writing
use Rattle.target_hudi.specs.declared.kept.HudiKept.{HudiKept}
use Rattle.target_hudi.specs.declared.target.HudiTarget.{HudiTarget}
use Rattle.iceberg_version.specs.declared.kept.IcebergKept.{IcebergKept}
use Rattle.iceberg_version.proofs.Shared.{in_take, slice_there}
use Rattle.target_iceberg.specs.CountLemmas.{commits_read}
use Rattle.target_iceberg.specs.Fitting as iceberg_fitting
use Rattle.target_iceberg.specs.Inspecting as iceberg_inspecting
use Rattle.target_iceberg.specs.Reading as iceberg_reading
use Rattle.target_iceberg.specs.Kept.{StandsFor}
use Rattle.target_iceberg.specs.TableId.{table_id}
use Rattle.target_iceberg.specs.declared.target.IcebergTarget.{IcebergTarget}
use Rattle.target_sync.specs.Answered.{IsCaused, IsRefusal}
use Rattle.target_sync.specs.Dues.{Due, origin_of}
use Rattle.target_sync.specs.Targets.{TargetFacts, target_facts}
use Rattle.target_sync.specs.declared.apply.Report.{Report}
use Rattle.target_sync.specs.declared.plan.Mode.TheVariants as modes
use Rattle.target_sync.specs.declared.status.Side.TheVariants as side
use Rattle.target_sync.specs.declared.status.Status.{Status}
use Rattle.target_sync.specs.declared.status.Status.TheVariants as status
use Rattle.lake_play.specs.Drilled.{IsBrought, IsEnded, IsPlayedThrough, IsReadPast, LeavesDrill}
use Rattle.lake_play.specs.Formats.{from_delta, place as table_place, to_hudi, to_iceberg}
use Rattle.lake_play.specs.Playing.{Brings, IsSynced, PlaysAll, nothing_played, status_of}
use Rattle.lake_play.specs.Standing.{IsFresh, meaning_of_hudi, meaning_of_iceberg}
use Rattle.lake_play.specs.declared.playing.Progress.{Progress}
use Rattle.lake_play.proofs.AtSyncs.{EndBefore, Found, IsSyncAt, Stays, both_stay, syncs_on}
use Rattle.lake_play.proofs.DrillDue.{few_due}
use Rattle.lake_play.proofs.DrillEvents.{drill_weight, few_spent, plain}
use Rattle.lake_play.proofs.DrillFits.{table_of}
use Rattle.lake_play.proofs.DrillNames.{Budgeted, budgeted, names_within, none_held}
use Rattle.lake_play.proofs.EachOnce.{hudi_counts, hudi_side, iceberg_side}
use Rattle.lake_play.proofs.FieldIds.{IsNarrow, no_versions}
use Rattle.lake_play.proofs.Grown.{HasGrown, hudi_grows, iceberg_grows, none_grown}
use Rattle.lake_play.proofs.HudiFiles as hudi_files
use Rattle.lake_play.proofs.HudiNumbers as hudi
use Rattle.lake_play.proofs.IcebergFiles as iceberg_files
use Rattle.lake_play.proofs.IcebergFiles.{IsDrills, iceberg_drills, none_drills}
use Rattle.lake_play.proofs.IcebergNumbers as iceberg
use Rattle.lake_play.proofs.IcebergEntries.{EntriesUpTo, HasFewEntries, few_entries, few_in_all, no_actions, none_few}
use Rattle.lake_play.proofs.IcebergIds.{HasIcebergIds, iceberg_ids, kept_low, kept_narrow, none_ids, states}
use Rattle.lake_play.proofs.HudiTimes.{AreUpTo, HudiTimes, hudi_times, kept_up_to, no_times, within_9999}
use Rattle.lake_play.proofs.Plays.{Keeps, begins}
use Rattle.lake_play.proofs.ShortFiles.{HoldsShort}
use Rattle.lake_play.proofs.ShortSyncs.{BothShort, fresh_short, hudi_readable, iceberg_readable, plays_short, short_stays}

-- ---- what commits pass

-- A list of commits that is unfit for a number is longer than may be published.
hudi_many : (held : Option hudi_fitting.Held) (partition : List (List ℕ)) (commits : List Commit) (e : TargetError) (which : LimitKind) (n : ℕ) → hudi_fitting.Unfit held partition commits e → e ≡ target_error.Limit which n → MAX_PUBLISHED_COMMITS < length commits
hudi_many held partition commits _ which n (hudi_fitting.Unfit.many is) same = is
hudi_many held partition commits _ which n (hudi_fitting.Unfit.changes few is) same =
    let never : target_error.Unsupported PartitionChange [] ≡ target_error.Limit which n = same in absurd cc
hudi_many held partition commits _ which n (hudi_fitting.Unfit.fault feature path few alike is) same =
    let never : target_error.Unsupported feature path ≡ target_error.Limit which n = same in absurd cc

iceberg_many : (state : iceberg_fitting.HeldState) (partition : List (List ℕ)) (commits : List Commit) (e : TargetError) (which : LimitKind) (n : ℕ) → iceberg_fitting.Unfit state partition commits e → e ≡ target_error.Limit which n → MAX_PUBLISHED_COMMITS < length commits
iceberg_many state partition commits _ which n (iceberg_fitting.Unfit.many is) same = is
iceberg_many state partition commits _ which n (iceberg_fitting.Unfit.changes few is) same =
    let never : target_error.Unsupported PartitionChange [] ≡ target_error.Limit which n = same in absurd cc
iceberg_many state partition commits _ which n (iceberg_fitting.Unfit.type name few alike is) same =
    let never : target_error.Unsupported TypeChange name ≡ target_error.Limit which n = same in absurd cc

-- no folder has too many names
abbrev IsRoomy : Files → Type 0
IsRoomy files = (folder : List ℕ) → MAX_NAMES < length (names_in files folder) → ⊥

-- the bytes of a file, or the year of an instant, the number of a version or a field id
abbrev IsOfCommits : LimitKind → Type 0
IsOfCommits which = (which ≡ limit.File) ⊎ (which ≡ limit.Versions)

hudi_at : (end : hudi_writing.TimelineEnd) (origin : Origin) (now : ℕ) (commit : Commit) (which : LimitKind) (n : ℕ) → hudi_writing.PassesAt end origin now commit which n → IsOfCommits which
hudi_at end origin now commit limit.File n passes = inl refl
hudi_at end origin now commit limit.Versions n passes = inr refl
hudi_at end origin now commit _ n passes = absurd passes

hudi_last : (end : hudi_writing.TimelineEnd) (origin : Origin) (now : ℕ) (commits : List Commit) (which : LimitKind) (n : ℕ) → hudi_writing.PassesLast end origin now commits which n → IsOfCommits which
hudi_last end origin now [] which n passes = absurd passes
hudi_last end origin now (commit ∷ []) which n passes = hudi_at end origin now commit which n passes
hudi_last end origin now (commit ∷ (next ∷ commits)) which n passes = hudi_last (hudi_writing.end_behind end passes.0 commit) origin now (next ∷ commits) which n passes.2

hudi_passed : (files : Files) → IsRoomy files → (end : hudi_writing.TimelineEnd) (origin : Origin) (now : ℕ) (commits : List Commit) (which : LimitKind) (n : ℕ) → (hudi_writing.PassesLast end origin now commits limit.File n → ⊥) → (hudi_writing.PassesLast end origin now commits limit.Versions n → ⊥)
    → hudi_writing.Passes files end origin now commits which n → ⊥
hudi_passed files roomy end origin now commits which n small early (inl names) = absurd (roomy claims_folder names.3)
hudi_passed files roomy end origin now commits which n small early (inr last) =
    ⊎_elim
    (λ (file : which ≡ limit.File). absurd (small (subst (λ (w : LimitKind). hudi_writing.PassesLast end origin now commits w n) file last)))
    (λ (year : which ≡ limit.Versions). absurd (early (subst (λ (w : LimitKind). hudi_writing.PassesLast end origin now commits w n) year last)))
    (hudi_last end origin now commits which n last)

iceberg_at : (end : iceberg_writing.TableEnd) (origin : Origin) (now : ℕ) (commit : Commit) (which : LimitKind) (n : ℕ) → iceberg_writing.PassesAt end origin now commit which n → IsOfCommits which
iceberg_at end origin now commit limit.File n passes = inl refl
iceberg_at end origin now commit limit.Versions n passes = inr refl
iceberg_at end origin now commit _ n passes = absurd passes

iceberg_last : (end : iceberg_writing.TableEnd) (origin : Origin) (now : ℕ) (commits : List Commit) (which : LimitKind) (n : ℕ) → iceberg_writing.Passes end origin now commits which n → IsOfCommits which
iceberg_last end origin now [] which n passes = absurd passes
iceberg_last end origin now (commit ∷ []) which n passes = iceberg_at end origin now commit which n passes
iceberg_last end origin now (commit ∷ (next ∷ commits)) which n passes = iceberg_last (iceberg_writing.end_behind end commit passes.0) origin now (next ∷ commits) which n passes.2

iceberg_none : (end : iceberg_writing.TableEnd) (origin : Origin) (now : ℕ) (commits : List Commit) (which : LimitKind) (n : ℕ) → (iceberg_writing.Passes end origin now commits limit.File n → ⊥) → (iceberg_writing.Passes end origin now commits limit.Versions n → ⊥)
    → iceberg_writing.Passes end origin now commits which n → ⊥
iceberg_none end origin now commits which n small few passes =
    ⊎_elim
    (λ (file : which ≡ limit.File). small (subst (λ (w : LimitKind). iceberg_writing.Passes end origin now commits w n) file passes))
    (λ (versions : which ≡ limit.Versions). few (subst (λ (w : LimitKind). iceberg_writing.Passes end origin now commits w n) versions passes))
    (iceberg_last end origin now commits which n passes)

-- ---- what reading passes

none_hudi : (files : Files) → IsRoomy files → (v : View) (which : LimitKind) (n : ℕ) → hudi_reading.Reads files v → v.commits ≤ MAX_COMMITS → HoldsShort (folder_of Hudi) files → hudi_inspecting.IsCrowded Delta files which n → ⊥
none_hudi files roomy v which n reads few short crowded =
    ⊎_elim
    (λ (names : hudi.HasManyNames files which n). absurd (⊎_elim (roomy timeline_folder) (roomy claims_folder) names.2))
    (λ (large : hudi.HasLargeFile files which n). absurd (hudi_readable files which n short large))
    (hudi.crowded_by Delta files v which n reads few crowded)

none_iceberg : (files : Files) → IsRoomy files → (v : View) (which : LimitKind) (n : ℕ) → iceberg_reading.Reads files v → length v.table.rows ≤ MAX_LIVE_FILES → HoldsShort (folder_of Iceberg) files → EntriesUpTo 10000 files → iceberg_inspecting.IsCrowded Delta files which n → ⊥
none_iceberg files roomy v which n reads few short entries crowded = by (iceberg.crowded_by Delta files v which n reads few crowded)
  where
    by : iceberg.IsPast files v which n → ⊥
    by (inl names) = absurd (roomy metadata_folder names.2)
    by (inr (ours, inl large)) = absurd (iceberg_readable files v ours which n short large)
    by (inr (ours, inr many)) = absurd (no_actions files v ours which n 10000 entries (omega arith) many)

-- ---- the rows of a drill's table

module _ (number : ℕ) (rows : List Row) (table : Table) (i : ℕ) (less : i < 200) (is : table ≡ table_after number (suc i)) (same : (row : Row) → Contains rows row → Contains table.rows row) (distinct : HasDistinctPaths rows) where
  known : (path : List ℕ) → Contains (paths_of rows) path → Contains (added_paths number 200) path
  known path there =
      let of = row_of_path rows path there in
      let found = row_from number (suc i) of.0 (subst (λ (t : Table). Contains t.rows of.0) is (same of.0 of.1)) in
      let earlier = found.2 in
      subst (Contains (added_paths number 200)) of.2 (subst (λ (r : Row). Contains (added_paths number 200) r.path) found.4 (path_there number 200 found.0 found.1 (omega (arith, earlier, less)) found.3))

  few_rows : length rows ≤ 10000
  few_rows =
      let count = fewer (paths_of rows) (added_paths number 200) distinct known in
      let all = paths_count number 200 in
      let each = length-map rows (λ (r : Row). r.path) in
      omega (arith, count, all, each)

-- A target of a drill has few rows.
few_shown : (number : ℕ) (files : Files) (j : ℕ) (v : View) → iceberg_reading.Reads files v → ShowsTable Delta meaning_of_iceberg.image (drill_history number 200) j v → length v.table.rows ≤ MAX_LIVE_FILES
few_shown number files j v (inl none) shows = let empty = ap (λ (w : View). length w.table.rows) none.1 in omega (arith, empty)
few_shown number files zero v (inr ours) shows = let empty = ap (λ (w : View). length w.table.rows) shows in omega (arith, empty)
few_shown number files (suc k) v (inr ours) shows =
    let of = table_of number shows.0 (slice_there (drill_history number 200) k shows.0 shows.1) in
    let few = few_rows number v.table.rows shows.0.1 of.0 of.2 of.1 (λ row there. (shows.2.rows row).0 there) ours.distinct in
    omega (arith, few)

-- its schema has two columns
drill_narrow : IsNarrow drill_schema
drill_narrow = let two : length (column_paths drill_schema) ≡ 2 = refl in omega (arith, two)

-- ---- what is answered

never_done : (which : LimitKind) (kind : Kind) (n : ℕ) → status.Limit (side.Target kind) which n ≡ status.Done → ⊥
never_done which kind n is = cc

never_memory : (which : LimitKind) (kind : Kind) (n : ℕ) → status.Limit (side.Target kind) which n ≡ status.Memory → ⊥
never_memory which kind n is = cc

-- why a sync is refused that is answered so
refusal_by : (Idle : Type 0) (target : TargetFacts) (now : ℕ) (files : Files) (given : Status) (answer : Result Report Status) → (given ≡ status.Done → ⊥) → given ≡ status_of answer → IsCaused Idle from_delta target modes.Sync now files (Some answer) → IsRefusal Idle from_delta target modes.Sync now files given
refusal_by Idle target now files given (Ok report) not_done told caused = absurd (not_done told)
refusal_by Idle target now files given (Err e) not_done told caused = subst (IsRefusal Idle from_delta target modes.Sync now files) (sym told) caused

-- behind the last event
short_at_end : (number : ℕ) (store : FuseStore) → IsPlayedThrough number store → BothShort store
short_at_end number store played =
    let end = plays_short drill_time (drill_events number true) nothing_played played.start played.after played.end played.plays (fresh_short played.start played.fresh) in
    subst (λ (d : Disk). HoldsShort (folder_of Hudi) d.files × HoldsShort (folder_of Iceberg) d.files) (sym played.disk) end

module _ (number : ℕ) (said : AreSaid number) where
  abbrev tables : History
  tables = drill_history number 200

  abbrev all : List (List ℕ)
  all = map (drill_bytes number) (numbers_under 200)

  abbrev events : List Event
  events = drill_events number true

  all_are : extensions events ≡ all
  all_are = commits_are number true 200

  tables_are : IsHistoryOf events tables
  tables_are = subst (λ (l : List (List ℕ)). IsHistoryFrom 0 None l tables) (sym all_are) (are_history number said 200 (omega arith)).0

  -- each table has two columns
  narrow : (entry : List ℕ × Table) → Contains tables entry → IsNarrow entry.1.schema
  narrow entry there = let of = table_of number entry there in subst (λ (t : Table). IsNarrow t.schema) (sym of.1) drill_narrow

  -- what is known of the store at each sync
  abbrev OfHudi : ℕ → List (List ℕ) → FuseStore → Type 0
  OfHudi syncs commits store = HasGrown meaning_of_hudi tables syncs commits store × HudiTimes tables drill_time syncs commits store

  abbrev OfIceberg : ℕ → List (List ℕ) → FuseStore → Type 0
  OfIceberg syncs commits store = HasGrown meaning_of_iceberg tables syncs commits store × (HasIcebergIds syncs commits store × HasFewEntries number drill_time syncs commits store)

  abbrev OfFiles : ℕ → List (List ℕ) → FuseStore → Type 0
  OfFiles syncs commits store = BothShort store × IsDrills number syncs commits store

  abbrev Known : ℕ → List (List ℕ) → FuseStore → Type 0
  Known syncs commits store = OfHudi syncs commits store × (OfIceberg syncs commits store × OfFiles syncs commits store)

  known_stays : Stays tables drill_time (λ given. Unit {0}) Known
  known_stays =
      both_stay tables drill_time (λ given. Unit {0}) OfHudi (λ syncs commits store. OfIceberg syncs commits store × OfFiles syncs commits store)
      (both_stay tables drill_time (λ given. Unit {0}) (HasGrown meaning_of_hudi tables) (HudiTimes tables drill_time) (hudi_grows tables drill_time) (hudi_times tables drill_time))
      (both_stay tables drill_time (λ given. Unit {0}) OfIceberg OfFiles
      (both_stay tables drill_time (λ given. Unit {0}) (HasGrown meaning_of_iceberg tables) (λ syncs commits store. HasIcebergIds syncs commits store × HasFewEntries number drill_time syncs commits store) (iceberg_grows tables drill_time)
      (both_stay tables drill_time (λ given. Unit {0}) HasIcebergIds (HasFewEntries number drill_time) (iceberg_ids tables narrow drill_time) (few_entries number drill_time)))
      (both_stay tables drill_time (λ given. Unit {0}) (λ syncs commits store. BothShort store) (IsDrills number) (short_stays tables drill_time (λ given. Unit {0})) (iceberg_drills number)))

  none_known : (store : FuseStore) → IsFresh store → Keeps tables [] [] tables 0 0 0 store → Known 0 [] store
  none_known store fresh keeps = (
    (none_grown Hudi meaning_of_hudi hudi_side tables store 0 0 keeps, no_times tables drill_time store 0 0 keeps),
    ((none_grown Iceberg meaning_of_iceberg iceberg_side tables store 0 0 keeps, (none_ids tables store 0 0 keeps, none_few number drill_time store 0 0 keeps)), (fresh_short store fresh, none_drills number store 0 0 keeps)),
  )

  -- ---- by a sync

  module _ (given : Status) (a : IsSyncAt tables drill_time Known all 800 given) (roomy : IsRoomy (fuse_disk a.old).files) where
    few_commits : length a.commits ≤ 200
    few_commits =
        let both : length all ≡ length a.commits + length a.behind = ap (λ (l : List (List ℕ)). length l) (sym a.first) ∙ length-append a.commits a.behind in
        let count = length_map (drill_bytes number) 200 in
        omega (arith, both, count)

    abbrev here : Files
    here = (fuse_disk a.old).files

    few_published : a.holds.0.0.at.view.commits ≤ MAX_COMMITS
    few_published =
        let few = a.holds.0.0.few in
        let within = a.holds.0.0.within in
        let commits = few_commits in
        let syncs = a.few in
        omega (arith, few, within, commits, syncs)

    few_times : length a.commits ≤ 200 → AreUpTo (drill_time + 300 * a.spent) here
    few_times = a.holds.0.1

    due_few : (start : View) (due : Due from_delta modes.Sync here start) → length due.commits ≤ 201
    due_few start due = let due_count = few_due a.commits 0 (fuse_disk a.old) a.keeps.log modes.Sync start due in let commits = few_commits in omega (arith, due_count, commits)

    too_many : (start : View) (due : Due from_delta modes.Sync here start) → MAX_PUBLISHED_COMMITS < length due.commits → ⊥
    too_many start due many = let few = due_few start due in omega (arith, few, many)

    -- no instant of the commits that are due passes the year 9999
    early : (t : HudiTarget) (start : View) (due : Due from_delta modes.Sync here start) (kept : HudiKept) → hudi_kept.StandsFor kept here → (place : ℕ) → place < length due.commits → (n : ℕ)
        → hudi_writing.PassesLast (hudi_kept.end_of t.name kept) (origin_of due) drill_time (take (place + 1) due.commits) limit.Versions n → ⊥
    early t start due kept stands place within n passes =
        let few = due_few start due in
        let syncs = a.few in
        let some = length-take-le (place + 1) due.commits (omega (arith, within)) in
        kept_up_to kept here (drill_time + 300 * a.spent) stands.counted.newest (few_times few_commits)
        (λ up. within_9999 (hudi_kept.end_of t.name kept) (origin_of due) drill_time (take (place + 1) due.commits) n (drill_time + 300 * a.spent) (omega arith) up (omega (arith, some, within, few, syncs)) passes)

    hudi_refused : (t : HudiTarget) → IsTableName table_place t.name → Brings (target_facts to_hudi t) modes.Sync drill_time a.old a.new given → (Idle : Type 0) (kind : Kind) (which : LimitKind) (n : ℕ)
        → IsRefusal Idle from_delta (target_facts to_hudi t) modes.Sync drill_time here (status.Limit (side.Target kind) which n) → ⊥
    hudi_refused t name brings Idle kind which n (is, inl (idle, head, crowded)) = none_hudi here roomy a.holds.0.0.at.view which n a.holds.0.0.at.reads few_published a.holds.1.1.0.0 crowded
    hudi_refused t name brings Idle kind which n (is, inr (inl (idle, unfit))) =
        let fault = unfit.2.1.1 in
        absurd (too_many unfit.0 unfit.2.1.0 (hudi_many (hudi_kept.held_of fault.0) unfit.2.1.0.partition unfit.2.1.0.commits (target_error.Limit which n) which n fault.2 refl))
    hudi_refused t name brings Idle kind which n (is, inr (inr (start, reads, (goes, (due, (place, within, (kept, stands, passes))))))) =
        hudi_passed here roomy (hudi_kept.end_of t.name kept) (origin_of due) drill_time (take (place + 1) due.commits) which n
        (λ file. hudi_files.no_file number said t name a.old a.new given brings a.commits a.behind a.first a.some a.front a.rest a.hudi a.iceberg a.keeps n (start, reads, (goes, (due, (place, within, (kept, stands, inr file))))))
        (early t start due kept stands.0 place within n) passes

    -- no version or field id of the commits that are due passes the greatest
    few_versions : (t : IcebergTarget) (brings : Brings (target_facts to_iceberg t) modes.Sync drill_time a.old a.new given) → t.id ≡ table_id table_place → (start : View) (due : Due from_delta modes.Sync here start) → iceberg_reading.Reads here start → (kept : IcebergKept) → StandsFor t.id t.location kept here → (place : ℕ) → place < length due.commits → (n : ℕ)
        → iceberg_writing.Passes (iceberg_kept.end_of kept) (origin_of due) drill_time (take (place + 1) due.commits) limit.Versions n → ⊥
    few_versions t brings id start due reads kept stands place within n passes =
        let few = due_few start due in
        let syncs = a.few in
        let commits = few_commits in
        let at = a.holds.1.0.0.at in
        let count : kept.version ≡ at.view.commits = sym (commits_read here (iceberg_kept.view_of kept) stands.reads) ∙ commits_read here at.view at.reads in
        let up = a.holds.1.0.0.few in
        let inside = a.holds.1.0.0.within in
        let some = length-take-le (place + 1) due.commits (omega (arith, within)) in
        no_versions (iceberg_kept.end_of kept) (origin_of due) drill_time (take (place + 1) due.commits) n (2 * kept.version) (kept_low t.id t.location kept here stands a.holds.1.0.1.0) (kept_narrow t.id t.location kept here stands a.holds.1.0.1.0)
        (λ commit there. states tables narrow drill_time a.commits a.front a.rest a.hudi a.iceberg a.old a.new given a.keeps (omega (arith, commits)) t id brings start reads due commit (in_take (place + 1) due.commits commit there))
        (omega (arith, count, up, inside, some, within, few, syncs, commits)) (omega (arith, count, up, inside, some, within, few, syncs, commits)) passes

    iceberg_refused : (t : IcebergTarget) → t.id ≡ table_id table_place → t.location ≡ table_place → Brings (target_facts to_iceberg t) modes.Sync drill_time a.old a.new given → (Idle : Type 0) (kind : Kind) (which : LimitKind) (n : ℕ)
        → IsRefusal Idle from_delta (target_facts to_iceberg t) modes.Sync drill_time here (status.Limit (side.Target kind) which n) → ⊥
    iceberg_refused t id there brings Idle kind which n (is, inl (idle, head, crowded)) =
        let at = a.keeps.to_iceberg.stands in
        none_iceberg here roomy at.at.view which n at.at.reads (few_shown number here at.j at.at.view at.at.reads at.at.shows) a.holds.1.1.0.1 (few_in_all number drill_time a.spent a.commits a.old a.holds.1.0.1.1) crowded
    iceberg_refused t id there brings Idle kind which n (is, inr (inl (idle, unfit))) =
        let fault = unfit.2.1.1 in
        absurd (too_many unfit.0 unfit.2.1.0 (iceberg_many (iceberg_fitting.state_of fault.0) unfit.2.1.0.partition unfit.2.1.0.commits (target_error.Limit which n) which n fault.2 refl))
    iceberg_refused t id there brings Idle kind which n (is, inr (inr (start, reads, (goes, (due, (place, within, (kept, stands, passes))))))) =
        absurd (iceberg_none (iceberg_kept.end_of kept) (origin_of due) drill_time (take (place + 1) due.commits) which n
        (λ file. iceberg_files.no_file number said t id there a.old a.new given brings a.commits a.behind a.first a.some a.front a.rest a.hudi a.iceberg a.keeps a.holds.1.1.1 n (start, reads, (goes, (due, (place, within, (kept, stands, file))))))
        (few_versions t brings id start due reads kept stands.0 place within n) passes)

    synced_none : (target : Kind) → target ≢ Delta → IsSynced target modes.Sync drill_time a.old a.new given → (kind : Kind) (which : LimitKind) (n : ℕ) → given ≡ status.Limit (side.Target kind) which n → ⊥
    synced_none Delta other synced kind which n is = absurd (other refl)
    synced_none Hudi other (inl gave_up) kind which n is = absurd (never_memory which kind n (sym is ∙ gave_up.0))
    synced_none Hudi other (inr (t, name, brings)) kind which n is =
        hudi_refused t name brings _ kind which n
        (refusal_by _ (target_facts to_hudi t) drill_time here (status.Limit (side.Target kind) which n) brings.answer (never_done which kind n) (sym is ∙ brings.told) (brings.sync.sync.caused tt))
    synced_none Iceberg other (inl gave_up) kind which n is = absurd (never_memory which kind n (sym is ∙ gave_up.0))
    synced_none Iceberg other (inr (t, id, location, brings)) kind which n is =
        iceberg_refused t id location brings _ kind which n
        (refusal_by _ (target_facts to_iceberg t) drill_time here (status.Limit (side.Target kind) which n) brings.answer (never_done which kind n) (sym is ∙ brings.told) (brings.sync.sync.caused tt))

  -- the number of syncs before it, of which each spends so much
  by_syncs : (given : Status) → (b : IsSyncAt tables drill_time (Budgeted number drill_time Known) all 1900000 given) → IsSyncAt tables drill_time Known all 800 given
  by_syncs given b = record {
    target = b.target;
    other = b.other;
    spent = b.holds.0;
    few = let each = b.holds.1 in let most = b.few in omega (arith, each, most);
    commits = b.commits;
    behind = b.behind;
    first = b.first;
    some = b.some;
    front = b.front;
    rest = b.rest;
    hudi = b.hudi;
    iceberg = b.iceberg;
    old = b.old;
    new = b.new;
    keeps = b.keeps;
    holds = b.holds.2;
    synced = b.synced;
  }

  module _ (old : FuseStore) (after : Progress) (new : FuseStore) (fresh : IsFresh old) (unscripted : CanFail (script_of old) → ⊥) (plays : PlaysAll drill_time events nothing_played old after new) (order : AreInOrder 0 events) where
    keeps : Keeps tables [] [] tables 0 0 0 old
    keeps = begins tables old fresh

    long : length (extensions events) ≡ 200
    long = ap (λ (l : List (List ℕ)). length l) all_are ∙ length_map (drill_bytes number) 200

    small : length (extensions events) ≤ 2 ^ 64
    small = let e = long in omega (arith, e)

    found : Found tables (length (extensions events)) drill_time small IsEnded drill_weight (Budgeted number drill_time Known) (budgeted number drill_time Known known_stays) all 1900000 0 [] old new nothing_played after
    found =
        let few = few_spent number in
        syncs_on tables (length (extensions events)) drill_time small IsEnded drill_weight (Budgeted number drill_time Known) (budgeted number drill_time Known known_stays) all 1900000 events false 0 [] [] tables 0 0 nothing_played old after new (plain number) (λ some. absurd (false≢true some))
        (omega (arith, few)) keeps refl refl (omega arith) all_are plays order tables_are

    at_first : Budgeted number drill_time Known 0 [] old
    at_first = (0, omega arith, none_known old fresh keeps, none_held old fresh unscripted)

    -- No sync of the drill is refused for a number of a target.
    pub none_at_sync : (place : ℕ) (kind : Kind) (which : LimitKind) (n : ℕ) → slice_get after.answers place ≡ Some (status.Limit (side.Target kind) which n) → EndBefore IsEnded after.answers place → ⊥
    unfolding by_syncs found
    none_at_sync place kind which n at ended =
        let b = found.at at_first place (status.Limit (side.Target kind) which n) (ap (λ (l : List Status). slice_get l place) (sym found.told) ∙ at) (subst (λ (l : List Status). EndBefore IsEnded l place) found.told ended) in
        let a = by_syncs (status.Limit (side.Target kind) which n) b in
        synced_none (status.Limit (side.Target kind) which n) a (λ folder. names_within b.spent b.old folder b.few b.holds.3) a.target a.other a.synced kind which n refl

    -- Where all end as they may, no folder has too many names at the end.
    roomy_end : AllByRecursion IsEnded after.answers → IsRoomy (fuse_disk new).files
    roomy_end ended =
        let at = found.end at_first (subst (λ (l : List Status). AllByRecursion IsEnded l) found.told ended) in
        let budget : Budgeted number drill_time Known at.0 at.1 new = at.3 in
        λ folder. names_within at.0 new folder at.2 budget.3

    -- Nor have the manifests of the Iceberg target many entries.
    entries_end : AllByRecursion IsEnded after.answers → EntriesUpTo 10000 (fuse_disk new).files
    entries_end ended =
        let at = found.end at_first (subst (λ (l : List Status). AllByRecursion IsEnded l) found.told ended) in
        let budget : Budgeted number drill_time Known at.0 at.1 new = at.3 in
        few_in_all number drill_time budget.0 at.1 new budget.2.1.0.1.1

  -- ---- by reading at the end

  entries_store : (store : FuseStore) → IsPlayedThrough number store → LeavesDrill number (fuse_disk store).files → EntriesUpTo 10000 (fuse_disk store).files
  entries_store store played leaves =
      subst (λ (d : Disk). EntriesUpTo 10000 d.files) (sym played.disk) (entries_end played.start played.after played.end played.fresh played.unscripted played.plays leaves.legal.order played.ended)

  roomy_store : (store : FuseStore) → IsPlayedThrough number store → LeavesDrill number (fuse_disk store).files → IsRoomy (fuse_disk store).files
  roomy_store store played leaves =
      subst (λ (d : Disk). IsRoomy d.files) (sym played.disk) (roomy_end played.start played.after played.end played.fresh played.unscripted played.plays leaves.legal.order played.ended)

  -- What is read of a target at the end passes no number.
  pub none_at_end : (store : FuseStore) → IsPlayedThrough number store → LeavesDrill number (fuse_disk store).files → (target : Kind) (which : LimitKind) (n : ℕ) → IsReadPast (fuse_disk store).files target which n → ⊥
  none_at_end store played leaves Delta which n past = absurd past
  none_at_end store played leaves Hudi which n past =
      let files = (fuse_disk store).files in
      let brought : IsBrought meaning_of_hudi tables files = leaves.hudi tables tables_are in
      let count = hudi_counts.commits_read files brought.at.view brought.at.reads in
      let commits = brought.commits in
      none_hudi files (roomy_store store played leaves) brought.at.view which n brought.at.reads (omega (arith, count, commits)) (short_at_end number store played).0 past
  none_at_end store played leaves Iceberg which n past =
      let files = (fuse_disk store).files in
      let brought : IsBrought meaning_of_iceberg tables files = leaves.iceberg tables tables_are in
      none_iceberg files (roomy_store store played leaves) brought.at.view which n brought.at.reads (few_shown number files 200 brought.at.view brought.at.reads brought.at.shows) (short_at_end number store played).1 (entries_store store played leaves) past
