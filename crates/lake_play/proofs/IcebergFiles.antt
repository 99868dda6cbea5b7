-- No file that a sync of a drill would write to its Iceberg target is too large.
use Rattle.std.proofs.Common.{◌≡◌, ◌⊎◌, inl, inr, ⊎_elim, ℕ, ◌+◌, ◌^◌, ◌≤◌, ◌<◌, List, [], ◌∷◌, ◌++◌, length, map, take, Contains, Option, Some, None, refl, sym, ap, subst, ◌∙◌, arith}
use Rattle.std.specs.Prelude.{IsSome, unwrap_or}
use Rattle.std.proofs.lemmas.Bool.{cases_lt}
use Rattle.std.proofs.lemmas.List.{length-append, length-take}
use Rattle.lake_basics.specs.declared.limits.TheConstants.{MAX_ICEBERG_VERSION}
use Rattle.lake_store.specs.Disk.{Files}
use Rattle.lake_store.specs.Fuse.{fuse_disk, room_of}
use Rattle.lake_store.specs.Runs.{IsIn}
use Rattle.lake_store.specs.declared.fuse.FuseStore.{FuseStore}
use Rattle.conformance.specs.Drill.{AreSaid, drill_bytes, drill_schema, drill_time, numbers_under}
use Rattle.conformance.proofs.Bounds.{drill_history}
use Rattle.conformance.proofs.Numbers.{length_map}
use Rattle.delta_table.specs.SameVersions.{version_in}
use Rattle.delta_table.specs.Versions.{log_folder}
use Rattle.source_core.specs.Histories.{IsAt}
use Rattle.table_history.specs.History.{History}
use Rattle.table_history.specs.TypeTree.{ColumnTrees}
use Rattle.table_history.specs.declared.kind.Kind.{Kind}
use Rattle.table_history.specs.declared.kind.Kind.TheVariants.{Delta, Hudi, Iceberg}
use Rattle.table_history.specs.declared.limit.LimitKind.TheVariants.{File}
use Rattle.table_history.specs.declared.table.Commit.{Commit}
use Rattle.table_history.proofs.RowListLemmas.{Contains-head, Contains-none, Contains-one, Contains-tail}
use Rattle.uuid.proofs.TextLemmas.{by_index_length}
use Rattle.iceberg_metadata.specs.Schemas.{HeldSchema}
use Rattle.iceberg_metadata.specs.Writing.{SameMetadata}
use Rattle.iceberg_metadata.specs.declared.metadata.Metadata.{Metadata}
use Rattle.iceberg_table.specs.Folder.{metadata_folder}
use Rattle.iceberg_version.specs.KeptEnd.{end_of, view_of}
use Rattle.iceberg_version.specs.Writing.{no_version, stated_behind}
use Rattle.iceberg_version.specs.declared.kept.IcebergKept.{IcebergKept}
use Rattle.iceberg_version.proofs.Shared.{in_take}
use Rattle.target_core.proofs.Apart.{folders_apart}
use Rattle.target_core.specs.Folders.{SameIn}
use Rattle.target_core.specs.Views.{Origin, Standing, View}
use Rattle.target_core.proofs.Unpublished.{no_commits}
use Rattle.target_iceberg.specs.AlikeLemmas.{held_ours}
use Rattle.target_iceberg.specs.CountLemmas.{commits_read}
use Rattle.target_iceberg.specs.IcebergMeaning.{iceberg_meaning}
use Rattle.target_iceberg.specs.Kept.{StandsFor}
use Rattle.target_iceberg.specs.Reading.{Reads}
use Rattle.target_iceberg.specs.SettledLemmas.{crash_reached, own_reached}
use Rattle.target_iceberg.specs.TableId.{table_id}
use Rattle.target_iceberg.specs.ViewLemmas.{is_absent}
use Rattle.target_iceberg.specs.declared.target.IcebergTarget.{IcebergTarget}
use Rattle.target_sync.specs.Answered.{IsPassed, IsReady}
use Rattle.target_sync.specs.Dues.{AreSinceMark, Due, IsInFull, origin_of}
use Rattle.target_sync.specs.Targets.{TargetFacts, target_facts}
use Rattle.target_sync.specs.declared.plan.Mode.TheVariants as modes
use Rattle.target_sync.specs.declared.status.Status.{Status}
use Rattle.lake_play.specs.Formats.{from_delta, place, to_iceberg}
use Rattle.lake_play.specs.Playing.{Brings, IsSynced, scripted}
use Rattle.lake_play.specs.Scripted.{scripted_store}
use Rattle.lake_play.specs.Standing.{meaning_of_iceberg}
use Rattle.lake_play.proofs.AtSyncs.{Stays}
use Rattle.lake_play.proofs.Causes.{due_shows, iceberg_views}
use Rattle.lake_play.proofs.DrillDue.{few_due}
use Rattle.lake_play.proofs.DrillRows.{IsDueCommit}
use Rattle.lake_play.proofs.DueCommits.{due_partition, each_due, origin_is}
use Rattle.lake_play.proofs.EachOnce.{iceberg_side}
use Rattle.lake_play.proofs.Gains.{stays_or_comes}
use Rattle.lake_play.proofs.IcebergKept.{end_is}
use Rattle.lake_play.proofs.IcebergTexts.{Begins, at_no_commit, begins_take}
use Rattle.lake_play.proofs.Logs.{extended_elsewhere}
use Rattle.lake_play.proofs.MetadataTexts.{HoldsDrill, IsDrillMetadata, drill_held, made_is, next_schemas}
use Rattle.lake_play.proofs.Newest.{AllMay, IsStep, OfNewest, of_behind, of_kept, of_none, of_same, reached_newest, sync_holds, table_held}
use Rattle.lake_play.proofs.Plays.{Keeps}
use Rattle.lake_play.proofs.Schemas.{none_stated}
use Rattle.lake_play.proofs.Syncs.{alone, going}
use Rattle.lake_play.proofs.Targets.{IsPlayed}
use Rattle.target_hudi.specs.InspectLemmas.{none_is_some}

-- ---- the newest version's metadata

-- It is that of a drill's table.
abbrev pub HasDrill : ℕ → Metadata → Type 0
HasDrill version m = IsDrillMetadata m

other_properties : (m : Metadata) (ps : List (List ℕ × List ℕ)) → IsDrillMetadata m → IsDrillMetadata (record m { properties = ps })
other_properties m ps is = record { uuid = is.uuid; location = is.location; updated = is.updated; current = is.current; snapshots = is.snapshots; few = is.few; schemas = is.schemas }

own_properties : (m : Metadata) (ps : List (List ℕ × List ℕ)) → IsDrillMetadata (record m { properties = ps }) → IsDrillMetadata m
own_properties m ps is = record { uuid = is.uuid; location = is.location; updated = is.updated; current = is.current; snapshots = is.snapshots; few = is.few; schemas = is.schemas }

alike : (version : ℕ) (m n : Metadata) → SameMetadata m n → HasDrill version n → HasDrill version m
alike version m n same is = own_properties m n.properties (subst IsDrillMetadata (sym same.others) is)

alike_back : (m n : Metadata) → SameMetadata m n → IsDrillMetadata m → IsDrillMetadata n
alike_back m n same is = subst IsDrillMetadata same.others (other_properties m n.properties is)

id_long : (location : List ℕ) → length (table_id location) ≡ 36
unfolding table_id
id_long location = by_index_length 36 _

first_is : (id location : List ℕ) → id ≡ table_id place → location ≡ place → HasDrill 0 (no_version id location)
first_is id location named there = record {
  uuid = let same = ap (λ (l : List ℕ). length l) named in let long = id_long place in omega (arith, same, long);
  location = there;
  updated = (0, refl, omega arith);
  current = tt;
  snapshots = λ s inside. absurd (Contains-none s inside);
  few = omega arith;
  schemas = inl (refl, refl);
}

held_drill : (m : Metadata) → HoldsDrill m → (s : HeldSchema) → Contains m.schemas s → s.1 ≡ drill_schema
held_drill m (inl none) s there = absurd (Contains-none s (subst (λ (l : List HeldSchema). Contains l s) none.0 there))
held_drill m (inr holds) s there = ap (λ (h : HeldSchema). h.1) (sym (Contains-one drill_held s (subst (λ (l : List HeldSchema). Contains l s) holds.0 there)))

-- ---- what is published

-- A commit behind so many states the drill's schema or none, and the first of all states it.
abbrev MayState : ℕ → Commit → Type 0
MayState version commit = ((schema : ColumnTrees) → commit.change.schema ≡ Some schema → schema ≡ drill_schema) × (version ≡ 0 → IsSome commit.change.schema)

stated_by : (version : ℕ) (table : ColumnTrees) → (0 < version → table ≡ drill_schema) → (o : Option ColumnTrees) → (version ≡ 0 → IsSome o) → ((schema : ColumnTrees) → o ≡ Some schema → schema ≡ drill_schema) → unwrap_or o table ≡ drill_schema
stated_by version table is None first states =
    ⊎_elim
    (λ (none : version < 1). absurd (none_stated None (first (omega (arith, none))) refl))
    (λ (some : 1 ≤ version). is some)
    (cases_lt version 1)
stated_by version table is (Some schema) first states = states schema refl

module _ (id location : List ℕ) (named : id ≡ table_id place) (there : location ≡ place) (kept : IcebergKept) (files : Files) (stands : StandsFor id location kept files) (holds : OfNewest HasDrill files) where
  pub kept_is : IsDrillMetadata kept.metadata
  kept_is = of_kept HasDrill alike id location (first_is id location named there) kept files stands holds

  kept_schema : 0 < kept.version → kept.table.schema ≡ drill_schema
  kept_schema some =
      let held = table_held (λ (s : HeldSchema). s.1 ≡ drill_schema) id location kept files stands (λ version m newest says s inside. held_drill m (holds version m newest says).schemas s inside) some in
      held.2 ∙ held.1

step : (id location : List ℕ) → id ≡ table_id place → location ≡ place → (origin : Origin) (now : ℕ) → now ≤ drill_time → IsStep (OfNewest HasDrill) MayState id location origin now
step id location named there origin now up kept before after commit stands writes within states holds =
    let is = kept_is id location named there kept before stands holds in
    let stated : stated_behind (end_of kept) commit.change ≡ drill_schema = stated_by kept.version kept.table.schema (kept_schema id location named there kept before stands holds) commit.change.schema states.1 states.0 in
    let w = writes.is in
    let next = next_schemas kept.metadata (stated_behind (end_of kept) commit.change) w.schemas is.schemas stated w.layout.schemas_are in
    let made = made_is (end_of kept) origin now commit w.schemas w.fields is (omega (arith, within)) up next in
    of_behind id location kept before after origin now commit stands writes within HasDrill
    (alike_back writes.written.metadata writes.back.metadata.0 writes.back.metadata.2 (subst IsDrillMetadata (sym w.metadata) made))

-- ---- what is due

-- A target without a commit takes the whole table, so the first commit states a schema.
first_states : (files : Files) (start : View) → Reads files start → (due : Due from_delta modes.Sync files start) (id location : List ℕ) (kept : IcebergKept) → StandsFor id location kept files → kept.version ≡ 0 → (commit : Commit) (commits : List Commit) → due.commits ≡ commit ∷ commits → IsSome commit.change.schema
first_states files start reads due id location kept stands none commit commits are =
    ⊎_elim
    (λ (since : AreSinceMark from_delta modes.Sync files start due.partition due.commits due.full).
    let some = some_commit reads since.marked.0 since.marked.1 in
    let count : start.commits ≡ kept.version = sym (commits_read files start reads) ∙ commits_read files (view_of kept) stands.reads in
    absurd (omega (arith, some, count, none)))
    (λ (whole : IsInFull from_delta modes.Sync files start due.head due.partition due.commits due.full).
    let one : whole.commit ≡ commit = Contains-one whole.commit commit (subst (λ (l : List Commit). Contains l commit) (sym are ∙ whole.only) (Contains-head commit commits)) in
    subst (λ (c : Commit). IsSome c.change.schema) one (subst (λ (o : Option ColumnTrees). IsSome o) (sym whole.change.schema) refl))
    due.way
  where
    some_commit : Reads files start → (standing : Standing) → start.mark ≡ Some standing → 0 < start.commits
    some_commit (inl nothing) standing marked = absurd (none_is_some start standing nothing.1 marked)
    some_commit (inr ours) standing marked = ours.first

all_later : (version : ℕ) (commits : List Commit) → 0 < version → ((commit : Commit) → Contains commits commit → (schema : ColumnTrees) → commit.change.schema ≡ Some schema → schema ≡ drill_schema) → AllMay MayState version commits
all_later version [] some each = tt
all_later version (commit ∷ commits) some each =
    ((each commit (Contains-head commit commits), λ none. absurd (omega (arith, some, none))), all_later (version + 1) commits (omega arith) (λ other there. each other (Contains-tail commit commits other there)))

all_state : (version : ℕ) (commits : List Commit) → ((commit : Commit) → Contains commits commit → (schema : ColumnTrees) → commit.change.schema ≡ Some schema → schema ≡ drill_schema)
    → ((commit : Commit) (others : List Commit) → commits ≡ commit ∷ others → version ≡ 0 → IsSome commit.change.schema) → AllMay MayState version commits
all_state version [] each first = tt
all_state version (commit ∷ commits) each first = ((each commit (Contains-head commit commits), first commit commits refl), all_later (version + 1) commits (omega arith) (λ other there. each other (Contains-tail commit commits other there)))

-- ---- along a play

module _ (number : ℕ) where
  abbrev tables : History
  tables = drill_history number 200

  -- the Iceberg target behind so many syncs and these commits
  abbrev pub IsDrills : ℕ → List (List ℕ) → FuseStore → Type 0
  IsDrills syncs commits store = OfNewest HasDrill (fuse_disk store).files

  same_drill : (old new : FuseStore) → SameIn metadata_folder (fuse_disk old).files (fuse_disk new).files → OfNewest HasDrill (fuse_disk old).files → OfNewest HasDrill (fuse_disk new).files
  same_drill old new same was = of_same HasDrill (fuse_disk old).files (fuse_disk new).files (reached_newest (fuse_disk old).files (fuse_disk new).files (own_reached (fuse_disk old).files (fuse_disk new).files same)) was

  module _ (commits : List (List ℕ)) (front rest : History) (hudi iceberg : ℕ) (old new : FuseStore) (given : Status) (keeps : Keeps tables commits front rest 0 hudi iceberg old) (small : length commits ≤ 2 ^ 64) where
    played : (t : IcebergTarget) → t.id ≡ table_id place → IsPlayed (target_facts to_iceberg t).files (front ++ rest) iceberg (length commits) (fuse_disk old)
    played t id =
        subst (λ (h : History). IsPlayed (target_facts to_iceberg t).files h iceberg (length commits) (fuse_disk old)) keeps.split
        (subst (λ (i : List ℕ). IsPlayed (iceberg_meaning i) tables iceberg (length commits) (fuse_disk old)) (sym id) keeps.to_iceberg)

    dues : (t : IcebergTarget) → t.id ≡ table_id place → Brings (target_facts to_iceberg t) modes.Sync drill_time old new given → (start : View) → Reads (fuse_disk old).files start → (due : Due from_delta modes.Sync (fuse_disk old).files start) → (commit : Commit) → Contains due.commits commit → IsDueCommit number commit
    dues t id brings start reads due =
        each_due number (target_facts to_iceberg t) (iceberg_views t) old new given brings keeps.uncontested commits keeps.log front rest keeps.made small keeps.split iceberg (played t id) start reads due

    own_drill : IsSynced Iceberg modes.Sync drill_time old new given → OfNewest HasDrill (fuse_disk old).files → OfNewest HasDrill (fuse_disk new).files
    own_drill (inl gave_up) was = subst (λ (s : FuseStore). OfNewest HasDrill (fuse_disk s).files) (sym gave_up.1) was
    own_drill (inr is) was =
        let t = is.0 in
        let facts : TargetFacts = target_facts to_iceberg t in
        let before = (fuse_disk old).files in
        let after = (fuse_disk new).files in
        let mine = played t is.1 in
        let at = mine.stands.at in
        let ready : IsReady from_delta facts before at.view (facts.files.settled (fuse_disk old)) =
        record { reads = at.reads; goes_on = going facts modes.Sync drill_time old new given is.3 keeps.uncontested (front ++ rest) mine.stands.j at.view at.shows; settled = mine.settled } in
        sync_holds (OfNewest HasDrill) MayState (of_same HasDrill) from_delta t modes.Sync drill_time at.view before after at.reads was (λ origin. step t.id t.location is.1 is.2 origin drill_time (omega arith))
        (λ due kept stands. all_state kept.version due.commits (λ commit there. (dues t is.1 is.3 at.view at.reads due commit there).stated) (λ commit others are none. first_states before at.view at.reads due t.id t.location kept stands none commit others are))
        (stays_or_comes scripted_store tt from_delta facts modes.Sync drill_time (scripted (room_of old) old) (scripted is.3.room new) is.3.answer is.3.sync.sync (alone facts modes.Sync drill_time old new given is.3 keeps.uncontested) at.view ready)

    synced_drill : (target : Kind) → IsSynced target modes.Sync drill_time old new given → OfNewest HasDrill (fuse_disk old).files → OfNewest HasDrill (fuse_disk new).files
    synced_drill Delta is was = same_drill old new (iceberg_side.beside Delta modes.Sync drill_time old new given refl keeps.uncontested is) was
    synced_drill Hudi is was = same_drill old new (iceberg_side.beside Hudi modes.Sync drill_time old new given refl keeps.uncontested is) was
    synced_drill Iceberg is was = own_drill is was

  pub iceberg_drills : Stays tables drill_time (λ given. Unit {0}) IsDrills
  iceberg_drills = record {
    extended = λ syncs commits front behind hudi iceberg old new bytes keeps is was.
        same_drill old new (λ path within. extended_elsewhere (fuse_disk old) (fuse_disk new) is.path bytes path is.disk (λ e. folders_apart Iceberg Delta (λ same. cc) path within (subst (IsIn log_folder) (sym e) (version_in is.path (length commits) is.is)))) was;
    synced = λ syncs commits front behind hudi iceberg old new target given keeps small some is ends was. synced_drill commits front behind hudi iceberg old new given keeps small target is was;
    stopped = λ syncs commits old call was. was;
    crashed = λ syncs commits front behind hudi iceberg old new choices keeps is was.
        of_same HasDrill (fuse_disk old).files (fuse_disk new).files (reached_newest (fuse_disk old).files (fuse_disk new).files (crash_reached (fuse_disk old) (fuse_disk new).files keeps.to_iceberg.settled (λ path within clean. is.image path clean))) was;
  }

  pub none_drills : (store : FuseStore) (hudi iceberg : ℕ) → Keeps tables [] [] tables 0 hudi iceberg store → IsDrills 0 [] store
  none_drills store hudi iceberg keeps =
      let stands = keeps.to_iceberg.stands in
      let up = stands.up_to in
      let none : stands.j ≡ 0 = omega (arith, up) in
      let at : IsAt Delta meaning_of_iceberg tables (fuse_disk store).files 0 = subst (IsAt Delta meaning_of_iceberg tables (fuse_disk store).files) none stands.at in
      of_none HasDrill (fuse_disk store).files (is_absent (fuse_disk store).files at.view.table.partition (subst (Reads (fuse_disk store).files) at.shows at.reads))

-- ---- a sync

module _ (number : ℕ) (said : AreSaid number) (t : IcebergTarget) (id : t.id ≡ table_id place) (location : t.location ≡ place) (old new : FuseStore) (given : Status) (brings : Brings (target_facts to_iceberg t) modes.Sync drill_time old new given)
    (commits later : List (List ℕ)) (all : commits ++ later ≡ map (drill_bytes number) (numbers_under 200)) (some : 0 < length commits) (front rest : History) (hudi iceberg : ℕ) (keeps : Keeps (drill_history number 200) commits front rest 0 hudi iceberg old)
    (holds : OfNewest HasDrill (fuse_disk old).files) where
  abbrev facts : TargetFacts
  facts = target_facts to_iceberg t

  abbrev files : Files
  files = (fuse_disk old).files

  few : length commits ≤ 200
  few =
      let both : length (map (drill_bytes number) (numbers_under 200)) ≡ length commits + length later = ap (λ (l : List (List ℕ)). length l) (sym all) ∙ length-append commits later in
      let count = length_map (drill_bytes number) 200 in
      omega (arith, both, count)

  small : length commits ≤ 2 ^ 64
  small = let le = few in omega (arith, le)

  was : IsPlayed facts.files (front ++ rest) iceberg (length commits) (fuse_disk old)
  was = played number commits front rest hudi iceberg old new given keeps small t id

  version_low : (kept : IcebergKept) → Reads files (view_of kept) → kept.version ≤ MAX_ICEBERG_VERSION
  version_low kept (inl nothing) = let none : kept.version ≡ 0 = no_commits (view_of kept) nothing.1 in omega (arith, none)
  version_low kept (inr ours) = let low = ours.newest.there.2.within in omega (arith, low)

  -- behind the first of the commits that are due the table has the drill's schema
  begins_by : (kept : IcebergKept) → StandsFor t.id t.location kept files → (start : View) → Reads files start → (due : Due from_delta modes.Sync files start) → ((commit : Commit) → Contains due.commits commit → IsDueCommit number commit) → (cs : List Commit) → due.commits ≡ cs
      → Begins (end_of kept) cs
  begins_by kept stands start reads due are [] is = tt
  begins_by kept stands start reads due are (commit ∷ cs) is =
      stated_by kept.version kept.table.schema (kept_schema t.id t.location id location kept files stands holds) commit.change.schema (λ none. first_states files start reads due t.id t.location kept stands none commit cs is)
      (are commit (subst (λ (l : List Commit). Contains l commit) (sym is) (Contains-head commit cs))).stated

  pub no_file : (n : ℕ) → IsPassed from_delta facts modes.Sync drill_time files File n → ⊥
  no_file n (start, reads, (goes, (due, (at, within, (kept, stands, passes))))) =
      let shows = due_shows facts (iceberg_views t) modes.Sync drill_time old new given brings keeps.uncontested commits 0 keeps.log front rest keeps.made small iceberg was (view_of kept) stands.0.reads in
      let column = due_partition number facts (iceberg_views t) old new given brings keeps.uncontested commits keeps.log front rest keeps.made small keeps.split iceberg was start reads due in
      let are = dues number commits front rest hudi iceberg old new given keeps small t id brings start reads due in
      let end = end_is number t.id t.location kept files stands.0 front rest keeps.split was.stands.j shows (kept_is t.id t.location id location kept files stands.0 holds) (λ h. holds kept.version h.metadata (held_ours files kept h stands.0.reads).newest h.says) due.partition column stands.1 in
      let version = version_low kept stands.0.reads in
      let count = length-take (at + 1) due.commits in
      let due_few = few_due commits 0 (fuse_disk old) keeps.log modes.Sync start due in
      let commits_few = few in
      at_no_commit number drill_time (origin_of due) (origin_is number said commits later all some (fuse_disk old) keeps.log start due) (omega arith) (take (at + 1) due.commits) (end_of kept) 10000 n end
      (begins_take (end_of kept) (at + 1) due.commits (begins_by kept stands.0 start reads due are due.commits refl))
      (λ commit there. are commit (in_take (at + 1) due.commits commit there)) (omega (arith, version, count, due_few, commits_few)) (omega (arith, count, due_few, commits_few)) passes
