-- Events whose tables all have one schema change the type of no column of an Iceberg target.
use Rattle.std.proofs.Common.{◌≡◌, inl, inr, ⊎_elim, ℕ, zero, suc, ◌+◌, ◌^◌, ◌≤◌, ◌<◌, max, min, Bool, true, false, List, [], ◌∷◌, ◌++◌, length, map, Contains, Option, None, Some, Result, Ok, Err, refl, sym, ap, subst, ◌∙◌, append_assoc, arith, if◌then◌else◌}
use Rattle.std.specs.List.{AllByRecursion}
use Rattle.std.specs.Prelude.{IsSome, pos, slice_get}
use Rattle.std.proofs.lemmas.Bool.{false≢true}
use Rattle.std.proofs.lemmas.List.{append-nil, length-append}
use Rattle.std.proofs.lemmas.List.Elements.{Contains-append_cases, Contains-append_left}
use Rattle.std.proofs.lemmas.Option.{none-some, same_Some}
use Rattle.lake_basics.specs.declared.limits.TheConstants.{MAX_PUBLISHED_COMMITS}
use Rattle.lake_store.specs.Disk.{Disk, Files, empty_disk}
use Rattle.lake_store.specs.Fuse.{FuseCanBeContested, fuse_disk, room_of}
use Rattle.lake_store.specs.Runs.{IsIn}
use Rattle.lake_store.specs.declared.fuse.FuseStore.{FuseStore}
use Rattle.conformance.specs.Histories.{AreInOrder, IsHistoryFrom, IsHistoryOf, extensions}
use Rattle.conformance.specs.declared.event.Event.{Event}
use Rattle.conformance.specs.declared.event.Event.TheVariants as event
use Rattle.conformance.proofs.Legal.{last_more, last_table}
use Rattle.delta_table.specs.SameVersions.{version_in}
use Rattle.delta_table.specs.Versions.{log_folder}
use Rattle.schema_map.proofs.ImageTwice.{columns_twice}
use Rattle.schema_map.specs.Image.{wide_columns}
use Rattle.schema_map.specs.Paths.{Path}
use Rattle.source_core.specs.Histories.{IsAt}
use Rattle.table_history.specs.History.{History}
use Rattle.table_history.specs.TypeTree.{ColumnTrees}
use Rattle.table_history.specs.declared.feature.Feature.TheVariants.{PartitionChange, TypeChange}
use Rattle.table_history.specs.declared.kind.Kind.{Kind}
use Rattle.table_history.specs.declared.kind.Kind.TheVariants.{Delta, Hudi, Iceberg}
use Rattle.table_history.specs.declared.limit.LimitKind.TheVariants.{Publish}
use Rattle.table_history.specs.declared.table.Commit.{Commit}
use Rattle.table_history.specs.declared.table.Table.{Table}
use Rattle.table_history.proofs.RowListLemmas.{Contains-cases, Contains-head, Contains-none, Contains-one, Contains-tail}
use Rattle.iceberg_metadata.specs.Schemas.{HeldSchema}
use Rattle.iceberg_table.specs.Folder.{metadata_folder}
use Rattle.iceberg_version.specs.KeptEnd.{view_of}
use Rattle.iceberg_version.specs.declared.kept.IcebergKept.{IcebergKept}
use Rattle.target_core.proofs.Apart.{folders_apart}
use Rattle.target_core.specs.Folders.{SameIn}
use Rattle.target_core.specs.Views.{Standing, View}
use Rattle.target_core.specs.declared.target.TargetError.{TargetError}
use Rattle.target_core.specs.declared.target.TargetError.TheVariants as target_error
use Rattle.target_hudi.specs.declared.target.HudiTarget.{HudiTarget}
use Rattle.target_hudi.specs.InspectLemmas.{none_is_some}
use Rattle.target_iceberg.proofs.TypeLemmas.{become_self, same_type}
use Rattle.target_iceberg.specs.CountLemmas.{commits_read}
use Rattle.target_iceberg.specs.Fitting.{ChangesType, HasTypeChange, HeldState, IdSchema, IsFirstChange, Unfit, is_current, may_become, state_behind, state_of, stated_in, type_at}
use Rattle.target_iceberg.specs.IcebergMeaning.{iceberg_meaning}
use Rattle.target_iceberg.specs.Kept.{StandsFor}
use Rattle.target_iceberg.specs.Reading.{Reads}
use Rattle.target_iceberg.specs.SettledLemmas.{crash_reached, own_reached}
use Rattle.target_iceberg.specs.TableId.{table_id}
use Rattle.target_iceberg.specs.ViewLemmas.{is_absent}
use Rattle.target_iceberg.specs.declared.target.IcebergTarget.{IcebergTarget}
use Rattle.target_sync.specs.Along.{IsWholeSync}
use Rattle.target_sync.specs.Answered.{IsCaused, IsFew, IsOfSync, IsReady, IsUnfit}
use Rattle.target_sync.specs.Dues.{AreSinceMark, Due, IsInFull}
use Rattle.target_sync.specs.Others.{IsIdle}
use Rattle.target_sync.specs.Targets.{IsKept, TargetFacts, target_facts}
use Rattle.target_sync.specs.declared.apply.Report.{Report}
use Rattle.target_sync.specs.declared.plan.Mode.{Mode}
use Rattle.target_sync.specs.declared.plan.Mode.TheVariants as modes
use Rattle.target_sync.specs.declared.status.Side.TheVariants as side
use Rattle.target_sync.specs.declared.status.Status.{Status}
use Rattle.target_sync.specs.declared.status.Status.TheVariants as status
use Rattle.lake_play.specs.Formats.{from_delta, place, to_hudi, to_iceberg}
use Rattle.lake_play.specs.Playing.{Brings, Extends, IsSynced, PlaysAll, nothing_played, scripted, status_of, with_answer}
use Rattle.lake_play.specs.Scripted.{scripted_store}
use Rattle.lake_play.specs.Standing.{IsFresh, floor_behind}
use Rattle.lake_play.specs.declared.playing.Progress.{Progress}
use Rattle.lake_play.proofs.Causes.{due_states, iceberg_views}
use Rattle.lake_play.proofs.Gains.{stays_or_comes}
use Rattle.lake_play.proofs.Histories.{same_length}
use Rattle.lake_play.proofs.Logs.{HoldsCommits, extended_elsewhere, shed_elsewhere}
use Rattle.lake_play.proofs.Plays.{Keeps, begins, crash_keeps, extend_keeps, nothing_keeps, shorten_keeps, sync_keeps}
use Rattle.lake_play.proofs.Newest.{of_same, sync_holds}
use Rattle.lake_play.proofs.Schemas.{BeginsStated, HasOnly, HoldsOnly, MayState, StateOnly, all_state, begins_later, only_none, only_step, only_too, schemas_only, stated_image, table_only}
use Rattle.lake_play.proofs.Syncs.{alone, going, same_beside}
use Rattle.lake_play.proofs.Targets.{IsPlayed, at_front, iceberg_laws}

-- ---- commits that change no type

-- the same columns at a path have one type
types_same : (image : ColumnTrees) (held : List IdSchema) (stated : ColumnTrees) → ((s : IdSchema) → Contains held s → s.1 ≡ image) → wide_columns stated ≡ image → (path : Path) → ChangesType held stated path → ⊥
types_same image held stated all wide path change =
    let was : type_at image path ≡ Some change.before = ap (λ (s : ColumnTrees). type_at s path) (sym (all change.was.schema change.was.holds)) ∙ change.was.at in
    let is : type_at image path ≡ Some change.after = ap (λ (s : ColumnTrees). type_at s path) (sym wide) ∙ change.is in
    let same : change.before ≡ change.after = same_type (type_at image path) change.before change.after was is in
    false≢true (sym change.other ∙ ap (may_become change.before) (sym same) ∙ become_self change.before)

held_more : (image : ColumnTrees) (held : List IdSchema) (last : IdSchema) → ((s : IdSchema) → Contains held s → s.1 ≡ image) → last.1 ≡ image → (now : Bool) → (s : IdSchema) → Contains (if now then held else held ++ last ∷ []) s → s.1 ≡ image
held_more image held last all is true s there = all s there
held_more image held last all is false s there =
    ⊎_elim
    (λ old. all s old)
    (λ new. ap (λ (x : IdSchema). x.1) (sym (Contains-one last s new)) ∙ is)
    (Contains-append_cases held (last ∷ []) s there)

-- Where each held schema and each stated one is of these columns, no type changes.
no_change : (image : ColumnTrees) → wide_columns image ≡ image → (state : HeldState) (commits : List Commit) → ((s : IdSchema) → Contains state.held s → s.1 ≡ image) → (0 < state.version → state.schema ≡ image) → StateOnly image commits → BeginsStated state.version commits
    → (name : List ℕ) → IsFirstChange state commits name → ⊥
no_change image own state [] held table states first name change = change
no_change image own state (commit ∷ commits) held table states first name change =
    let stated : wide_columns (stated_in state commit) ≡ image =
    stated_image image own state.version state.schema table commit.change.schema first (λ schema said. states commit schema (Contains-head commit commits) said) in
    ⊎_elim
    (λ (here : HasTypeChange state commit name). types_same image state.held (stated_in state commit) held stated here.path here.here)
    (λ (later : ((other : List ℕ) → ¬ HasTypeChange state commit other) × IsFirstChange (state_behind state commit) commits name).
    no_change image own (state_behind state commit) commits
    (held_more image state.held (pos (length state.held), wide_columns (stated_in state commit)) held stated (is_current state.current (wide_columns (stated_in state commit))))
    (λ some. stated)
    (λ other schema there said. states other schema (Contains-tail commit commits other there) said)
    (begins_later (state.version + 1) commits (omega arith)) name later.1)
    change

pairs_only : (image : ColumnTrees) (schemas : List HeldSchema) → ((s : HeldSchema) → Contains schemas s → s.1 ≡ image) → (x : IdSchema) → Contains (map (λ (s : HeldSchema). (s.0, s.1)) schemas) x → x.1 ≡ image
pairs_only image [] all x there = absurd (Contains-none x there)
pairs_only image (s ∷ schemas) all x there =
    ⊎_elim
    (λ (here : (s.0, s.1) ≡ x). ap (λ (p : IdSchema). p.1) (sym here) ∙ all s (Contains-head s schemas))
    (λ later. pairs_only image schemas (λ t held. all t (Contains-tail s schemas t held)) x later)
    (Contains-cases (s.0, s.1) (map (λ (t : HeldSchema). (t.0, t.1)) schemas) x there)

type_cause : (state : HeldState) (partition : List (List ℕ)) (commits : List Commit) (e : TargetError) → Unfit state partition commits e → (path : List ℕ) → e ≡ target_error.Unsupported TypeChange path → IsFirstChange state commits path
type_cause state partition commits _ (Unfit.many is) path same = let told : target_error.Limit Publish MAX_PUBLISHED_COMMITS ≡ target_error.Unsupported TypeChange path = same in absurd cc
type_cause state partition commits _ (Unfit.changes few is) path same = let told : target_error.Unsupported PartitionChange [] ≡ target_error.Unsupported TypeChange path = same in absurd cc
type_cause state partition commits _ (Unfit.type name few alike is) path same =
    let told : target_error.Unsupported TypeChange name ≡ target_error.Unsupported TypeChange path = same in
    let one : name ≡ path = cc in
    subst (IsFirstChange state commits) one is

-- ---- one sync

-- An answer of a sync that isn't for the type of a column of an Iceberg target.
abbrev pub KeepsTypes : Status → Type 0
KeepsTypes given = (path : List ℕ) → given ≡ status.Unsupported (side.Target Iceberg) TypeChange path → ⊥

module _ (schema : ColumnTrees) (t : IcebergTarget) (mode : Mode) (now : ℕ) (old new : FuseStore) (given : Status) (brings : Brings (target_facts to_iceberg t) mode now old new given) (none : FuseCanBeContested old → ⊥)
    (commits : List (List ℕ)) (first : ℕ) (log : HoldsCommits commits first (fuse_disk old)) (front rest : History) (is : IsHistoryFrom 0 None commits front) (few : length commits ≤ 2 ^ 64)
    (floor : ℕ) (was : IsPlayed (target_facts to_iceberg t).files (front ++ rest) floor (length commits) (fuse_disk old))
    (one : (entry : List ℕ × Table) → Contains front entry → entry.1.schema ≡ schema) (only : HoldsOnly (wide_columns schema) (fuse_disk old).files) where
  abbrev facts : TargetFacts
  facts = target_facts to_iceberg t

  abbrev image : ColumnTrees
  image = wide_columns schema

  abbrev before : Files
  before = (fuse_disk old).files

  abbrev after : Files
  after = (fuse_disk new).files

  abbrev sync : IsWholeSync scripted_store from_delta facts None mode now (scripted (room_of old) old) (scripted brings.room new) (Some brings.answer)
  sync = brings.sync

  abbrev k : ℕ
  k = was.stands.j

  within : k ≤ length front
  within = let up = was.stands.up_to in let e = same_length 0 None commits front is in omega (arith, up, e)

  here : IsAt Delta facts.files front before k
  here = at_front facts.files front rest before k within was.stands.at

  -- ---- what is due

  pub states : (start : View) → Reads before start → (due : Due from_delta mode before start) → StateOnly image due.commits
  states start reads due commit stated there said =
      let of = due_states facts (iceberg_views t) mode now old new given brings none commits first log front rest is few floor was start reads due commit stated there said in
      ap wide_columns (sym of.2 ∙ one of.0 of.1)

  same_count : (start : View) → Reads before start → (kept : IcebergKept) → StandsFor t.id t.location kept before → start.commits ≡ kept.version
  same_count start reads kept stands = sym (commits_read before start reads) ∙ commits_read before (view_of kept) stands.reads

  some_commit : (start : View) (standing : Standing) → Reads before start → start.mark ≡ Some standing → 0 < start.commits
  some_commit start standing (inl nothing) marked = absurd (none_is_some start standing nothing.1 marked)
  some_commit start standing (inr ours) marked = ours.first

  -- a target without a commit takes the whole table
  pub begins_stated : (start : View) → Reads before start → (due : Due from_delta mode before start) (kept : IcebergKept) → StandsFor t.id t.location kept before → BeginsStated kept.version due.commits
  begins_stated start reads due kept stands =
      ⊎_elim
      (λ (since : AreSinceMark from_delta mode before start due.partition due.commits due.full).
      let some = some_commit start since.marked.0 reads since.marked.1 in
      let count = same_count start reads kept stands in
      begins_later kept.version due.commits (omega (arith, some, count)))
      (λ (whole : IsInFull from_delta mode before start due.head due.partition due.commits due.full).
      subst (BeginsStated kept.version) (sym whole.only) (λ none_yet. subst (λ (o : Option ColumnTrees). IsSome o) (sym whole.change.schema) refl))
      due.way

  -- ---- what is left

  ready : IsReady from_delta facts before here.view (facts.files.settled (fuse_disk old))
  ready = record { reads = here.reads; goes_on = going facts mode now old new given brings none front k here.view here.shows; settled = was.settled }

  -- The target holds the one schema behind the sync too.
  pub sync_only : HoldsOnly image after
  sync_only =
      sync_holds (HoldsOnly image) (MayState image) (of_same (HasOnly image)) from_delta t mode now here.view before after here.reads only (λ origin. only_step image (columns_twice schema) t.id t.location origin now)
      (λ due kept stands. all_state image kept.version due.commits (states here.view here.reads due) (begins_stated here.view here.reads due kept stands))
      (stays_or_comes scripted_store tt from_delta facts mode now (scripted (room_of old) old) (scripted brings.room new) brings.answer sync.sync (alone facts mode now old new given brings none) here.view ready)

  -- ---- the answer

  never : (path : List ℕ) → brings.answer ≡ Err (status.Unsupported (side.Target Iceberg) TypeChange path) → ⊥
  never path answered =
      let refusal = subst (λ (a : Result Report Status). IsCaused (IsIdle scripted_store None (scripted (room_of old) old) (scripted brings.room new)) from_delta facts mode now before (Some a)) answered (sync.sync.caused tt) in
      let unfit : IsUnfit from_delta facts mode before (target_error.Unsupported TypeChange path) = refusal.2 in
      let start = unfit.0 in
      let reads : Reads before start = unfit.1 in
      let due : Due from_delta mode before start = unfit.2.1.0 in
      let cause : (kept : IcebergKept) × IsKept to_iceberg t before due.partition kept × Unfit (state_of kept) due.partition due.commits (target_error.Unsupported TypeChange path) = unfit.2.1.1 in
      let kept = cause.0 in
      let stands : StandsFor t.id t.location kept before = cause.1.0 in
      no_change image (columns_twice schema) (state_of kept) due.commits (pairs_only image kept.metadata.schemas (schemas_only image t.id t.location kept before stands only))
      (table_only image t.id t.location kept before stands only) (states start reads due) (begins_stated start reads due kept stands) path
      (type_cause (state_of kept) due.partition due.commits (target_error.Unsupported TypeChange path) cause.2 path refl)

  keeps_by : (answer : Result Report Status) → brings.answer ≡ answer → KeepsTypes (status_of answer)
  keeps_by (Ok report) answered path told = let other : status.Done ≡ status.Unsupported (side.Target Iceberg) TypeChange path = told in cc
  keeps_by (Err e) answered path told = never path (answered ∙ ap (λ (s : Status). Err s) told)

  pub sync_keeps_types : KeepsTypes given
  sync_keeps_types = subst KeepsTypes (sym brings.told) (keeps_by brings.answer refl)

-- ---- each event

module _ (schema : ColumnTrees) (history : History) (one : (entry : List ℕ × Table) → Contains history entry → entry.1.schema ≡ schema) where
  abbrev Only : FuseStore → Type 0
  Only store = HoldsOnly (wide_columns schema) (fuse_disk store).files

  same_only : (old new : FuseStore) → SameIn metadata_folder (fuse_disk old).files (fuse_disk new).files → Only old → Only new
  same_only old new same only = only_too (wide_columns schema) (fuse_disk old).files (fuse_disk new).files (own_reached (fuse_disk old).files (fuse_disk new).files same) only

  still_only : (old new : FuseStore) → new ≡ old → Only old → Only new
  still_only old new same only = subst Only (sym same) only

  module _ (commits : List (List ℕ)) (front behind : History) (first hudi iceberg : ℕ) (old new : FuseStore) (keeps : Keeps history commits front behind first hudi iceberg old) (few : length commits ≤ 2 ^ 64) (mode : Mode) (now : ℕ) (given : Status) (only : Only old) where
    hudi_answer : (t : HudiTarget) (brings : Brings (target_facts to_hudi t) mode now old new given) (answer : Result Report Status) → brings.answer ≡ answer → KeepsTypes (status_of answer)
    hudi_answer t brings (Ok report) answered path told = let other : status.Done ≡ status.Unsupported (side.Target Iceberg) TypeChange path = told in cc
    hudi_answer t brings (Err e) answered path told =
        let few_answers : IsOfSync Hudi e = subst (λ (a : Result Report Status). IsFew Hudi (Some a)) answered brings.sync.sync.few in
        let other : Iceberg ≡ Hudi = subst (IsOfSync Hudi) told few_answers in
        cc

    in_front : (entry : List ℕ × Table) → Contains front entry → entry.1.schema ≡ schema
    in_front entry there = one entry (subst (λ (h : History). Contains h entry) (sym keeps.split) (Contains-append_left front behind entry there))

    iceberg_was : (t : IcebergTarget) → t.id ≡ table_id place → IsPlayed (target_facts to_iceberg t).files (front ++ behind) iceberg (length commits) (fuse_disk old)
    iceberg_was t id =
        subst (λ (h : History). IsPlayed (target_facts to_iceberg t).files h iceberg (length commits) (fuse_disk old)) keeps.split
        (subst (λ (i : List ℕ). IsPlayed (iceberg_meaning i) history iceberg (length commits) (fuse_disk old)) (sym id) keeps.to_iceberg)

    gave_up : (why : Status) → KeepsTypes why → given ≡ why → new ≡ old → Only new × KeepsTypes given
    gave_up why keeps_types told same = (still_only old new same only, subst KeepsTypes (sym told) keeps_types)

    synced : (kind : Kind) → IsSynced kind mode now old new given → Only new × KeepsTypes given
    synced Delta done = gave_up status.Usage (λ path told. cc) done.0 done.1
    synced Hudi (inl done) = gave_up status.Memory (λ path told. cc) done.0 done.1
    synced Hudi (inr done) = (
      same_only old new (same_beside (target_facts to_hudi done.0) mode now old new given done.2 keeps.uncontested Iceberg (λ e. cc)) only,
      subst KeepsTypes (sym done.2.told) (hudi_answer done.0 done.2 done.2.answer refl),
    )
    synced Iceberg (inl done) = gave_up status.Memory (λ path told. cc) done.0 done.1
    synced Iceberg (inr done) = (
      sync_only schema done.0 mode now old new given done.3 keeps.uncontested commits first keeps.log front behind keeps.made few iceberg (iceberg_was done.0 done.1) in_front only,
      sync_keeps_types schema done.0 mode now old new given done.3 keeps.uncontested commits first keeps.log front behind keeps.made few iceberg (iceberg_was done.0 done.1) in_front only,
    )

  -- ---- events one after another

  -- These were the other answers, none for the type of a column.
  record KeepAll (so_far after : Progress) : Type 0 where
    answers : List Status
    told : after.answers ≡ so_far.answers ++ answers
    keep : AllByRecursion KeepsTypes answers

  answered_too : (so_far after : Progress) (given : Status) → KeepsTypes given → KeepAll (with_answer so_far given) after → KeepAll so_far after
  answered_too so_far _ given kept others = record {
    answers = given ∷ others.answers;
    told = others.told ∙ append_assoc so_far.answers (given ∷ []) others.answers;
    keep = (kept, others.keep);
  }

  module _ (total now : ℕ) (few : total ≤ 2 ^ 64) where
    types_on : (events : List Event) (commits : List (List ℕ)) (front behind : History) (hudi iceberg : ℕ) (so_far : Progress) (old : FuseStore) (after : Progress) (new : FuseStore)
        → Keeps history commits front behind so_far.first hudi iceberg old → so_far.next ≡ length commits → total ≡ length commits + length (extensions events)
        → PlaysAll now events so_far old after new → AreInOrder (length commits) events → IsHistoryFrom (length commits) (last_table None front) (extensions events) behind → Only old → KeepAll so_far after
    types_on [] commits front behind hudi iceberg so_far old after new keeps next all plays order made only =
        record { answers = []; told = sym (ap (λ (p : Progress). p.answers) plays.0) ∙ sym (append-nil so_far.answers); keep = tt }
    types_on (event.Extend bytes ∷ events) commits front [] hudi iceberg so_far old after new keeps next all plays order made only = absurd made
    types_on (event.Extend bytes ∷ events) commits front (entry ∷ more) hudi iceberg so_far old after new keeps next all plays order made only =
        let between = plays.1 in
        let mid : Progress = record so_far { next = so_far.next + 1 } in
        let grown : length (commits ++ bytes ∷ []) ≡ length commits + 1 = length-append commits (bytes ∷ []) in
        let is : Extends (length commits) bytes old between = subst (λ (n : ℕ). Extends n bytes old between) next plays.2.0 in
        let kept = extend_keeps history commits front (entry ∷ more) so_far.first hudi iceberg old between keeps bytes entry more is refl made.1 made.0 in
        let same : SameIn metadata_folder (fuse_disk old).files (fuse_disk between).files = λ path within.
        extended_elsewhere (fuse_disk old) (fuse_disk between) is.path bytes path is.disk (λ e. folders_apart Iceberg Delta (λ f. cc) path within (subst (IsIn log_folder) (sym e) (version_in is.path (length commits) is.is))) in
        let ends = types_on events (commits ++ bytes ∷ []) (front ++ entry ∷ []) more hudi iceberg mid between after new kept (omega (arith, next, grown)) (omega (arith, all, grown))
        (subst (λ (m : Progress). PlaysAll now events m between after new) plays.2.1 plays.3)
        (subst (λ (n : ℕ). AreInOrder n events) (sym grown) order)
        (subst (λ (o : Option Table). IsHistoryFrom (length (commits ++ bytes ∷ [])) o (extensions events) more) (sym (last_more None front entry))
        (subst (λ (n : ℕ). IsHistoryFrom n (Some entry.1) (extensions events) more) (sym grown) made.2))
        (same_only old between same only) in
        record { answers = ends.answers; told = ends.told; keep = ends.keep }
    types_on (event.Shorten below ∷ events) commits front behind hudi iceberg so_far old after new keeps next all plays order made only =
        let between = plays.1 in
        let low = order.0 in
        let to : min below so_far.next ≡ below = omega (arith, low, next) in
        let mid : Progress = record so_far { first = max so_far.first (min below so_far.next) } in
        let kept = shorten_keeps history commits front behind so_far.first hudi iceberg old between keeps (min below so_far.next) plays.2.0 (omega (arith, to, low)) in
        let same : SameIn metadata_folder (fuse_disk old).files (fuse_disk between).files = λ path within.
        shed_elsewhere so_far.first (min below so_far.next) (fuse_disk old) (fuse_disk between) path plays.2.0.disk (λ mine. folders_apart Iceberg Delta (λ f. cc) path within mine) in
        let ends = types_on events commits front behind hudi iceberg mid between after new kept next all (subst (λ (m : Progress). PlaysAll now events m between after new) plays.2.1 plays.3) order.1 made (same_only old between same only) in
        record { answers = ends.answers; told = ends.told; keep = ends.keep }
    types_on (event.Sync target ∷ events) commits front behind hudi iceberg so_far old after new keeps next all plays order made only =
        let between = plays.1 in
        let given = plays.2.0 in
        let fit : length commits ≤ 2 ^ 64 = omega (arith, all, few) in
        let kept = sync_keeps history commits front behind so_far.first hudi iceberg old between keeps fit modes.Sync now given target plays.2.1 in
        let here = synced commits front behind so_far.first hudi iceberg old between keeps fit modes.Sync now given only target plays.2.1 in
        answered_too so_far after given here.1
        (types_on events commits front behind (floor_behind Hudi target (length commits) hudi given) (floor_behind Iceberg target (length commits) iceberg given) (with_answer so_far given) between after new kept next all
        (subst (λ (m : Progress). PlaysAll now events m between after new) plays.2.2 plays.3) order.1 made here.0)
    types_on (event.Full target ∷ events) commits front behind hudi iceberg so_far old after new keeps next all plays order made only =
        let between = plays.1 in
        let given = plays.2.0 in
        let fit : length commits ≤ 2 ^ 64 = omega (arith, all, few) in
        let kept = sync_keeps history commits front behind so_far.first hudi iceberg old between keeps fit modes.Full now given target plays.2.1 in
        let here = synced commits front behind so_far.first hudi iceberg old between keeps fit modes.Full now given only target plays.2.1 in
        answered_too so_far after given here.1
        (types_on events commits front behind (floor_behind Hudi target (length commits) hudi given) (floor_behind Iceberg target (length commits) iceberg given) (with_answer so_far given) between after new kept next all
        (subst (λ (m : Progress). PlaysAll now events m between after new) plays.2.2 plays.3) order.1 made here.0)
    types_on (event.Stop call ∷ events) commits front behind hudi iceberg so_far old after new keeps next all plays order made only =
        let between = plays.1 in
        let kept = nothing_keeps history commits front behind so_far.first hudi iceberg old between keeps (Some call) plays.2.0 in
        types_on events commits front behind hudi iceberg so_far between after new kept next all (subst (λ (m : Progress). PlaysAll now events m between after new) plays.2.1 plays.3) order made
        (subst Only (sym plays.2.0) only)
    types_on (event.Crash choices ∷ events) commits front behind hudi iceberg so_far old after new keeps next all plays order made only =
        let between = plays.1 in
        let kept = crash_keeps history commits front behind so_far.first hudi iceberg old between keeps choices plays.2.0 in
        types_on events commits front behind hudi iceberg so_far between after new kept next all (subst (λ (m : Progress). PlaysAll now events m between after new) plays.2.1 plays.3) order made
        (only_too (wide_columns schema) (fuse_disk old).files (fuse_disk between).files
        (crash_reached (fuse_disk old) (fuse_disk between).files keeps.to_iceberg.settled (λ path within clean. plays.2.0.image path clean)) only)

-- ---- from the start

keeps_at : (answers : List Status) → AllByRecursion KeepsTypes answers → (place : ℕ) (given : Status) → slice_get answers place ≡ Some given → KeepsTypes given
keeps_at [] keep _ given at = absurd (none-some given at)
keeps_at (first ∷ answers) keep zero given at = subst KeepsTypes (same_Some first given at) keep.0
keeps_at (first ∷ answers) keep (suc place) given at = keeps_at answers keep.1 place given at

-- No sync is answered that the type of a column of the Iceberg target would change, where all tables have one schema.
pub types_keep : (schema : ColumnTrees) (now : ℕ) (events : List Event) (old : FuseStore) (after : Progress) (new : FuseStore) → length (extensions events) ≤ 2 ^ 64 → PlaysAll now events nothing_played old after new → AreInOrder 0 events → IsFresh old
    → (history : History) → IsHistoryOf events history → ((entry : List ℕ × Table) → Contains history entry → entry.1.schema ≡ schema) → (place : ℕ) (given : Status) → slice_get after.answers place ≡ Some given → KeepsTypes given
types_keep schema now events old after new few plays order fresh history is one place given at =
    let nothing : HoldsOnly (wide_columns schema) (fuse_disk old).files =
    subst (λ (disk : Disk). HoldsOnly (wide_columns schema) disk.files) (sym fresh.disk) (only_none (wide_columns schema) empty_disk.files (is_absent empty_disk.files [] iceberg_laws.nothing)) in
    let ends = types_on schema history one (length (extensions events)) now few events [] [] history 0 0 nothing_played old after new (begins history old fresh) refl (omega arith) plays order is nothing in
    keeps_at ends.answers ends.keep place given (sym (ap (λ (answers : List Status). slice_get answers place) ends.told) ∙ at)
