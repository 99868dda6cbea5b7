-- The cause of each answer of a list of events.
use Rattle.std.proofs.Common.{◌≡◌, ◌≢◌, ◌⊎◌, inl, inr, ⊎_elim, ℕ, zero, suc, ◌+◌, ◌-◌, ◌^◌, ◌≤◌, ◌<◌, Bool, true, false, List, [], ◌∷◌, ◌++◌, drop, length, Contains, Option, Some, None, Result, Ok, Err, refl, sym, ap, subst, ◌∙◌, arith}
use Rattle.std.specs.Prelude.{unwrap_or}
use Rattle.std.specs.Fmt.{decimal}
use Rattle.std.proofs.lemmas.Bool.{cases_lt}
use Rattle.std.proofs.lemmas.List.Elements.{Contains-append_right}
use Rattle.std.proofs.lemmas.Option.{same_Some}
use Rattle.lake_store.specs.Disk.{Files}
use Rattle.lake_store.specs.Fuse.{CanFail, FuseCanBeContested, FuseCanFail, contests_of, fuse_disk, room_of, with_stop}
use Rattle.lake_store.specs.declared.fuse.FuseStore.{FuseStore}
use Rattle.lake_store.specs.declared.fuse.Script.{Script}
use Rattle.conformance.specs.Histories.{IsHistoryFrom}
use Rattle.source_core.specs.Histories.{IsAt, IsLast, IsLike, LeadAlong, ShowsEntry, ShowsTable}
use Rattle.table_history.specs.Tables.{SameTable}
use Rattle.source_core.specs.declared.error.SourceError.{SourceError}
use Rattle.source_core.specs.declared.error.SourceError.TheVariants as source
use Rattle.source_delta.specs.Heads.{IsAbsent, IsTableAtHead}
use Rattle.source_delta.specs.Histories.{HoldsHistory}
use Rattle.source_delta.specs.HistoryLemmas as source_history
use Rattle.source_delta.specs.Since.{ShowsFromPosition}
use Rattle.table_history.specs.History.{History}
use Rattle.table_history.specs.TypeTree.{ColumnTrees}
use Rattle.table_history.specs.declared.feature.Feature.{Feature}
use Rattle.table_history.specs.declared.kind.Kind.{Kind}
use Rattle.table_history.specs.declared.kind.Kind.TheVariants.{Delta}
use Rattle.table_history.specs.declared.limit.LimitKind.{LimitKind}
use Rattle.table_history.specs.declared.table.Commit.{Commit}
use Rattle.table_history.specs.declared.table.Table.{Table}
use Rattle.table_history.proofs.RowListLemmas.{Contains-cases, Contains-head, Contains-none, Contains-one, Contains-tail}
use Rattle.target_core.specs.Views.{IsOfSource, IsPublished, IsUnpublished, SameView, Standing, View}
use Rattle.target_core.specs.declared.target.TargetError.TheVariants as target_error
use Rattle.target_hudi.specs.InspectLemmas as hudi_inspect
use Rattle.target_hudi.specs.ViewLemmas as hudi_view
use Rattle.target_hudi.specs.WideLemmas as hudi_wide
use Rattle.target_hudi.specs.declared.target.HudiTarget.{HudiTarget}
use Rattle.target_hudi.specs.InspectLemmas.{none_is_some}
use Rattle.iceberg_version.proofs.Shared.{in_drop, slice_there}
use Rattle.target_iceberg.specs.InspectLemmas as iceberg_inspect
use Rattle.target_iceberg.specs.ViewLemmas as iceberg_view
use Rattle.target_iceberg.specs.WideLemmas as iceberg_wide
use Rattle.target_iceberg.specs.declared.target.IcebergTarget.{IcebergTarget}
use Rattle.target_sync.proofs.Along.{KeepsKinds}
use Rattle.target_sync.specs.Along.{IsWholeSync}
use Rattle.target_sync.specs.Answered.{IsCaused, IsFew, IsOfSync, IsRefusal, IsSourceFault, IsUnfit}
use Rattle.target_sync.specs.Dues.{AreSinceMark, Due, IsInFull, IsSinceFault, TakesCommits}
use Rattle.target_sync.specs.Others.{IsIdle}
use Rattle.target_sync.specs.Targets.{TargetFacts, target_facts}
use Rattle.target_sync.specs.declared.apply.Report.{Report}
use Rattle.target_sync.specs.declared.plan.Mode.{Mode}
use Rattle.target_sync.specs.declared.plan.Mode.TheVariants as modes
use Rattle.target_sync.specs.declared.status.Side.{Side}
use Rattle.target_sync.specs.declared.status.Side.TheVariants as side
use Rattle.target_sync.specs.declared.status.Status.{Status}
use Rattle.target_sync.specs.declared.status.Status.TheVariants as status
use Rattle.lake_play.specs.Causes.{Before, HasColumns, IsCauseAt, IsOver, IsUnfitBetween, LeadFrom, PassesNumber, StateSchemasOf}
use Rattle.lake_play.specs.Formats.{from_delta, to_hudi, to_iceberg}
use Rattle.lake_play.specs.Playing.{Brings, scripted, status_of}
use Rattle.lake_play.specs.Scripted.{scripted_store, some_of}
use Rattle.lake_play.proofs.Faults.{IsPlayedFault, at_head_fault, from_position_fault, from_scratch_fault}
use Rattle.lake_play.proofs.Histories.{entry_of, holds_history, is_history, not_absent, same_length}
use Rattle.lake_play.proofs.Logs.{HoldsCommits}
use Rattle.lake_play.proofs.Rooms.{enters_free, none_named, told_by}
use Rattle.lake_play.proofs.Syncs.{same_told}
use Rattle.lake_play.proofs.Targets.{IsPlayed, at_front, shows_whole}

-- ---- the laws of a target that are used

pub record Views (target : TargetFacts) : Type 0 where
  pub one_view : (files : Files) (v w : View) → target.files.reads files v → target.files.reads files w → SameView v w ⊎ (IsUnpublished v × IsUnpublished w)
  pub published : (files : Files) (v : View) → target.files.reads files v → IsUnpublished v ⊎ IsPublished v
  pub kinds : KeepsKinds target.files.image
  pub not_foreign : (source : Kind) (files : Files) (path : List ℕ) (v : View) → target.is_foreign source files path → target.files.reads files v → (IsUnpublished v → ⊥) × (IsOfSource source v → ⊥)

pub hudi_views : (target : HudiTarget) → Views (target_facts to_hudi target)
hudi_views target = record { one_view = hudi_view.one_view; published = hudi_view.published; kinds = hudi_wide.image_kinds; not_foreign = hudi_inspect.not_foreign }

pub iceberg_views : (target : IcebergTarget) → Views (target_facts to_iceberg target)
iceberg_views target = record { one_view = iceberg_view.one_view; published = iceberg_view.published; kinds = iceberg_wide.image_kinds; not_foreign = iceberg_inspect.not_foreign }

-- ---- whether a call may fail

-- A call may fail only by the script that was there first, or after a Stop.
pub record MayFail (script : Script) (stopped : Bool) (store : FuseStore) : Type 0 where
  pub can : FuseCanFail store → CanFail script ⊎ (stopped ≡ true)
  pub named : CanFail script ⊎ ((store.script.failing.items ≡ []) × (contests_of store ≡ 0))

named_at_first : (script : Script) (calls : List ℕ) → script.failing.items ≡ calls → CanFail script ⊎ (script.failing.items ≡ [])
named_at_first script [] is = inr is
named_at_first script (call ∷ calls) is = inl (inr (λ none. cc))

pub may_fail_first : (store : FuseStore) → contests_of store ≡ 0 → MayFail store.script false store
may_fail_first store none = record { can = λ can. inl can; named = ⊎_elim inl (λ is. inr (is, none)) (named_at_first store.script store.script.failing.items refl) }

module _ (script : Script) (stopped : Bool) (old new : FuseStore) (may : MayFail script stopped old) where
  pub same_may : new ≡ record old { inner = new.inner } → MayFail script stopped new
  same_may is = subst (MayFail script stopped) (sym is) (record { can = may.can; named = may.named })

  pub stop_may : (call : ℕ) → new ≡ with_stop old (Some call) → MayFail script true new
  stop_may call is = subst (MayFail script true) (sym is) (record { can = λ can. inr refl; named = may.named })

  pub crash_may : new ≡ record (with_stop old None) { inner = new.inner } → MayFail script false new
  crash_may is = subst (MayFail script false) (sym is) (record {
    can = λ can. ⊎_elim (λ stop. absurd cc) (λ (some : old.script.failing.items ≢ []). ⊎_elim inl (λ none. absurd (some none.0)) may.named) can;
    named = may.named;
  })

  pub brings_may : (target : TargetFacts) (mode : Mode) (now : ℕ) (given : Status) → Brings target mode now old new given → (FuseCanBeContested old → ⊥) → MayFail script stopped new
  brings_may target mode now given brings none = record {
    can = λ can. may.can (brings.sync.sync.fault.still can);
    named = ⊎_elim inl (λ (was : (old.script.failing.items ≡ []) × (contests_of old ≡ 0)).
        let told = told_by (scripted (room_of old) old) (scripted brings.room new) was.1 (same_told target mode now old new given brings none) in
        inr (none_named new.script.failing.items (told.some ∙ ap some_of was.0), told.contests)) may.named;
  }

-- ---- views of the same files

module _ (target : TargetFacts) (views : Views target) (history : History) (files : Files) where
  -- what reads the same files shows the same table
  pub shows_start : (n : ℕ) (view start : View) → target.files.reads files view → target.files.reads files start → ShowsTable Delta target.files.image history n view → ShowsTable Delta target.files.image history n start
  shows_start zero view start reads other shows =
      ⊎_elim
      (λ (same : SameView start view).
      ⊎_elim (λ (un : IsUnpublished start). un) (λ (is : IsPublished start). absurd (none_is_some view is.1.0 shows (sym same.mark ∙ is.1.1))) (views.published files start other))
      (λ both. both.0)
      (views.one_view files start view other reads)
  shows_start (suc k) view start reads other shows =
      let entry = shows.2 in
      ⊎_elim
      (λ (same : SameView start view). (
        shows.0,
        shows.1,
        record {
          standing = entry.standing;
          mark = same.mark ∙ entry.mark;
          format = entry.format;
          position = entry.position;
          rows = λ row. (λ there. (entry.rows row).0 ((same.rows row).0 there), λ there. (same.rows row).1 ((entry.rows row).1 there));
          partition = same.partition ∙ entry.partition;
          schema = entry.schema ∙ ap (λ (s : ColumnTrees). Some s) (sym same.schema);
        },
      ))
      (λ (both : IsUnpublished start × IsUnpublished view). absurd (none_is_some view entry.standing both.1 entry.mark))
      (views.one_view files start view other reads)

  pub like_entry : (entry : List ℕ × Table) (view : View) → ShowsEntry Delta target.files.image entry view → IsLike view.table entry.1
  like_entry entry view shows = record {
    rows = shows.rows;
    partition = shows.partition;
    kinds = λ name there v. let both = views.kinds entry.1.schema view.table.schema shows.schema name v in (both.1, both.0);
  }

-- ---- the tables along which commits lead

-- a schema that one of them states is that of the table to which it leads
stated_along : (before : Table) (history : History) (commits : List Commit) → LeadAlong before history commits → (commit : Commit) (schema : ColumnTrees) → Contains commits commit → commit.change.schema ≡ Some schema
    → (entry : List ℕ × Table) × Contains history entry × (entry.1.schema ≡ schema)
stated_along before [] commits along commit schema there states = absurd (Contains-none commit (subst (λ (l : List Commit). Contains l commit) along there))
stated_along before (after ∷ history) [] along commit schema there states = absurd along
stated_along before (after ∷ history) (c ∷ commits) along commit schema there states =
    ⊎_elim
    (λ (here : c ≡ commit). (after, Contains-head after history, along.0.schema ∙ ap (λ (o : Option ColumnTrees). unwrap_or o before.schema) (ap (λ (x : Commit). x.change.schema) here ∙ states)))
    (λ later. let found = stated_along after.1 history commits along.1 commit schema later states in (found.0, Contains-tail after history found.0 found.1, found.2))
    (Contains-cases c commits commit there)

-- ---- one answer

module _ (target : TargetFacts) (views : Views target) (mode : Mode) (now : ℕ) (old new : FuseStore) (given : Status) (brings : Brings target mode now old new given) (none : FuseCanBeContested old → ⊥)
    (commits : List (List ℕ)) (first : ℕ) (log : HoldsCommits commits first (fuse_disk old)) (front rest : History) (is : IsHistoryFrom 0 None commits front) (few : length commits ≤ 2 ^ 64)
    (floor : ℕ) (was : IsPlayed target.files (front ++ rest) floor (length commits) (fuse_disk old)) where
  abbrev files : Files
  files = (fuse_disk old).files

  abbrev sync : IsWholeSync scripted_store from_delta target None mode now (scripted (room_of old) old) (scripted brings.room new) (Some brings.answer)
  sync = brings.sync

  abbrev j : ℕ
  j = was.stands.j

  whole : length front ≡ length commits
  whole = same_length 0 None commits front is

  within : j ≤ length front
  within = let up = was.stands.up_to in let e = whole in omega (arith, up, e)

  here : IsAt Delta target.files front files j
  here = at_front target.files front rest files j within was.stands.at

  over : IsOver target (front ++ rest) commits files
  over = record {
    log = (first, record { holds = log.holds; only = log.only; alone = log.alone });
    stands = record { j = j; from_there = omega arith; up_to = was.stands.up_to; at = was.stands.at };
  }

  -- ---- what is read of the source

  since_by : (n : ℕ) (start : View) → n ≤ length front → ShowsTable Delta target.files.image front n start → (e : SourceError) → IsSinceFault from_delta files start e → IsPlayedFault first e
  since_by zero start le shows e since = absurd (none_is_some start since.0 shows since.1)
  since_by (suc k) start le shows e since =
      let entry = shows.0 in
      let at = entry_of 0 None commits front is k entry shows.1 in
      let len = whole in
      let none_added : 0 + k ≡ k = omega arith in
      let one : since.0 ≡ shows.2.standing = same_Some since.0 shows.2.standing (sym since.1 ∙ shows.2.mark) in
      let to : since.0.to ≡ decimal k = ap (λ (s : Standing). s.to) one ∙ shows.2.position ∙ at.position ∙ ap decimal none_added in
      from_position_fault commits first (fuse_disk old) log front is k entry start.table e shows.1 (omega (arith, le, len, few)) (like_entry target views front files entry start shows.2)
      (subst (λ (p : List ℕ). ShowsFromPosition files p start.table e) to since.2.1)

  source_fault : (e : SourceError) → IsSourceFault from_delta target mode files e → IsPlayedFault first e
  source_fault e (inl at_head) = at_head_fault commits first (fuse_disk old) log front is e at_head
  source_fault e (inr read) =
      let start = read.1.0 in
      ⊎_elim
      (λ (since : (mode ≡ modes.Sync) × IsSinceFault from_delta files start e). since_by j start within (shows_start target views front files j here.view start here.reads read.1.1 here.shows) e since.1)
      (λ (scratch : (¬ TakesCommits from_delta mode files start) × from_delta.from_scratch files e). from_scratch_fault commits first (fuse_disk old) log front is e scratch.1)
      read.1.2.1

  -- ---- what is due to the target

  no_due : length commits ≡ 0 → (start : View) → Due from_delta mode files start → ⊥
  no_due empty start due = let of = log.only due.is_head.newest due.is_head.is.there in let less = of.1 in omega (arith, less, empty)

  some_due : (start : View) → Due from_delta mode files start → 0 < length commits
  some_due start due = ⊎_elim (λ (empty : length commits < 1). absurd (no_due (omega (arith, empty)) start due)) (λ (some : 1 ≤ length commits). some) (cases_lt (length commits) 1)

  true_false : true ≡ false → ⊥
  true_false e = cc

  module _ (some : 0 < length commits) (start : View) (due : Due from_delta mode files start) where
    holds : HoldsHistory files front
    holds = holds_history commits first (fuse_disk old) log some front is

    along_by : (k : ℕ) (shows : ShowsTable Delta target.files.image front (suc k) start) → due.full ≡ false → LeadAlong shows.0.1 (drop (k + 1) front) due.commits
    along_by k shows full = sync.along.each_once tt front (is_history commits front is few) holds k shows.0 shows.1 start shows.2 due full

    lead_by : (n : ℕ) → ShowsTable Delta target.files.image front n start → (b : Bool) → due.full ≡ b → LeadFrom front n start due.commits
    lead_by n shows true full = inr (sync.along.in_full tt front (is_history commits front is few) holds start due full)
    lead_by zero shows false full =
        ⊎_elim
        (λ (since : AreSinceMark from_delta mode files start due.partition due.commits due.full). absurd (none_is_some start since.marked.0 shows since.marked.1))
        (λ (in_full : IsInFull from_delta mode files start due.head due.partition due.commits due.full). absurd (true_false (sym in_full.way ∙ full)))
        due.way
    lead_by (suc k) shows false full =
        let one : suc k ≡ k + 1 = omega arith in
        inl (k, shows.0, one, shows.1, along_by k shows full)

    -- The schemas that are stated, and the partition columns, are those of tables of the history.
    in_full : due.full ≡ true → IsInFull from_delta mode files start due.head due.partition due.commits due.full
    in_full full = ⊎_elim (λ (since : AreSinceMark from_delta mode files start due.partition due.commits due.full). absurd (true_false (sym full ∙ since.way))) (λ is. is) due.way

    since : due.full ≡ false → AreSinceMark from_delta mode files start due.partition due.commits due.full
    since full = ⊎_elim (λ is. is) (λ (whole : IsInFull from_delta mode files start due.head due.partition due.commits due.full). absurd (true_false (sym whole.way ∙ full))) due.way

    last : (last : List ℕ × Table) × IsLast front last × (last.0 ≡ due.head.position) × ((table : Table) → IsTableAtHead files table → SameTable table last.1)
    last = source_history.last files front due.head holds due.is_head

    last_there : Contains front last.0
    last_there = subst (λ (h : History). Contains h last.0) (sym last.1.1) (Contains-append_right last.1.0 (last.0 ∷ []) last.0 (Contains-head last.0 []))

    states_by : (n : ℕ) → ShowsTable Delta target.files.image front n start → (b : Bool) → due.full ≡ b → StateSchemasOf front due.commits
    states_by n shows true full commit schema there states =
        let whole = in_full full in
        let one : whole.commit ≡ commit = Contains-one whole.commit commit (subst (λ (l : List Commit). Contains l commit) whole.only there) in
        let stated : Some whole.table.schema ≡ Some schema = sym whole.change.schema ∙ ap (λ (c : Commit). c.change.schema) one ∙ states in
        let same : whole.table.schema ≡ schema = cc in
        (last.0, last_there, sym (last.3 whole.table whole.is_table).schema ∙ same)
    states_by zero shows false full commit schema there states = let is = since full in absurd (none_is_some start is.marked.0 shows is.marked.1)
    states_by (suc k) shows false full commit schema there states =
        let found = stated_along shows.0.1 (drop (k + 1) front) due.commits (along_by k shows full) commit schema there states in
        (found.0, in_drop (k + 1) front found.0 found.1, found.2)

    columns_by : (n : ℕ) → ShowsTable Delta target.files.image front n start → (b : Bool) → due.full ≡ b → HasColumns front due.partition
    columns_by n shows true full = let whole = in_full full in (last.0, last_there, sym (whole.columns ∙ (last.3 whole.table whole.is_table).partition))
    columns_by zero shows false full = let is = since full in absurd (none_is_some start is.marked.0 shows is.marked.1)
    columns_by (suc k) shows false full = let is = since full in (shows.0, slice_there front k shows.0 shows.1, sym (is.columns ∙ shows.2.partition))

  -- What is due is so to a view that shows the table at which the target stands.
  pub due_shows : (start : View) → target.files.reads files start → ShowsTable Delta target.files.image front j start
  due_shows start reads = shows_start target views front files j here.view start here.reads reads here.shows

  -- It leads from there to the last table.
  pub due_leads : (start : View) → target.files.reads files start → (due : Due from_delta mode files start) → LeadFrom front j start due.commits
  due_leads start reads due = lead_by (some_due start due) start due j (due_shows start reads) due.full refl

  -- Its partition columns are those of a table of the history.
  pub due_columns : (start : View) → target.files.reads files start → (due : Due from_delta mode files start) → HasColumns front due.partition
  due_columns start reads due = columns_by (some_due start due) start due j (due_shows start reads) due.full refl

  -- Each schema that a commit states which is due is that of a table of the history.
  pub due_states : (start : View) → target.files.reads files start → (due : Due from_delta mode files start) → StateSchemasOf front due.commits
  due_states start reads due = states_by (some_due start due) start due j (shows_start target views front files j here.view start here.reads reads here.shows) due.full refl

  unfit_between : (feature : Feature) (path : List ℕ) → IsUnfit from_delta target mode files (target_error.Unsupported feature path) → IsUnfitBetween target (front ++ rest) commits files feature path
  unfit_between feature path unfit =
      let start = unfit.0 in
      let due = unfit.2.1.0 in
      let shows = shows_start target views front files j here.view start here.reads unfit.1 here.shows in
      record {
        over = over;
        start = start;
        reads = unfit.1;
        j = j;
        shows = shows_whole target.files.image front rest j start within shows;
        front = front;
        rest = rest;
        split = refl;
        count = whole;
        due = due.commits;
        leads = lead_by (some_due start due) start due j shows due.full refl;
        schemas = due_states start unfit.1 due;
        partition = due.partition;
        columns = columns_by (some_due start due) start due j shows due.full refl;
        unfit = unfit.2.1.1;
      }

  -- ---- each status

  module _ (before : Before) (same : before.commits ≡ commits) (shortened : 0 < first → before.shortened ≡ true) (Faulty : Type 0) (faulty : brings.answer ≡ Err status.StoreFault → Faulty) where
    abbrev Idle : Type 0
    Idle = IsIdle scripted_store None (scripted (room_of old) old) (scripted brings.room new)

    abbrev Cause : Status → Type 0
    Cause e = IsCauseAt target mode now (front ++ rest) before files Faulty e

    number : (of : Side) (which : LimitKind) (n : ℕ) → IsRefusal Idle from_delta target mode now files (status.Limit of which n) → IsRefusal (Unit {0}) from_delta target mode now files (status.Limit of which n)
    number side.Source which n h = (tt, h.1)
    number (side.Target kind) which n h = (h.0, ⊎_elim (λ crowded. inl (tt, crowded.1, crowded.2)) (λ other. inr (⊎_elim (λ unfit. inl (tt, unfit.1)) (λ passed. inr passed) other)) h.1)

    passes : (e : Status) → IsRefusal (Unit {0}) from_delta target mode now files e → PassesNumber target mode now (front ++ rest) before.commits files e
    passes e h = subst (λ (cs : List (List ℕ)). PassesNumber target mode now (front ++ rest) cs files e) (sym same) (record { over = over; passes = h })

    none_read : (cs : List (List ℕ)) → commits ≡ cs → IsAbsent files → cs ≡ []
    none_read [] e absent = refl
    none_read (bytes ∷ cs) e absent = let len : length commits ≡ length (bytes ∷ cs) = ap (λ (l : List (List ℕ)). length l) e in absurd (not_absent commits first (fuse_disk old) log (omega (arith, len)) absent)

    removed : (feature : Feature) (path : List ℕ) → IsSourceFault from_delta target mode files (source.Unsupported feature path) → Cause (status.Unsupported side.Source feature path)
    removed feature path fault = let played = source_fault (source.Unsupported feature path) fault in (played.0, shortened played.1)

    foreign : (path : List ℕ) → target.is_foreign Delta files path → ⊥
    foreign path h =
        let not = views.not_foreign Delta files path here.view h here.reads in
        by j here.view here.shows not
      where
        by : (n : ℕ) (view : View) → ShowsTable Delta target.files.image front n view → (IsUnpublished view → ⊥) × (IsOfSource Delta view → ⊥) → ⊥
        by zero view shows not = not.0 shows
        by (suc k) view shows not = not.1 (shows.2.standing, shows.2.mark, shows.2.format)

    refused : (e : Status) → brings.answer ≡ Err e → IsRefusal Idle from_delta target mode now files e → IsOfSync target.files.kind e → Cause e
    refused status.Done is h few = absurd few
    refused status.Memory is h few = tt
    refused status.Usage is h few = absurd few
    refused status.Absent is h few = same ∙ none_read commits refl h.1
    refused (status.Malformed path) is h few = absurd (source_fault (source.Malformed path) h.1)
    refused (status.Unsupported side.Source feature path) is h few = removed feature path h.1
    refused (status.Unsupported (side.Target kind) feature path) is h few = (h.1, subst (λ (cs : List (List ℕ)). IsUnfitBetween target (front ++ rest) cs files feature path) (sym same) (unfit_between feature path h.2))
    refused (status.Limit of which n) is h few = passes (status.Limit of which n) (number of which n h)
    refused (status.Foreign kind path) is h few = absurd (foreign path h.3)
    refused (status.Contested kind) is h few = absurd (enters_free old none (sync.sync.contest.allowed (ap (λ (a : Result Report Status). Some a) is ∙ ap (λ (k : Kind). Some (Err (status.Contested k))) few)))
    refused status.StoreFault is h few = faulty is
    refused status.SinkFault is h few = absurd few
    refused (status.Behind kind at head) is h few = absurd few
    refused (status.Differs kind path) is h few = absurd few
    refused (status.Stale path) is h few = absurd few

    by_answer : (answer : Result Report Status) → brings.answer ≡ answer → Cause (status_of answer)
    by_answer (Ok report) is = tt
    by_answer (Err e) is =
        refused e is (subst (λ (a : Result Report Status). IsCaused Idle from_delta target mode now files (Some a)) is (sync.sync.caused tt))
        (subst (λ (a : Result Report Status). IsFew target.files.kind (Some a)) is sync.sync.few)

    pub answer_caused : Cause given
    answer_caused = subst Cause (sym brings.told) (by_answer brings.answer refl)
