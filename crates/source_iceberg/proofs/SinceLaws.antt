-- The commits of snapshots, one after another over a base.
use Rattle.std.proofs.Common.{Bool, true, false, ◌≡◌, ◌==◌, ◌≤◌, append_assoc, append-nil, inl, inr, ⊎_elim, ℕ, Option, Some, List, [], ◌∷◌, ◌++◌, Contains, length, refl, sym, ap, subst, ◌∙◌, arith}
use Rattle.std.specs.Prelude.{reverse, unwrap_or}
use Rattle.std.specs.Bool.{Decides}
use Rattle.std.specs.Cmp.Lexicographic.{pointwise}
use Rattle.std.specs.Str.{bytes_eq}
use Rattle.std.specs.List.{IsDistinct}
use Rattle.table_history.specs.Sound.{IsSound}
use Rattle.table_history.specs.SchemaSize.{IsWithinLimits}
use Rattle.std.proofs.lemmas.Bool.{cases_Bool, false≢true}
use Rattle.std.proofs.lemmas.Bool.Decides.{nat_tests}
use Rattle.std.proofs.lemmas.Slice.Eq.{bytes_eq-Decides, slice_eq-Decides}
use Rattle.lake_basics.specs.declared.limits.TheConstants.{MAX_ACTIONS, MAX_COMMITS, MAX_LIVE_FILES, MAX_PARTITION_COLUMNS}
use Rattle.lake_store.specs.Disk.{Files}
use Rattle.iceberg_ancestry.specs.Ancestry.{IsAncestry}
use Rattle.iceberg_table.specs.Errors.{IsRefusal}
use Rattle.iceberg_table.specs.Refusals.{IsSnapshotRefusal}
use Rattle.iceberg_table.specs.Snapshots.{HasColumnsOf, IsReadAs}
use Rattle.iceberg_table.specs.declared.error.IcebergError.{IcebergError}
use Rattle.iceberg_table.specs.declared.error.IcebergError.TheVariants as iceberg
use Rattle.source_core.proofs.Answers.{weaker}
use Rattle.source_core.specs.Answers.{IsReadRefusal}
use Rattle.source_core.specs.declared.error.SourceError.{SourceError}
use Rattle.source_core.specs.declared.error.SourceError.TheVariants as source
use Rattle.source_iceberg.specs.HeadLemmas.{metadata_once}
use Rattle.source_iceberg.specs.SinceLemmas.{ancestors_once}
use Rattle.source_iceberg.specs.Heads.{IsNewestMetadata}
use Rattle.source_iceberg.specs.Reading.{IsRefusedSnapshot, Tells}
use Rattle.table_history.specs.History.{FitColumns}
use Rattle.table_history.specs.Rows.{HasDistinctPaths}
use Rattle.table_history.specs.Tables.{CanApply, IsAfter, LeadsTo, SameTable}
use Rattle.table_history.specs.TypeTree.{ColumnTrees}
use Rattle.table_history.specs.declared.table.Commit.{Commit}
use Rattle.table_history.specs.declared.table.Table.{Table}
use Rattle.table_history.proofs.Laws.{same_rows_length}
use Rattle.table_history.proofs.SameTableLemmas.{after_same, afters_same, can_apply_same, same_itself}
use Rattle.target_core.specs.Conditions.{HasKind, IsPublishable}
use Rattle.source_core.specs.Since.{CanApplyAll, FitAll, IsSinceRefusal}
use Rattle.iceberg_metadata.specs.declared.metadata.Metadata.{Metadata}
use Rattle.iceberg_metadata.specs.declared.metadata.Snapshot.{Snapshot}
use Rattle.iceberg_table.specs.declared.manifest.Manifest.{Manifest}
use Rattle.source_iceberg.specs.Counted.{Counts}
use Rattle.source_iceberg.specs.Later.{GoesOnBy, IsFoundBehind, IsNotBehind, IsOneMore}
use Rattle.source_iceberg.specs.Since.{AreCommits, AreCommitsBehind, AreCommitsOver, HasManyEntries, IsBehind, IsCommitOf, IsReached, IsRefusedBehind, NamesOtherColumns, Reaches, ShowsBehind, SnapshotChanges, StopsBehind, TellsChange}
use Rattle.iceberg_table.specs.declared.snapshot.SnapshotTable.{SnapshotTable}
use Rattle.source_iceberg.specs.declared.since.Later.{Later}

-- ---- tables of the same rows, columns and partition columns

-- a table like one that may be published, and of distinct paths
publishable_same : (a b : Table) → SameTable a b → HasDistinctPaths b.rows → IsPublishable a → IsPublishable b
publishable_same a b same distinct is = record {
  sound = record {
    distinct = distinct;
    values = λ row there.
        subst (λ (schema : ColumnTrees). FitColumns schema b.partition row.values) same.schema
        (subst (λ (names : List (List ℕ)). FitColumns a.schema names row.values) same.partition (is.sound.values row ((same.rows row).1 there)));
  };
  paths = λ row there. is.paths row ((same.rows row).1 there);
  live_files = subst (λ n. n ≤ MAX_LIVE_FILES) (same_rows_length a.rows b.rows is.sound.distinct distinct same.rows) is.live_files;
  partition_columns = subst (λ (names : List (List ℕ)). length names ≤ MAX_PARTITION_COLUMNS) same.partition is.partition_columns;
  partition_distinct = subst (λ (names : List (List ℕ)). IsDistinct bytes_eq names) same.partition is.partition_distinct;
  partition_kinds = λ name there.
      subst (λ (schema : ColumnTrees). HasKind schema name) same.schema (is.partition_kinds name (subst (λ (names : List (List ℕ)). Contains names name) (sym same.partition) there));
  schema = subst (λ (schema : ColumnTrees). IsSound schema) same.schema is.schema;
  size = subst (λ (schema : ColumnTrees). IsWithinLimits schema) same.schema is.size;
}

-- ---- commits that may be applied one after another

-- Each change fits the table before it, leads to the next, and that one may be published.
abbrev pub LeadOn : Table → List Commit → Table → Type 0
LeadOn before [] last = before ≡ last
LeadOn before (commit ∷ commits) last = (after : Table) × CanApply before commit.change × IsAfter before commit.change after × IsPublishable after × LeadOn after commits last

lead_more : (commits : List Commit) (base : Table) (before after : Later) (more : GoesOnBy before after) → LeadOn base commits before.table → LeadOn base (commits ++ more.commit ∷ []) after.table
lead_more [] base before after more on =
    subst (λ (t : Table). LeadOn t (more.commit ∷ []) after.table) (sym on) (after.table, more.fits, more.leads, more.sound, refl)
lead_more (commit ∷ commits) base before after more on = (on.0, on.1, on.2, on.3, lead_more commits on.0 before after more on.4)

pub lead_begins : (base : Table) (later : Later) → later.commits ≡ [] → later.table ≡ base → LeadOn base later.commits later.table
lead_begins base later commits table = subst (λ (cs : List Commit). LeadOn base cs later.table) (sym commits) (sym table)

pub lead_on : (base : Table) (before after : Later) → LeadOn base before.commits before.table → GoesOnBy before after → LeadOn base after.commits after.table
lead_on base before after on more = subst (λ (cs : List Commit). LeadOn base cs after.table) (sym more.commits) (lead_more before.commits base before after more on)

fit_each : (commits : List Commit) (before alike last : Table) → SameTable before alike → LeadOn before commits last → FitAll alike commits
fit_each [] before alike last same on = tt
fit_each (commit ∷ commits) before alike last same on = (
  can_apply_same before alike commit.change same on.1,
  λ table after. fit_each commits on.0 table last (afters_same before commit.change on.0 table on.2 (after_same before alike commit.change table same after)) on.4,
)

pub fit_all : (base : Table) (commits : List Commit) (last : Table) → LeadOn base commits last → FitAll base commits
fit_all base commits last on = fit_each commits base base last (same_itself base) on

apply_each : (commits : List Commit) (before alike last : Table) → SameTable before alike → LeadOn before commits last → CanApplyAll alike commits
apply_each [] before alike last same on = tt
apply_each (commit ∷ commits) before alike last same on = (
  can_apply_same before alike commit.change same on.1,
  λ table after.
      let next = afters_same before commit.change on.0 table on.2 (after_same before alike commit.change table same after) in
      (publishable_same on.0 table next after.distinct on.3, apply_each commits on.0 table last next on.4),
)

pub can_apply_all : (base : Table) (commits : List Commit) (last : Table) → LeadOn base commits last → CanApplyAll base commits
can_apply_all base commits last on = apply_each commits base base last (same_itself base) on

-- the table behind a snapshot's commit is its own
pub leads_to_own : (before own : Table) (commit : Commit) → commit.change.schema ≡ Some own.schema → LeadsTo before.rows commit.change.removed commit.change.added own.rows → HasDistinctPaths own.rows → own.partition ≡ before.partition
    → IsAfter before commit.change own
leads_to_own before own commit schema leads distinct partition = record {
  rows = λ row. ((leads row).1, (leads row).0);
  distinct = distinct;
  schema = sym (ap (λ (o : Option ColumnTrees). unwrap_or o before.schema) schema);
  partition = partition;
}

-- ---- one snapshot more

module _ (files : Files) (m : Metadata) where
  commits_more : (front : List Snapshot) (s : Snapshot) (base : Table) (commits : List Commit) (before after : Later) (read : List Manifest) (more : IsOneMore files m s before after)
      → AreCommits files m base front commits before.table read → AreCommits files m base (front ++ s ∷ []) (commits ++ more.commit ∷ []) after.table (read ++ more.own.manifests)
  commits_more [] s base commits before after read more are = (
    more.commit,
    [],
    more.own,
    [],
    ap (λ (cs : List Commit). cs ++ more.commit ∷ []) are.0,
    subst (λ (t : Table). IsCommitOf files m t s more.commit more.own) are.1 more.is,
    (refl, more.table, refl),
    ap (λ (rs : List Manifest). rs ++ more.own.manifests) are.2 ∙ sym (append-nil more.own.manifests),
  )
  commits_more (f ∷ front) s base commits before after read more are = (
    are.0,
    are.1 ++ more.commit ∷ [],
    are.2,
    are.3 ++ more.own.manifests,
    ap (λ (cs : List Commit). cs ++ more.commit ∷ []) are.4,
    are.5,
    commits_more front s are.2.table are.1 before after are.3 more are.6,
    ap (λ (rs : List Manifest). rs ++ more.own.manifests) are.7 ∙ append_assoc are.2.manifests are.3 more.own.manifests,
  )

  -- what was made of the snapshots so far, and which manifests were read and counted
  abbrev pub Made : Table → List Snapshot → Later → Type 0
  Made base front later = (read : List Manifest) × Counts read later.counted × AreCommits files m base front later.commits later.table read

  pub commits_begin : (base : Table) (later : Later) → later.commits ≡ [] → later.table ≡ base → Counts [] later.counted → Made base [] later
  commits_begin base later commits table counts = ([], counts, (commits, table, refl))

  pub commits_on : (front : List Snapshot) (s : Snapshot) (base : Table) (before after : Later) → Made base front before → IsOneMore files m s before after → Made base (front ++ s ∷ []) after
  commits_on front s base before after made more = (
    made.0 ++ more.own.manifests,
    more.counted made.0 made.1,
    subst (λ (cs : List Commit). AreCommits files m base (front ++ s ∷ []) cs after.table (made.0 ++ more.own.manifests)) (sym more.commits) (commits_more front s base before.commits before after made.0 more made.2),
  )

-- ---- what is told

-- a refusal that is told has its cause
told_cause : (P : IcebergError → Type 0) (error : IcebergError) (d : SourceError) → IsRefusal P error → Tells error d → P error
told_cause P iceberg.Memory d h told = absurd told
told_cause P iceberg.StoreFault d h told = absurd told
told_cause P iceberg.ManyNames d h told = h
told_cause P (iceberg.Missing path) d h told = h
told_cause P (iceberg.Large path) d h told = h
told_cause P (iceberg.Refused path f) d h told = h

pub snapshot_refused : (files : Files) (version : ℕ) (m : Metadata) (s : Snapshot) (error : IcebergError) (e : SourceError) → IsRefusal (IsSnapshotRefusal files m version s) error → IsReadRefusal (Tells error) e → IsReadRefusal (IsRefusedSnapshot files m version s) e
snapshot_refused files version m s error e refused told = weaker (Tells error) (IsRefusedSnapshot files m version s) (λ d of. (error, told_cause (IsSnapshotRefusal files m version s) error d refused of, of)) e told

pub whole_refused : (files : Files) (version : ℕ) (m : Metadata) (before : Table) (read : List Manifest) (s : Snapshot) → (SnapshotChanges m s before → ⊥) → (e : SourceError) → IsReadRefusal (IsRefusedSnapshot files m version s) e
    → IsReadRefusal (IsRefusedBehind files version m before read s) e
whole_refused files version m before read s unchanged e refused =
    weaker (IsRefusedSnapshot files m version s) (IsRefusedBehind files version m before read s) (λ d of. inr (unchanged, inl of)) e refused

pub change_refused : (files : Files) (version : ℕ) (m : Metadata) (before : Table) (read : List Manifest) (s : Snapshot) → (e : SourceError) → IsReadRefusal (λ d. SnapshotChanges m s before × TellsChange version d) e
    → IsReadRefusal (IsRefusedBehind files version m before read s) e
change_refused files version m before read s e refused =
    weaker (λ d. SnapshotChanges m s before × TellsChange version d) (IsRefusedBehind files version m before read s) (λ d of. inl of) e refused

pub stops_at : (files : Files) (version : ℕ) (m : Metadata) (base : Table) (snapshots front rest : List Snapshot) (s : Snapshot) (later : Later) → snapshots ≡ front ++ s ∷ rest → (made : Made files m base front later) → later.counted.entries ≤ MAX_ACTIONS
    → (e : SourceError) → IsReadRefusal (IsRefusedBehind files version m later.table made.0 s) e → IsReadRefusal (StopsBehind files version m base snapshots) e
stops_at files version m base snapshots front rest s later split made few e refused =
    weaker (IsRefusedBehind files version m later.table made.0 s) (StopsBehind files version m base snapshots)
    (λ d of. record { front = front; snapshot = s; behind = rest; split = split; commits = later.commits; before = later.table; read = made.0; taken = made.2; few = subst (λ n. n ≤ MAX_ACTIONS) made.1.entries few; refused = of }) e refused

-- the commits of all snapshots
pub all_made : (files : Files) (m : Metadata) (base : Table) (snapshots : List Snapshot) (later : Later) → Made files m base snapshots later → later.counted.entries ≤ MAX_ACTIONS → AreCommitsBehind files m base snapshots later.commits
all_made files m base snapshots later made few = record { last = later.table; read = made.0; are = made.2; few = subst (λ n. n ≤ MAX_ACTIONS) made.1.entries few }

-- where nothing is told
pub none_refused : (reached : Type 0) (shows : SourceError → Type 0) (e : SourceError) → IsReadRefusal (λ d. ⊥) e → IsSinceRefusal reached shows e
none_refused reached shows source.Memory h = tt
none_refused reached shows source.Absent h = h
none_refused reached shows (source.Malformed path) h = absurd h
none_refused reached shows (source.Unsupported feature path) h = absurd h
none_refused reached shows (source.Limit which number) h = absurd h
none_refused reached shows source.StoreFault h = tt

-- what is told is told of a position that is reached
pub since_refused : (reached : Type 0) (shows : SourceError → Type 0) → reached → (e : SourceError) → IsReadRefusal shows e → IsSinceRefusal reached shows e
since_refused reached shows at source.Memory h = tt
since_refused reached shows at source.Absent h = h
since_refused reached shows at (source.Malformed path) h = (at, h)
since_refused reached shows at (source.Unsupported feature path) h = (at, h)
since_refused reached shows at (source.Limit which number) h = (at, h)
since_refused reached shows at source.StoreFault h = tt

pub reached_by : (files : Files) (position : List ℕ) (version : ℕ) (m : Metadata) (ancestors later : List Snapshot) → IsNewestMetadata files version m → IsAncestry m ancestors → IsFoundBehind ancestors position later → IsReached files position version m later
reached_by files position version m ancestors later newest are found = record { metadata = newest; ancestors = ancestors; are = are; behind = found }

pub not_reached : (files : Files) (position : List ℕ) (version : ℕ) (m : Metadata) (ancestors : List Snapshot) → IsNewestMetadata files version m → IsAncestry m ancestors → IsNotBehind ancestors position → Reaches files position → ⊥
not_reached files position version m ancestors newest are none at =
    let is = at.3 in
    let same : at.1 ≡ m = metadata_once files at.0 version at.1 m is.metadata newest in
    let one : is.ancestors ≡ ancestors = ancestors_once m is.ancestors ancestors (subst (λ (x : Metadata). IsAncestry x is.ancestors) same is.are) are in
    none at.2 (subst (λ (l : List Snapshot). IsBehind (reverse l) position at.2) one is.behind)

pub decided_not : {P : Type 0} (b : Bool) → Decides b P → b ≡ false → P → ⊥
decided_not b decides is h = false≢true (sym is ∙ decides.1 h)

-- The partition columns go on where the snapshot doesn't change them.
pub partition_kept : (m : Metadata) (s : Snapshot) (before own : Table) → HasColumnsOf m s own → (SnapshotChanges m s before → ⊥) → own.partition ≡ before.partition
partition_kept m s before own columns unchanged =
    ⊎_elim
    (λ (same : pointwise bytes_eq own.partition before.partition ≡ true). (slice_eq-Decides bytes_eq-Decides own.partition before.partition (pointwise bytes_eq own.partition before.partition) refl).0 same)
    (λ (other : pointwise bytes_eq own.partition before.partition ≡ false).
    absurd
    (unchanged (
      columns.planned.held,
      columns.planned.named,
      inl (
        columns.plan.columns,
        columns.planned.columns,
        λ same. false≢true (sym other ∙ (slice_eq-Decides bytes_eq-Decides own.partition before.partition (pointwise bytes_eq own.partition before.partition) refl).1 (columns.partition ∙ same)),
      ),
    )))
    (cases_Bool (pointwise bytes_eq own.partition before.partition))

pub entries_refused : (files : Files) (version : ℕ) (m : Metadata) (before : Table) (read : List Manifest) (s : Snapshot) (own : SnapshotTable) → (SnapshotChanges m s before → ⊥) → IsReadAs files m s own → (e : SourceError) → IsReadRefusal (HasManyEntries read own.manifests) e
    → IsReadRefusal (IsRefusedBehind files version m before read s) e
entries_refused files version m before read s own unchanged is e many =
    weaker (HasManyEntries read own.manifests) (IsRefusedBehind files version m before read s) (λ d h. inr (unchanged, inr (own, is, h))) e many

pub behind_refused : (files : Files) (version : ℕ) (m : Metadata) (base : Table) (snapshots : List Snapshot) → (NamesOtherColumns m base → ⊥) → length snapshots ≤ MAX_COMMITS
    → (e : SourceError) → IsReadRefusal (StopsBehind files version m base snapshots) e → IsReadRefusal (ShowsBehind files version m base snapshots) e
behind_refused files version m base snapshots unchanged few e refused = weaker (StopsBehind files version m base snapshots) (ShowsBehind files version m base snapshots) (λ d h. inr (unchanged, inr (few, h))) e refused

pub behind_found : (files : Files) (m : Metadata) (base : Table) (snapshots : List Snapshot) → (NamesOtherColumns m base → ⊥) → length snapshots ≤ MAX_COMMITS
    → (commits : List Commit) → AreCommitsBehind files m base snapshots commits → AreCommitsOver files m base snapshots commits
behind_found files m base snapshots unchanged few commits are = record { unchanged = unchanged; few = few; behind = are }

-- without snapshots there is no commit
pub none_over : (files : Files) (m : Metadata) (base : Table) (snapshots : List Snapshot) (commits : List Commit) → snapshots ≡ [] → commits ≡ [] → (NamesOtherColumns m base → ⊥) → AreCommitsOver files m base snapshots commits
none_over files m base snapshots commits none nothing unchanged =
    subst (λ (ss : List Snapshot). AreCommitsOver files m base ss commits) (sym none)
    (record { unchanged = unchanged; few = omega arith; behind = record { last = base; read = []; are = (nothing, refl, refl); few = omega arith } })

pub no_snapshot : (snapshots : List Snapshot) → true ≡ (length snapshots == 0) → snapshots ≡ []
no_snapshot [] empty = refl
no_snapshot (s ∷ ss) empty =
    let full : (length (s ∷ ss) == 0) ≡ false = grind (arith, nat_tests) in
    absurd (false≢true (sym full ∙ sym empty))
