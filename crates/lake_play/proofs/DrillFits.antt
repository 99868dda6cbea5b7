-- The commits of a drill fit both targets.
use Rattle.std.proofs.Common.{◌≡◌, ◌≢◌, ◌⊎◌, inl, inr, ⊎_elim, ℕ, zero, suc, ◌+◌, ◌≤◌, ◌<◌, true, List, [], ◌∷◌, drop, length, map, Contains, Option, Some, None, Result, Err, refl, sym, ap, subst, ◌∙◌, codes, arith}
use Rattle.std.specs.Prelude.{is_ok, option_map, slice_get, unwrap_or}
use Rattle.std.proofs.lemmas.Bool.{false≢true}
use Rattle.std.proofs.lemmas.List.{length-append, length-drop}
use Rattle.std.proofs.lemmas.List.Elements.{Contains-append_left, Contains-append_right}
use Rattle.lake_basics.specs.declared.limits.TheConstants.{MAX_PUBLISHED_COMMITS}
use Rattle.lake_store.specs.Disk.{Files}
use Rattle.table_history.specs.History.{History}
use Rattle.table_history.specs.Row.{Row}
use Rattle.table_history.specs.TypeTree.{ColumnTrees}
use Rattle.table_history.specs.declared.feature.Feature.{Feature}
use Rattle.table_history.specs.declared.feature.Feature.TheVariants as feature
use Rattle.table_history.specs.declared.kind.Kind.TheVariants.{Delta}
use Rattle.table_history.specs.declared.limit.LimitKind.TheVariants.{Publish}
use Rattle.table_history.specs.declared.table.Commit.{Commit}
use Rattle.table_history.specs.declared.table.Table.{Table}
use Rattle.table_history.proofs.RowListLemmas.{Contains-cases, Contains-head, Contains-none, Contains-one, Contains-tail}
use Rattle.conformance.specs.Drill.{drill_schema}
use Rattle.conformance.proofs.Bounds.{carries, drill_history, entry_after, row_from}
use Rattle.conformance.proofs.Numbers.{from_map, length_map}
use Rattle.conformance.proofs.Tables.{table_after}
use Rattle.partition_map.specs.Columns.{column_kind}
use Rattle.partition_map.specs.Folder.{CarriesValues}
use Rattle.partition_map.specs.declared.kind.PartKind.{PartKind}
use Rattle.schema_avro.specs.AvroWriting.{avro_schema_text}
use Rattle.schema_map.specs.Image.{wide_columns}
use Rattle.schema_map.specs.declared.fault.MapError.{MapError}
use Rattle.schema_map.specs.declared.fault.MapError.TheVariants as map_errors
use Rattle.iceberg_version.specs.KeptEnd as iceberg_view
use Rattle.iceberg_version.specs.declared.kept.IcebergKept.{IcebergKept}
use Rattle.iceberg_version.proofs.Shared.{in_drop, slice_there}
use Rattle.source_core.specs.Histories.{LeadAlong, ShowsTable}
use Rattle.source_core.proofs.Histories.{along_length}
use Rattle.target_core.specs.Views.{IsPublished, IsUnpublished, SameView, View, standing_of}
use Rattle.target_core.specs.declared.mark.Mark.{Mark}
use Rattle.target_core.specs.declared.target.TargetError.{TargetError}
use Rattle.target_core.specs.declared.target.TargetError.TheVariants as target_error
use Rattle.target_hudi.proofs.FittedLemmas.{wide_kinds}
use Rattle.target_hudi.specs.FitLemmas as hudi_fit
use Rattle.target_hudi.specs.Fitting as hudi
use Rattle.target_hudi.specs.HudiMeaning as hudi_meaning
use Rattle.target_hudi.specs.Kept as hudi_kept
use Rattle.target_hudi.specs.declared.kept.HudiKept.{HudiKept}
use Rattle.target_hudi.specs.declared.target.HudiTarget.{HudiTarget}
use Rattle.target_hudi.specs.InspectLemmas.{none_is_some}
use Rattle.target_iceberg.specs.Fitting as iceberg
use Rattle.target_iceberg.specs.Fitting.{Unfit}
use Rattle.target_iceberg.specs.KeptLemmas as iceberg_kept
use Rattle.target_iceberg.specs.declared.target.IcebergTarget.{IcebergTarget}
use Rattle.target_sync.specs.Along.{IsToLast}
use Rattle.target_sync.specs.Targets.{TargetFacts, target_facts}
use Rattle.lake_play.specs.Causes.{IsUnfitBetween, LeadFrom}
use Rattle.lake_play.specs.Formats.{to_hudi, to_iceberg}
use Rattle.lake_play.proofs.Causes.{Views, hudi_views, iceberg_views}

-- ---- the tables

abbrev pub columns : List (List ℕ)
columns = codes "d" ∷ []

-- the table is one of the drill's
abbrev pub IsDrillTable : ℕ → Table → Type 0
IsDrillTable number table = (i : ℕ) × (table ≡ table_after number (suc i)) × (i < 200)

pub table_of : (number : ℕ) (entry : List ℕ × Table) → Contains (drill_history number 200) entry → IsDrillTable number entry.1
table_of number entry there = let found = from_map (entry_after number) 200 entry there in (found.0, sym (ap (λ (e : List ℕ × Table). e.1) found.2), found.1)

-- ---- the commits that are due

-- a commit states no schema but the drill's, and the rows that it adds are the drill's
pub record IsDrillCommit (number : ℕ) (commit : Commit) : Type 0 where
  pub stated : (schema : ColumnTrees) → commit.change.schema ≡ Some schema → schema ≡ drill_schema
  pub added : (row : Row) → Contains commit.change.added row → CarriesValues row.path columns row.values

row_carries : (number : ℕ) (table : Table) (row : Row) → IsDrillTable number table → Contains table.rows row → CarriesValues row.path columns row.values
row_carries number table row of there =
    let less = of.2 in
    let found = row_from number (suc of.0) row (subst (λ (t : Table). Contains t.rows row) of.1 there) in
    let earlier = found.2 in
    subst (λ (r : Row). CarriesValues r.path columns r.values) found.4 (carries number found.0 found.1 (omega (arith, earlier, less)) found.3)

added_along : (number : ℕ) (before : Table) (history : History) (commits : List Commit) → ((entry : List ℕ × Table) → Contains history entry → IsDrillTable number entry.1) → LeadAlong before history commits
    → (commit : Commit) → Contains commits commit → (row : Row) → Contains commit.change.added row → CarriesValues row.path columns row.values
added_along number before [] commits tables along commit there row added = absurd (Contains-none commit (subst (λ (l : List Commit). Contains l commit) along there))
added_along number before (after ∷ history) [] tables along commit there row added = absurd along
added_along number before (after ∷ history) (c ∷ commits) tables along commit there row added =
    ⊎_elim
    (λ (here : c ≡ commit). row_carries number after.1 row (tables after (Contains-head after history)) ((along.0.rows.added_rows row).0 (subst (λ (x : Commit). Contains x.change.added row) (sym here) added)).0)
    (λ later. added_along number after.1 history commits (λ entry in_it. tables entry (Contains-tail after history entry in_it)) along.1 commit later row added)
    (Contains-cases c commits commit there)

-- ---- kinds

kind_stays : (schema : ColumnTrees) → schema ≡ drill_schema → map (column_kind schema) columns ≡ map (column_kind drill_schema) columns
kind_stays schema is = ap (λ (s : ColumnTrees). map (column_kind s) columns) is

module _ (number : ℕ) (target : TargetFacts) (views : Views target) (commits : List (List ℕ)) (unfit_for : Feature) (path : List ℕ) {files : Files} (unfit : IsUnfitBetween target (drill_history number 200) commits files unfit_for path) where
  in_front : (entry : List ℕ × Table) → Contains unfit.front entry → IsDrillTable number entry.1
  in_front entry there = table_of number entry (subst (λ (h : History). Contains h entry) (sym unfit.split) (Contains-append_left unfit.front unfit.rest entry there))

  pub partition_is : unfit.partition ≡ columns
  partition_is = let of = in_front unfit.columns.0 unfit.columns.1 in sym unfit.columns.2 ∙ ap (λ (t : Table). t.partition) of.1

  added_by : LeadFrom unfit.front unfit.j unfit.start unfit.due → (commit : Commit) → Contains unfit.due commit → (row : Row) → Contains commit.change.added row → CarriesValues row.path columns row.values
  added_by leads commit there row added =
      ⊎_elim
      (λ (since : (k : ℕ) × (entry : List ℕ × Table) × (unfit.j ≡ k + 1) × (slice_get unfit.front k ≡ Some entry) × LeadAlong entry.1 (drop (k + 1) unfit.front) unfit.due).
      added_along number since.1.1 (drop (since.0 + 1) unfit.front) unfit.due (λ entry in_it. in_front entry (in_drop (since.0 + 1) unfit.front entry in_it)) since.4 commit there row added)
      (λ (whole : IsToLast unfit.front unfit.start unfit.due).
      let one : whole.commit ≡ commit = Contains-one whole.commit commit (subst (λ (l : List Commit). Contains l commit) whole.only there) in
      let last : Contains unfit.front whole.entry = subst (λ (h : History). Contains h whole.entry) (sym whole.last.1) (Contains-append_right whole.last.0 (whole.entry ∷ []) whole.entry (Contains-head whole.entry [])) in
      row_carries number whole.entry.1 row (in_front whole.entry last) ((whole.rows.added_rows row).0 (subst (λ (x : Commit). Contains x.change.added row) (sym one) added)).0)
      leads

  pub commits_are : (commit : Commit) → Contains unfit.due commit → IsDrillCommit number commit
  commits_are commit there = record {
    stated = λ schema states. let of = unfit.schemas commit schema there states in sym of.2 ∙ ap (λ (t : Table). t.schema) (in_front of.0 of.1).1;
    added = added_by unfit.leads commit there;
  }

  -- a view of a target without a commit, or of one that has the drill's columns
  abbrev HasColumnsOf : View → Type 0
  HasColumnsOf view = IsUnpublished view ⊎ ((view.table.partition ≡ columns) × (target.files.image drill_schema ≡ Some view.table.schema))

  held_at : (n : ℕ) (view : View) → target.files.reads files view → ShowsTable Delta target.files.image (drill_history number 200) n unfit.start → SameView unfit.start view → HasColumnsOf view
  held_at zero view reads none same =
      ⊎_elim (λ (un : IsUnpublished view). inl un) (λ (published : IsPublished view). absurd (none_is_some unfit.start published.1.0 none (same.mark ∙ published.1.1))) (views.published files view reads)
  held_at (suc k) view reads shown same =
      let of = table_of number shown.0 (slice_there (drill_history number 200) k shown.0 shown.1) in
      inr (
        sym same.partition ∙ shown.2.partition ∙ ap (λ (t : Table). t.partition) of.1,
        ap target.files.image (sym (ap (λ (t : Table). t.schema) of.1)) ∙ shown.2.schema ∙ ap (λ (s : ColumnTrees). Some s) same.schema,
      )

  -- what else reads the files has the drill's columns, where a commit is published
  pub held_is : (view : View) → target.files.reads files view → HasColumnsOf view
  held_is view reads =
      ⊎_elim (λ (same : SameView unfit.start view). held_at unfit.j view reads unfit.shows same) (λ (both : IsUnpublished unfit.start × IsUnpublished view). inl both.1) (views.one_view files unfit.start view unfit.reads reads)

  -- they are few
  pub few_due : length unfit.due ≤ 200
  few_due =
      ⊎_elim
      (λ (since : (k : ℕ) × (entry : List ℕ × Table) × (unfit.j ≡ k + 1) × (slice_get unfit.front k ≡ Some entry) × LeadAlong entry.1 (drop (k + 1) unfit.front) unfit.due).
      let count = along_length since.1.1 (drop (since.0 + 1) unfit.front) unfit.due since.4 in
      let left = length-drop (since.0 + 1) unfit.front in
      let whole : 200 ≡ length unfit.front + length unfit.rest = sym (length_map (entry_after number) 200) ∙ ap (λ (h : History). length h) unfit.split ∙ length-append unfit.front unfit.rest in
      omega (arith, count, left, whole))
      (λ (whole : IsToLast unfit.front unfit.start unfit.due). let one : length unfit.due ≡ 1 = ap (λ (l : List Commit). length l) whole.only in omega (arith, one))
      unfit.leads

  -- of a target without a commit there is one
  pub single_due : (view : View) → target.files.reads files view → IsUnpublished view → (commit : Commit) × (unfit.due ≡ commit ∷ [])
  single_due view reads none =
      ⊎_elim
      (λ (since : (k : ℕ) × (entry : List ℕ × Table) × (unfit.j ≡ k + 1) × (slice_get unfit.front k ≡ Some entry) × LeadAlong entry.1 (drop (k + 1) unfit.front) unfit.due).
      let at = since.2 in
      let place : unfit.j ≡ suc since.0 = omega (arith, at) in
      let shown : ShowsTable Delta target.files.image (drill_history number 200) (suc since.0) unfit.start = subst (λ (n : ℕ). ShowsTable Delta target.files.image (drill_history number 200) n unfit.start) place unfit.shows in
      absurd (⊎_elim
      (λ (same : SameView unfit.start view). none_is_some view shown.2.standing none (sym same.mark ∙ shown.2.mark))
      (λ (both : IsUnpublished unfit.start × IsUnpublished view). none_is_some unfit.start shown.2.standing both.0 shown.2.mark)
      (views.one_view files unfit.start view unfit.reads reads)))
      (λ (whole : IsToLast unfit.front unfit.start unfit.due). (whole.commit, whole.only))
      unfit.leads

-- ---- Hudi

-- the kinds of the partition columns
abbrev kinds : List (Option PartKind)
kinds = hudi.kinds_of drill_schema columns

hudi_kinds : (held : ColumnTrees) → hudi_meaning.image drill_schema ≡ Some held → hudi.kinds_of held columns ≡ kinds
hudi_kinds held is = let told : Some (wide_columns drill_schema) ≡ Some held = is in let same : wide_columns drill_schema ≡ held = cc in ap (λ (s : ColumnTrees). hudi.kinds_of s columns) (sym same)

hudi_changes : (number : ℕ) (before : Option ColumnTrees) (commits : List Commit) → ((held : ColumnTrees) → before ≡ Some held → hudi.kinds_of held columns ≡ kinds) → ((commit : Commit) → Contains commits commit → IsDrillCommit number commit)
    → hudi.ChangesKinds before columns commits → ⊥
hudi_changes number before [] keeps are changes = changes
hudi_changes number before (commit ∷ commits) keeps are changes =
    let is = are commit (Contains-head commit commits) in
    ⊎_elim
    (λ (here : (held : ColumnTrees) × (stated : ColumnTrees) × (before ≡ Some held) × (commit.change.schema ≡ Some stated) × (hudi.kinds_of held columns ≢ hudi.kinds_of stated columns)).
    here.4 (keeps here.0 here.2 ∙ sym (kind_stays here.1 (is.stated here.1 here.3))))
    (λ later. hudi_changes number (hudi.columns_behind before commit.change.schema) commits (behind commit.change.schema refl is) (λ other there. are other (Contains-tail commit commits other there)) later)
    changes
  where
    behind : (o : Option ColumnTrees) → commit.change.schema ≡ o → IsDrillCommit number commit → (held : ColumnTrees) → hudi.columns_behind before o ≡ Some held → hudi.kinds_of held columns ≡ kinds
    behind None none is held same = keeps held same
    behind (Some stated) states is held same = let told : Some stated ≡ Some held = same in let one : stated ≡ held = cc in kind_stays held (sym one ∙ is.stated stated states)

no_error : (r : Result (List ℕ) MapError) (e : MapError) → is_ok r ≡ true → r ≡ Err e → ⊥
no_error r e ok is = false≢true (sym (ap is_ok is) ∙ ok)

no_schema_fault : (number : ℕ) (commit : Commit) (f : Feature) (column : List ℕ) → IsDrillCommit number commit → hudi.HasSchemaFault commit f column → ⊥
no_schema_fault number commit feature.SchemaType column is fault = no_error (avro_schema_text drill_schema) (map_errors.SchemaType column) refl (ap avro_schema_text (sym (is.stated fault.0 fault.1)) ∙ fault.2)
no_schema_fault number commit feature.AvroName column is fault = no_error (avro_schema_text drill_schema) (map_errors.AvroName column) refl (ap avro_schema_text (sym (is.stated fault.0 fault.1)) ∙ fault.2)
no_schema_fault number commit _ column is fault = absurd fault

no_fault : (number : ℕ) (commit : Commit) → IsDrillCommit number commit → hudi.HasNoFault columns commit
no_fault number commit is feature.PartitionPath path at_fault =
    let first = at_fault.1 in
    first.here (is.added first.row (subst (λ (l : List Row). Contains l first.row) (sym first.split) (Contains-append_right first.front (first.row ∷ first.behind) first.row (Contains-head first.row first.behind))))
no_fault number commit is feature.SchemaType path at_fault = no_schema_fault number commit feature.SchemaType path is at_fault
no_fault number commit is feature.AvroName path at_fault = no_schema_fault number commit feature.AvroName path is at_fault
no_fault number commit is _ path at_fault = absurd at_fault

some_kept : (kept : HudiKept) (held : hudi.Held) → hudi_kept.held_of kept ≡ Some held → IsUnpublished (hudi_kept.view_of kept) → option_map (λ m. m.at) kept.mark ≡ kept.newest → ⊥
some_kept kept held is none at = by kept.mark (ap (λ (v : View). v.mark) none) (subst (λ (o : Option (List ℕ)). held_by o ≡ Some held) (sym at) is)
  where
    held_by : Option (List ℕ) → Option hudi.Held
    held_by newest = option_map (λ (n : List ℕ). record { partition = kept.table.partition; columns = kept.table.schema }) newest

    by : (mark : Option Mark) → option_map standing_of mark ≡ None → held_by (option_map (λ (m : Mark). m.at) mark) ≡ Some held → ⊥
    by None unmarked is = cc
    by (Some m) unmarked is = cc

module _ (number : ℕ) (t : HudiTarget) (commits : List (List ℕ)) (f : Feature) (path : List ℕ) {files : Files} (unfit : IsUnfitBetween (target_facts to_hudi t) (drill_history number 200) commits files f path) where
  abbrev facts : TargetFacts
  facts = target_facts to_hudi t

  abbrev kept : HudiKept
  kept = unfit.unfit.0

  stands : hudi_kept.StandsFor kept files
  stands = unfit.unfit.1.0

  due_are : (commit : Commit) → Contains unfit.due commit → IsDrillCommit number commit
  due_are = commits_are number facts (hudi_views t) commits f path unfit

  same_columns : unfit.partition ≡ columns
  same_columns = partition_is number facts (hudi_views t) commits f path unfit

  abbrev held_now : hudi.Held
  held_now = record { partition = kept.table.partition; columns = kept.table.schema }

  held_same : (held : hudi.Held) (newest : Option (List ℕ)) → option_map (λ (n : List ℕ). held_now) newest ≡ Some held → (kept.table.partition ≡ held.partition) × (kept.table.schema ≡ held.columns)
  held_same held None is = absurd cc
  held_same held (Some n) is =
      let told : Some held_now ≡ Some held = is in
      let same : held_now ≡ held = cc in
      (ap (λ (h : hudi.Held). h.partition) same, ap (λ (h : hudi.Held). h.columns) same)

  -- what is held has the drill's columns
  holds : (held : hudi.Held) → hudi_kept.held_of kept ≡ Some held → (held.partition ≡ columns) × (hudi.kinds_of held.columns columns ≡ kinds)
  holds held is =
      ⊎_elim
      (λ un. absurd (some_kept kept held is un stands.at))
      (λ (shown : (kept.table.partition ≡ columns) × (hudi_meaning.image drill_schema ≡ Some kept.table.schema)).
      let same = held_same held kept.newest is in
      (sym same.0 ∙ shown.0, ap (λ (schema : ColumnTrees). hudi.kinds_of schema columns) (sym same.1) ∙ hudi_kinds kept.table.schema shown.1))
      (held_is number facts (hudi_views t) commits f path unfit (hudi_kept.view_of kept) stands.reads)

  columns_held : (o : Option hudi.Held) → hudi_kept.held_of kept ≡ o → (held : ColumnTrees) → hudi.columns_of o ≡ Some held → hudi.kinds_of held columns ≡ kinds
  columns_held None is held same = absurd cc
  columns_held (Some h) is held same = let told : Some h.columns ≡ Some held = same in let one : h.columns ≡ held = cc in ap (λ (schema : ColumnTrees). hudi.kinds_of schema columns) (sym one) ∙ (holds h is).1

  alike : hudi.ChangesPartition (hudi_kept.held_of kept) unfit.partition unfit.due → ⊥
  alike changes =
      ⊎_elim
      (λ (other : (target : hudi.Held) × (hudi_kept.held_of kept ≡ Some target) × (target.partition ≢ unfit.partition)). other.2 ((holds other.0 other.1).0 ∙ sym same_columns))
      (λ (others : hudi.ChangesKinds (hudi.columns_of (hudi_kept.held_of kept)) unfit.partition unfit.due).
      hudi_changes number (hudi.columns_of (hudi_kept.held_of kept)) unfit.due (columns_held (hudi_kept.held_of kept) refl) due_are
      (subst (λ (p : List (List ℕ)). hudi.ChangesKinds (hudi.columns_of (hudi_kept.held_of kept)) p unfit.due) same_columns others))
      changes.1

  pub hudi_fits : ⊥
  hudi_fits =
      hudi_fit.fits_by (hudi_kept.held_of kept) unfit.partition unfit.due (λ many. let few = few_due number facts (hudi_views t) commits f path unfit in omega (arith, many, few)) alike
      (λ commit there. subst (λ (p : List (List ℕ)). hudi.HasNoFault p commit) (sym same_columns) (no_fault number commit (due_are commit there)))
      (target_error.Unsupported f path) unfit.unfit.2

-- ---- Iceberg

-- The kinds of the partition columns stay those of the table.
iceberg_changes : (number : ℕ) (state : iceberg.HeldState) (commits : List Commit) → iceberg.kinds_of state.schema columns ≡ kinds → ((commit : Commit) → Contains commits commit → IsDrillCommit number commit) → iceberg.ChangesKinds state columns commits → ⊥
iceberg_changes number state [] keeps are changes = changes
iceberg_changes number state (commit ∷ commits) keeps are changes =
    let is = are commit (Contains-head commit commits) in
    ⊎_elim
    (λ (here : (0 < state.version) × ((stated : ColumnTrees) × (commit.change.schema ≡ Some stated) × (iceberg.kinds_of state.schema columns ≢ iceberg.kinds_of stated columns))).
    here.1.2 (keeps ∙ sym (kind_stays here.1.0 (is.stated here.1.0 here.1.1))))
    (λ later. iceberg_changes number (iceberg.state_behind state commit) commits (behind commit.change.schema refl is) (λ other there. are other (Contains-tail commit commits other there)) later)
    changes
  where
    behind : (o : Option ColumnTrees) → commit.change.schema ≡ o → IsDrillCommit number commit → iceberg.kinds_of (wide_columns (unwrap_or o state.schema)) columns ≡ kinds
    behind None none is = sym (wide_kinds state.schema columns) ∙ keeps
    behind (Some stated) states is = ap (λ (schema : ColumnTrees). iceberg.kinds_of (wide_columns schema) columns) (is.stated stated states)

only_types : (state : iceberg.HeldState) (partition : List (List ℕ)) (commits : List Commit) (e : TargetError) → Unfit state partition commits e → (iceberg.ChangesPartition state partition commits → ⊥) → (f : Feature) (path : List ℕ) → e ≡ target_error.Unsupported f path → f ≡ feature.TypeChange
only_types state partition commits _ (Unfit.many is) alike f path same = let told : target_error.Limit Publish MAX_PUBLISHED_COMMITS ≡ target_error.Unsupported f path = same in absurd cc
only_types state partition commits _ (Unfit.changes few is) alike f path same = absurd (alike is)
only_types state partition commits _ (Unfit.type name few alike_too is) alike f path same =
    let told : target_error.Unsupported feature.TypeChange name ≡ target_error.Unsupported f path = same in
    let one : feature.TypeChange ≡ f = cc in
    sym one

module _ (number : ℕ) (t : IcebergTarget) (commits : List (List ℕ)) (f : Feature) (path : List ℕ) {files : Files} (unfit : IsUnfitBetween (target_facts to_iceberg t) (drill_history number 200) commits files f path) where
  abbrev iceberg_facts : TargetFacts
  iceberg_facts = target_facts to_iceberg t

  abbrev kept_there : IcebergKept
  kept_there = unfit.unfit.0

  abbrev state : iceberg.HeldState
  state = iceberg.state_of kept_there

  reads_kept : iceberg_facts.files.reads files (iceberg_view.view_of kept_there)
  reads_kept = iceberg_kept.kept_view t.id t.location kept_there files unfit.unfit.1.0

  are_due : (commit : Commit) → Contains unfit.due commit → IsDrillCommit number commit
  are_due = commits_are number iceberg_facts (iceberg_views t) commits f path unfit

  columns_same : unfit.partition ≡ columns
  columns_same = partition_is number iceberg_facts (iceberg_views t) commits f path unfit

  -- of a target without a commit one commit is due, and the kinds of another one's columns stay
  kinds_stay : iceberg.ChangesKinds state columns unfit.due → ⊥
  kinds_stay changes =
      ⊎_elim
      (λ (none : IsUnpublished (iceberg_view.view_of kept_there)).
      let one = single_due number iceberg_facts (iceberg_views t) commits f path unfit (iceberg_view.view_of kept_there) reads_kept none in
      let first : kept_there.version ≡ 0 = ap (λ (v : View). v.commits) none in
      ⊎_elim (λ here. let some : 0 < kept_there.version = here.0 in omega (arith, some, first)) (λ never. never) (subst (iceberg.ChangesKinds state columns) one.1 changes))
      (λ (shown : (kept_there.table.partition ≡ columns) × (Some (wide_columns drill_schema) ≡ Some kept_there.table.schema)).
      let told = shown.1 in
      let schema : wide_columns drill_schema ≡ kept_there.table.schema = cc in
      iceberg_changes number state unfit.due (ap (λ (s : ColumnTrees). iceberg.kinds_of s columns) (sym schema)) are_due changes)
      (held_is number iceberg_facts (iceberg_views t) commits f path unfit (iceberg_view.view_of kept_there) reads_kept)

  same_partition : (0 < kept_there.version) → kept_there.table.partition ≡ columns
  same_partition some =
      ⊎_elim
      (λ (none : IsUnpublished (iceberg_view.view_of kept_there)). let first : kept_there.version ≡ 0 = ap (λ (v : View). v.commits) none in absurd (omega (arith, first, some)))
      (λ (shown : (kept_there.table.partition ≡ columns) × (Some (wide_columns drill_schema) ≡ Some kept_there.table.schema)). shown.0)
      (held_is number iceberg_facts (iceberg_views t) commits f path unfit (iceberg_view.view_of kept_there) reads_kept)

  none_change : iceberg.ChangesPartition state unfit.partition unfit.due → ⊥
  none_change changes =
      ⊎_elim
      (λ (other : (0 < kept_there.version) × (kept_there.table.partition ≢ unfit.partition)). other.1 (same_partition other.0 ∙ sym columns_same))
      (λ (others : iceberg.ChangesKinds state unfit.partition unfit.due). kinds_stay (subst (λ (p : List (List ℕ)). iceberg.ChangesKinds state p unfit.due) columns_same others))
      changes.1

  -- nothing but the type of a column may not fit
  pub iceberg_fits : f ≡ feature.TypeChange
  iceberg_fits = only_types state unfit.partition unfit.due (target_error.Unsupported f path) unfit.unfit.2 none_change f path refl
