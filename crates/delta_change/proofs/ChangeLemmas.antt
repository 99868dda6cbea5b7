-- The change of a commit, put together from that of its columns and that of its rows.
use Rattle.std.proofs.Common.{◌≡◌, ◌↔◌, ℕ, ◌<◌, ◌≤◌, List, length, Option, Some, None, Result, Ok, Err, Contains, unwrap_or, IfOk, IfErr, OnOk, refl, sym, subst, ◌∙◌, inl, inr, ⊎_elim, arith}
use Rattle.std.proofs.lemmas.List.Elements.{All-contains}
use Rattle.lake_basics.specs.declared.limits.TheConstants.{MAX_LIVE_FILES, MAX_PARTITION_COLUMNS}
use Rattle.table_history.specs.First.{IsFirst, NoneOf}
use Rattle.table_history.specs.Rows.{HasDistinctPaths}
use Rattle.table_history.specs.Tables.{CanApply}
use Rattle.table_history.specs.TypeTree.{ColumnTrees}
use Rattle.table_history.specs.declared.feature.Feature.{Feature}
use Rattle.table_history.specs.declared.feature.Feature.TheVariants.{PartitionValue}
use Rattle.table_history.specs.declared.limit.LimitKind.{LimitKind}
use Rattle.table_history.specs.declared.limit.LimitKind.TheVariants as limit
use Rattle.table_history.specs.declared.row.FileRow.{FileRow}
use Rattle.table_history.specs.declared.table.Change.{Change}
use Rattle.table_history.specs.declared.table.Table.{Table}
use Rattle.table_history.proofs.Laws.{same_rows_length}
use Rattle.table_history.proofs.FirstLemmas.{none_first}
use Rattle.partition_map.specs.declared.kind.PartKind.{PartKind}
use Rattle.schema_map.specs.declared.fault.MapError.TheVariants as map_errors
use Rattle.delta_log.specs.declared.commit.DeltaCommit.{DeltaCommit}
use Rattle.delta_log.specs.declared.commit.FileAction.{FileAction}
use Rattle.delta_log.specs.declared.commit.MetaData.{MetaData}
use Rattle.delta_log.specs.declared.error.DeltaError.{DeltaError}
use Rattle.delta_log.specs.declared.error.DeltaError.TheVariants as errors
use Rattle.delta_change.specs.Change.{HasOtherValue, HasLargeSchema, HasManyFiles, Shows, Passes, commit_features, commit_limits, CanFollow, IsChangeBy, IsChangeOf, IsUnorderedChangeOf, GoesOn, IsChangeRefusal}
use Rattle.delta_live.specs.Differences.{Difference, IsInOrderOf, IsUnorderedDiff}
use Rattle.delta_live.specs.Live.{SpellsNoValue, AreRowsBehind, IsSoundRow, PartColumns, ArePartColumns}
use Rattle.delta_live.specs.RowSteps.{rows_behind, AreRowsOf, HaveValues, PassesOver, IsChangeOver, IsRefusalOver}
use Rattle.delta_change.specs.ChangeSteps.{AreColumnsBehind}
use Rattle.delta_log.specs.Sound.{IsSound, IsSoundFile, HaveDistinctNames}
use Rattle.delta_change.specs.TableBehind.{rows_before, schema_before, partition_behind, table_before, Spells, StatesSchema, IsSchemaBehind}
use Rattle.delta_live.proofs.DifferenceLemmas.{unordered_leads, unordered_fits, ordered_diff, ordered_leads, ordered_fits, after_ordered}
use Rattle.delta_live.proofs.RowLemmas.{are_behind}
use Rattle.delta_change.proofs.KindLemmas.{KeepKinds, same_columns}
use Rattle.delta_change.proofs.TableLemmas.{before_rows, names_distinct, goes_on}
use Rattle.delta_live.proofs.TextLemmas.{columns_distinct}
use Rattle.delta_live.proofs.ValueLemmas.{has_values, sound_row, columns_length}

-- ---- the change

one_behind : (base : Option Table) (m : Option MetaData) (s t : ColumnTrees) → IsSchemaBehind m base s → IsSchemaBehind m base t → s ≡ t
one_behind base None s t a b = a ∙ sym b
one_behind base (Some m) s t a b = cc (sym a ∙ b)

one_kind : (schema : ColumnTrees) (names : List (List ℕ)) → KeepKinds schema schema names
one_kind schema names name there o k was is = cc (sym was ∙ is)

-- each added row is one that an action adds
pub added_sound : {Diff : Difference} (c : DeltaCommit) (base : Option Table) (change : Change) → IsSound c → (is : IsChangeBy Diff c base change)
    → ((row : FileRow) → Contains change.added row ↔ (Contains is.behind row × (Contains (rows_before base) row → ⊥))) → (row : FileRow) → Contains change.added row
    → IsSoundRow (unwrap_or change.schema (schema_before base)) (partition_behind c.meta base) row
added_sound c base change sound is added row there =
    let fresh = (added row).0 there in
    ⊎_elim
    (λ new. sound_row (unwrap_or change.schema (schema_before base)) (partition_behind c.meta base) is.columns new.0 row is.kinds (All-contains IsSoundFile c.files new.0 sound.files new.1) new.2)
    (λ kept. absurd (fresh.1 kept.0))
    ((is.rows.rows row).0 fresh.0)

module _ (c : DeltaCommit) (base : Option Table) (stated : Option ColumnTrees) (columns : PartColumns) (sound : IsSound c) (cols : AreColumnsBehind c base stated columns) where
  no_value : HaveValues columns c.files → HasOtherValue c base → ⊥
  no_value have h =
      let schema = unwrap_or stated (schema_before base) in
      let one_schema : h.0 ≡ schema = one_behind base c.meta h.0 schema h.2 cols.behind in
      let one_columns : h.1 ≡ columns = same_columns h.0 schema (partition_behind c.meta base) h.1 columns h.3 cols.kinds (subst (λ s. KeepKinds s schema (partition_behind c.meta base)) (sym one_schema) (one_kind schema (partition_behind c.meta base))) in
      have h.4 h.5 h.6 (subst (λ cs. Contains cs h.5) one_columns h.7) h.8

  shows_none : HaveValues columns c.files → NoneOf (Shows c base) commit_features
  shows_none have =
      let s = cols.supported in
      (s.0, (s.1.0, (s.1.1.0, (s.1.1.1.0, (s.1.1.1.1.0, (s.1.1.1.1.1.0, (no_value have, tt)))))))

  rows_have : (rows : List FileRow) → AreRowsOf columns c.files rows → HaveValues columns c.files
  rows_have rows added f column there named none = has_values columns c.files rows f column added there named none

  names_few : (n : ℕ) → length columns ≤ n → length (partition_behind c.meta base) ≤ n
  names_few n h = subst (λ k. k ≤ n) (columns_length _ (partition_behind c.meta base) columns cols.kinds) h

  no_large_schema : (which : LimitKind) → HasLargeSchema c which → ⊥
  no_large_schema which h = by c.meta stated cols.stated h.1
    where
      by : (m : Option MetaData) (s : Option ColumnTrees) → StatesSchema m s → m ≡ Some h.0 → ⊥
      by None s states e = absurd cc
      by (Some m) None states e = states
      by (Some m) (Some s) states e = let same : m ≡ h.0 = cc in let wrong : Ok s ≡ Err (map_errors.Limit which) = sym (subst (λ n. Spells n s) same states) ∙ h.2 in absurd cc

  abbrev behind_of : List FileRow → List FileRow
  behind_of rows = rows_behind (rows_before base) c.files rows

  module _ (change : Change) (over : IsChangeOver columns (rows_before base) c.files stated change) where
    the_rows : AreRowsBehind columns (rows_before base) c (behind_of over.rows)
    the_rows = are_behind columns (rows_before base) c over.rows over.distinct sound over.added

    change_is : IsUnorderedChangeOf c base change
    change_is = record {
      stated = subst (StatesSchema c.meta) (sym over.stated) cols.stated;
      columns = columns;
      kinds = subst (λ o. ArePartColumns (unwrap_or o (schema_before base)) (partition_behind c.meta base) columns) (sym over.stated) cols.kinds;
      behind = behind_of over.rows;
      rows = the_rows;
      diff = over.diff;
      leads = unordered_leads (rows_before base) (behind_of over.rows) change.removed change.added over.diff over.distinct;
      few = over.few_rows;
      few_columns = names_few MAX_PARTITION_COLUMNS over.few_columns;
    }

    change_supported : NoneOf (Shows c base) commit_features
    change_supported = shows_none (rows_have over.rows over.added)

    change_applies : CanApply (table_before c base) change
    change_applies = unordered_fits (table_before c base) (behind_of over.rows) change (subst (λ l. IsUnorderedDiff l (behind_of over.rows) change.removed change.added) (sym (before_rows c base)) over.diff) the_rows.distinct

    not_many : HasManyFiles c base → ⊥
    not_many h =
        let names = partition_behind c.meta base in
        let schema = unwrap_or stated (schema_before base) in
        let one_schema : h.0 ≡ schema = one_behind base c.meta h.0 schema h.3 cols.behind in
        let one_columns : h.1 ≡ columns = same_columns h.0 schema names h.1 columns h.4 cols.kinds (subst (λ s. KeepKinds s schema names) (sym one_schema) (one_kind schema names)) in
        let behind : AreRowsBehind columns (rows_before base) c h.2 = subst (λ cs. AreRowsBehind cs (rows_before base) c h.2) one_columns h.5 in
        let same : length h.2 ≡ length (behind_of over.rows) =
        same_rows_length h.2 (behind_of over.rows) behind.distinct the_rows.distinct (λ row. (λ there. (the_rows.rows row).1 ((behind.rows row).0 there), λ there. (behind.rows row).1 ((the_rows.rows row).0 there))) in
        let few : length (behind_of over.rows) ≤ MAX_LIVE_FILES = over.few_rows in
        let many : MAX_LIVE_FILES < length h.2 = h.6 in
        omega (arith, same, few, many)

    change_follows : CanFollow c base
    change_follows = record {
      grammar = cols.grammar;
      supported = change_supported;
      schema = no_large_schema;
      within = ((λ over. let few = change_is.few_columns in omega (arith, over, few)), (not_many, tt));
    }

  -- ---- refusals

  value_refusal : (f : FileAction) (column : List ℕ × PartKind) → Contains c.files f → Contains columns column → SpellsNoValue column f → IsChangeRefusal c base (errors.Unsupported PartitionValue 0)
  value_refusal f column there named none =
      let s = cols.supported in
      let shows : HasOtherValue c base = (unwrap_or stated (schema_before base), columns, cols.behind, cols.kinds, f, column, there, named, none) in
      (refl, cols.grammar, inr (s.0, inr (s.1.0, inr (s.1.1.0, inr (s.1.1.1.0, inr (s.1.1.1.1.0, inr (s.1.1.1.1.1.0, inl (refl, shows))))))))

  many_columns : MAX_PARTITION_COLUMNS < length columns → MAX_PARTITION_COLUMNS < length (partition_behind c.meta base)
  many_columns h = subst (λ k. MAX_PARTITION_COLUMNS < k) (columns_length _ (partition_behind c.meta base) columns cols.kinds) h

  many_files : (rows : List FileRow) → AreRowsOf columns c.files rows → HasDistinctPaths (rows_before base) → MAX_LIVE_FILES < length (behind_of rows) → HasManyFiles c base
  many_files rows added distinct many = (unwrap_or stated (schema_before base), columns, behind_of rows, cols.behind, cols.kinds, are_behind columns (rows_before base) c rows distinct sound added, many)

  limit_refusal : (which : LimitKind) → PassesOver columns (rows_before base) c.files which → IsChangeRefusal c base (errors.Limit which)
  limit_refusal limit.PartitionColumns h = (cols.grammar, shows_none h.1, inr (no_large_schema, inl (refl, many_columns h.0)))
  limit_refusal limit.LiveFiles h =
      let few = names_few MAX_PARTITION_COLUMNS h.3 in
      let first : IsFirst (Passes c base) commit_limits limit.LiveFiles = inr ((λ over. omega (arith, over, few)), inl (refl, many_files h.0 h.1 h.2 h.4)) in
      (cols.grammar, shows_none (rows_have h.0 h.1), inr (no_large_schema, first))
  limit_refusal _ h = absurd h

  pub over_refusal : (e : DeltaError) → IsRefusalOver columns (rows_before base) c.files e → IsChangeRefusal c base e
  over_refusal errors.Memory h = tt
  over_refusal (errors.Malformed line) h = absurd h
  over_refusal (errors.DoublePath line) h = absurd h
  over_refusal (errors.Unsupported feature line) h =
      subst (λ (p : Feature × ℕ). IsChangeRefusal c base (errors.Unsupported p.0 p.1)) (λ i. (sym h.0 i, sym h.1 i)) (value_refusal h.2 h.3 h.4 h.5 h.6)
  over_refusal (errors.Limit which) h = limit_refusal which h

-- ---- without a cause there is no refusal but for memory

pub no_refusal : (c : DeltaCommit) (base : Option Table) (e : DeltaError) → CanFollow c base → IsChangeRefusal c base e → e ≡ errors.Memory
no_refusal c base errors.Memory can h = refl
no_refusal c base (errors.Malformed line) can h = absurd (can.grammar h.1)
no_refusal c base (errors.DoublePath line) can h = absurd h
no_refusal c base (errors.Unsupported feature line) can h = absurd (none_first (Shows c base) commit_features feature can.supported h.2)
no_refusal c base (errors.Limit which) can h = absurd (⊎_elim (λ large. can.schema which large) (λ more. none_first (Passes c base) commit_limits which can.within more.1) h.2)

-- ---- by the answer of the rows' part

pub over_these : (r : Result Change DeltaError) (cs columns : PartColumns) (rows before : List FileRow) (fs files : List FileAction) (stated : Option ColumnTrees) → cs ≡ columns → rows ≡ before → fs ≡ files
    → IfOk r (IsChangeOver cs rows fs stated) → IfOk r (IsChangeOver columns before files stated)
over_these r cs columns rows before fs files stated ec er ef h = subst (λ (p : PartColumns × (List FileRow × List FileAction)). IfOk r (IsChangeOver p.0 p.1.0 p.1.1 stated)) (λ i. (ec i, (er i, ef i))) h

pub told_these : (r : Result Change DeltaError) (cs columns : PartColumns) (rows before : List FileRow) (fs files : List FileAction) → cs ≡ columns → rows ≡ before → fs ≡ files
    → IfErr r (IsRefusalOver cs rows fs) → IfErr r (IsRefusalOver columns before files)
told_these r cs columns rows before fs files ec er ef h = subst (λ (p : PartColumns × (List FileRow × List FileAction)). IfErr r (IsRefusalOver p.0 p.1.0 p.1.1)) (λ i. (ec i, (er i, ef i))) h

module _ (c : DeltaCommit) (base : Option Table) (stated : Option ColumnTrees) (columns : PartColumns) (sound : IsSound c) (cols : AreColumnsBehind c base stated columns) where
  pub distinct_columns : HaveDistinctNames columns
  distinct_columns =
      let names = partition_behind c.meta base in
      columns_distinct (unwrap_or stated (schema_before base)) names columns cols.kinds (names_distinct c base stated cols.stated cols.supported.1.1.1.1.0)

  pub found_by : (r : Result Change DeltaError) → IfOk r (IsChangeOver columns (rows_before base) c.files stated) → IfOk r (IsUnorderedChangeOf c base)
  found_by (Ok change) over = change_is c base stated columns sound cols change over
  found_by (Err e) over = tt

  pub follows_by : (r : Result Change DeltaError) → IfOk r (IsChangeOver columns (rows_before base) c.files stated) → OnOk r (CanFollow c base)
  follows_by (Ok change) over = change_follows c base stated columns sound cols change over
  follows_by (Err e) over = tt

  pub goes_on_by : (r : Result Change DeltaError) → IfOk r (IsChangeOver columns (rows_before base) c.files stated) → IfOk r (GoesOn c base)
  goes_on_by (Ok change) over =
      let is = change_is c base stated columns sound cols change over in
      goes_on c base change is (change_supported c base stated columns sound cols change over) (added_sound c base change sound is is.diff.added_rows) (change_applies c base stated columns sound cols change over)
  goes_on_by (Err e) over = tt

  pub refused_by : (r : Result Change DeltaError) → IfErr r (IsRefusalOver columns (rows_before base) c.files) → IfErr r (IsChangeRefusal c base)
  refused_by (Ok change) told = tt
  refused_by (Err e) told = over_refusal c base stated columns sound cols e told

-- ---- put in order

module _ (c : DeltaCommit) (base : Option Table) (change ordered : Change) (same : IsInOrderOf change ordered) where
  pub ordered_is : IsUnorderedChangeOf c base change → IsChangeOf c base ordered
  ordered_is is = record {
    stated = subst (StatesSchema c.meta) (sym same.schema) is.stated;
    columns = is.columns;
    kinds = subst (λ o. ArePartColumns (unwrap_or o (schema_before base)) (partition_behind c.meta base) is.columns) (sym same.schema) is.kinds;
    behind = is.behind;
    rows = is.rows;
    diff = ordered_diff change ordered same (rows_before base) is.behind is.diff;
    leads = ordered_leads change ordered same (rows_before base) is.behind is.leads;
    few = is.few;
    few_columns = is.few_columns;
  }

  pub ordered_goes_on : GoesOn c base change → GoesOn c base ordered
  ordered_goes_on on = record {
    fits = ordered_fits change ordered same (table_before c base) on.fits;
    leaves = λ ok after step. on.leaves ok after (after_ordered change ordered same (table_before c base) after step);
  }
