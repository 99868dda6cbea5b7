-- The table after a commit is one that commits may leave, where the one before it is.
use Rattle.std.proofs.Common.{◌≡◌, ℕ, ◌≤◌, List, length, Option, Some, None, Ok, Contains, unwrap_or, IfSome, refl, sym, ap, subst, ◌∙◌, inl, inr, ⊎_elim, arith}
use Rattle.std.specs.Cmp.Lexicographic.{pointwise}
use Rattle.std.specs.List.{IsDistinct}
use Rattle.std.specs.Str.{bytes_eq}
use Rattle.std.proofs.lemmas.Bool.{cases_Bool, false≢true}
use Rattle.avro_schema.specs.Names.{are_distinct}
use Rattle.lake_basics.specs.declared.limits.TheConstants.{MAX_LIVE_FILES, MAX_PARTITION_COLUMNS}
use Rattle.table_history.specs.First.{NoneOf}
use Rattle.table_history.specs.History.{FitColumns}
use Rattle.table_history.specs.Path.{IsPath}
use Rattle.table_history.specs.Rows.{SameRows}
use Rattle.table_history.specs.Tables.{CanApply, IsAfter, IsRowAfter}
use Rattle.table_history.specs.TypeTree.{ColumnTrees}
use Rattle.table_history.specs.declared.row.FileRow.{FileRow}
use Rattle.table_history.specs.declared.table.Change.{Change}
use Rattle.table_history.specs.declared.table.Table.{Table}
use Rattle.table_history.proofs.Laws.{same_rows_length}
use Rattle.table_history.proofs.RowListLemmas.{Contains-none}
use Rattle.partition_map.specs.Columns.{column_kind}
use Rattle.partition_map.proofs.ColumnLemmas.{distinct_exactly}
use Rattle.schema_delta.proofs.DeltaSchema.{given_found}
use Rattle.delta_log.specs.declared.commit.DeltaCommit.{DeltaCommit}
use Rattle.delta_log.specs.declared.commit.MetaData.{MetaData}
use Rattle.delta_change.specs.Change.{HasOtherPartition, ChangesPartition, Shows, commit_features, IsChangeBy, IsChangeOf, IsStatedBy, IsTableSchema, IsTableOfLog, GoesOn}
use Rattle.delta_live.specs.Differences.{Difference}
use Rattle.delta_live.specs.Live.{IsSoundRow, PartColumns, ArePartColumns}
use Rattle.delta_change.specs.TableBehind.{rows_before, schema_before, partition_behind, table_before, StatesSchema, IsSchemaBehind}
use Rattle.delta_change.proofs.ColumnLemmas.{names_same, has_kind}
use Rattle.delta_change.proofs.KindLemmas.{KeepKinds, kinds_kept, values_still_fit, same_columns}

-- ---- the table before

pub before_rows : (c : DeltaCommit) (base : Option Table) → (table_before c base).rows ≡ rows_before base
before_rows c None = refl
before_rows c (Some t) = refl

pub before_schema : (c : DeltaCommit) (base : Option Table) → (table_before c base).schema ≡ schema_before base
before_schema c None = refl
before_schema c (Some t) = refl

-- ---- the schema that a commit states

pub stated_sound : (o : Option MetaData) (stated : Option ColumnTrees) → StatesSchema o stated → IfSome stated IsTableSchema
stated_sound None None states = tt
stated_sound None (Some s) states = absurd cc
stated_sound (Some m) None states = tt
stated_sound (Some m) (Some s) states = let found = given_found m.schema (Ok s) states in (found.1, found.2)

pub stated_spells : (c : DeltaCommit) (o : Option MetaData) (stated : Option ColumnTrees) → c.meta ≡ o → StatesSchema o stated → IfSome stated (IsStatedBy c)
stated_spells c None None is states = tt
stated_spells c None (Some s) is states = absurd cc
stated_spells c (Some m) None is states = tt
stated_spells c (Some m) (Some s) is states = let found = given_found m.schema (Ok s) states in (m, is, found.0, found.2)

pub stated_behind : (o : Option MetaData) (base : Option Table) (stated : Option ColumnTrees) → StatesSchema o stated → IsSchemaBehind o base (unwrap_or stated (schema_before base))
stated_behind None base None states = refl
stated_behind None base (Some s) states = absurd cc
stated_behind (Some m) base None states = absurd states
stated_behind (Some m) base (Some s) states = states

behind_sound : (base : Option Table) (stated : Option ColumnTrees) → IfSome stated IsTableSchema → ((before : Table) → base ≡ Some before → IsTableOfLog before) → IsTableSchema (unwrap_or stated (schema_before base))
behind_sound base (Some s) sound ok = sound
behind_sound None None sound ok = ((refl, tt), record { levels = omega arith; columns = omega arith })
behind_sound (Some t) None sound ok = ((ok t refl).schema, (ok t refl).size)

-- ---- the partition columns stay

pub partition_kept : (c : DeltaCommit) (t : Table) (stated : Option ColumnTrees) → StatesSchema c.meta stated → (ChangesPartition c (Some t) → ⊥) → partition_behind c.meta (Some t) ≡ t.partition
partition_kept c t stated states none = by c.meta stated refl states
  where
    by : (o : Option MetaData) (s : Option ColumnTrees) → c.meta ≡ o → StatesSchema o s → partition_behind o (Some t) ≡ t.partition
    by None s is h = refl
    by (Some m) None is h = absurd h
    by (Some m) (Some schema) is h =
        ⊎_elim
        (λ same. (names_same m.partition t.partition).0 same)
        (λ other. absurd (none (t, m, schema, refl, is, h, inl (λ e. false≢true (sym other ∙ (names_same m.partition t.partition).1 e)))))
        (cases_Bool (pointwise bytes_eq m.partition t.partition))

pub partition_before : (c : DeltaCommit) (base : Option Table) (stated : Option ColumnTrees) → StatesSchema c.meta stated → (ChangesPartition c base → ⊥) → (table_before c base).partition ≡ partition_behind c.meta base
partition_before c None stated states none = refl
partition_before c (Some t) stated states none = sym (partition_kept c t stated states none)

pub kinds_stay : (c : DeltaCommit) (t : Table) (stated : Option ColumnTrees) → StatesSchema c.meta stated → (ChangesPartition c (Some t) → ⊥) → KeepKinds t.schema (unwrap_or stated t.schema) (partition_behind c.meta (Some t))
kinds_stay c t stated states none = by c.meta stated refl states
  where
    by : (o : Option MetaData) (s : Option ColumnTrees) → c.meta ≡ o → StatesSchema o s → KeepKinds t.schema (unwrap_or s t.schema) (partition_behind o (Some t))
    by None None is h = λ name there k l was now. cc (sym was ∙ now)
    by None (Some s) is h = absurd cc
    by (Some m) None is h = absurd h
    by (Some m) (Some s) is h = kinds_kept t.schema s m.partition (λ other. none (t, m, s, refl, is, h, inr other))

pub names_distinct : (c : DeltaCommit) (base : Option Table) (stated : Option ColumnTrees) → StatesSchema c.meta stated → (HasOtherPartition c base → ⊥) → IsDistinct bytes_eq (partition_behind c.meta base)
names_distinct c base stated states none =
    let names = partition_behind c.meta base in
    ⊎_elim
    (λ same. (distinct_exactly names).0 same)
    (λ twice. absurd (none (unwrap_or stated (schema_before base), stated_behind c.meta base stated states, inl (λ d. false≢true (sym twice ∙ (distinct_exactly names).1 d)))))
    (cases_Bool (are_distinct names))

-- ---- the rows before

old_values : (c : DeltaCommit) (base : Option Table) (stated : Option ColumnTrees) (columns : PartColumns) → StatesSchema c.meta stated → (ChangesPartition c base → ⊥) → ((before : Table) → base ≡ Some before → IsTableOfLog before)
    → ArePartColumns (unwrap_or stated (schema_before base)) (partition_behind c.meta base) columns → (row : FileRow) → Contains (rows_before base) row
    → FitColumns (unwrap_or stated (schema_before base)) (partition_behind c.meta base) row.values
old_values c None stated columns states none ok are row there = absurd (Contains-none row there)
old_values c (Some t) stated columns states none ok are row there =
    let fits = subst (λ names. FitColumns t.schema names row.values) (sym (partition_kept c t stated states none)) ((ok t refl).sound.values row there) in
    values_still_fit t.schema (unwrap_or stated t.schema) (partition_behind c.meta (Some t)) columns row.values are (kinds_stay c t stated states none) fits

old_path : (base : Option Table) → ((before : Table) → base ≡ Some before → IsTableOfLog before) → (row : FileRow) → Contains (rows_before base) row → IsPath row.path
old_path None ok row there = absurd (Contains-none row there)
old_path (Some t) ok row there = (ok t refl).paths row there

-- ---- the table after

module _ {Diff : Difference} (c : DeltaCommit) (base : Option Table) (change : Change) (is : IsChangeBy Diff c base change) (supported : NoneOf (Shows c base) commit_features) where
  abbrev schema : ColumnTrees
  schema = unwrap_or change.schema (schema_before base)

  abbrev names : List (List ℕ)
  names = partition_behind c.meta base

  no_change : ChangesPartition c base → ⊥
  no_change = supported.1.1.1.1.1.0

  module _ (after : Table) (step : IsAfter (table_before c base) change after) where
    pub after_schema : after.schema ≡ schema
    after_schema = step.schema ∙ ap (unwrap_or change.schema) (before_schema c base)

    pub after_partition : after.partition ≡ names
    after_partition = step.partition ∙ partition_before c base change.schema is.stated no_change

    -- the rows after are those behind the commit
    pub after_rows : SameRows after.rows is.behind
    after_rows row = (
      λ there. (is.leads row).0 (subst (λ l. IsRowAfter l change.removed change.added row) (before_rows c base) ((step.rows row).0 there)),
      λ there. (step.rows row).1 (subst (λ l. IsRowAfter l change.removed change.added row) (sym (before_rows c base)) ((is.leads row).1 there)),
    )

    pub after_kinds : ArePartColumns after.schema after.partition is.columns
    after_kinds = subst (λ s. ArePartColumns s after.partition is.columns) (sym after_schema) (subst (λ l. ArePartColumns schema l is.columns) (sym after_partition) is.kinds)

    -- what holds of the rows that are added, and of those before, holds of the rows after
    row_after : (P : FileRow → Type 0) → ((row : FileRow) → Contains change.added row → P row) → ((row : FileRow) → Contains (rows_before base) row → P row) → (row : FileRow) → Contains after.rows row → P row
    row_after P fresh old row there = ⊎_elim (λ added. fresh row added) (λ kept. old row (subst (λ l. Contains l row) (before_rows c base) kept.0)) ((step.rows row).0 there)

    module _ (new : (row : FileRow) → Contains change.added row → IsSoundRow schema names row) (ok : (before : Table) → base ≡ Some before → IsTableOfLog before) where
      sound_schema : IsTableSchema after.schema
      sound_schema = subst IsTableSchema (sym after_schema) (behind_sound base change.schema (stated_sound c.meta change.schema is.stated) ok)

      leaves_table : IsTableOfLog after
      leaves_table = record {
        partition_distinct = subst (IsDistinct bytes_eq) (sym after_partition) (names_distinct c base change.schema is.stated supported.1.1.1.1.0);
        partition_kinds = λ name there none. has_kind schema names is.columns name is.kinds (subst (λ l. Contains l name) after_partition there) (ap (λ s. column_kind s name) (sym after_schema) ∙ none);
        sound = record {
          distinct = step.distinct;
          values = λ row there.
              subst (λ s. FitColumns s after.partition row.values) (sym after_schema) (subst (λ l. FitColumns schema l row.values) (sym after_partition)
              (row_after (λ r. FitColumns schema names r.values) (λ r added. (new r added).values) (old_values c base change.schema is.columns is.stated no_change ok is.kinds) row there));
        };
        paths = row_after (λ r. IsPath r.path) (λ r added. (new r added).path) (old_path base ok);
        partition_columns = subst (λ l. length l ≤ MAX_PARTITION_COLUMNS) (sym after_partition) is.few_columns;
        live_files = subst (λ n. n ≤ MAX_LIVE_FILES) (sym (same_rows_length after.rows is.behind step.distinct is.rows.distinct after_rows)) is.few;
        schema = sound_schema.0;
        size = sound_schema.1;
      }

  pub goes_on : ((row : FileRow) → Contains change.added row → IsSoundRow schema names row) → CanApply (table_before c base) change → GoesOn c base change
  goes_on new fits = record { fits = fits; leaves = λ ok after step. leaves_table after step new ok }

-- ---- a step over a table

-- A commit that shows no feature over a table keeps its partition columns.
pub step_partition : (c : DeltaCommit) (t : Table) (change : Change) → NoneOf (Shows c (Some t)) commit_features → IsChangeOf c (Some t) change → partition_behind c.meta (Some t) ≡ t.partition
step_partition c t change supported is = partition_kept c t change.schema is.stated supported.1.1.1.1.1.0

-- And their kinds.
pub step_columns : (c : DeltaCommit) (t : Table) (change : Change) (columns : PartColumns) → NoneOf (Shows c (Some t)) commit_features → ArePartColumns t.schema t.partition columns → (is : IsChangeOf c (Some t) change) → is.columns ≡ columns
step_columns c t change columns supported are is =
    let same = step_partition c t change supported is in
    sym (same_columns t.schema (unwrap_or change.schema t.schema) (partition_behind c.meta (Some t)) columns is.columns (subst (λ l. ArePartColumns t.schema l columns) (sym same) are) is.kinds
    (kinds_stay c t change.schema is.stated supported.1.1.1.1.1.0))
