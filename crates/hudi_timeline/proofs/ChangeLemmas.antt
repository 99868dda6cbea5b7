-- The change of an instant that nothing speaks against, and the table after it.
use Rattle.std.proofs.Common.{◌≡◌, ℕ, ◌≤◌, ◌&&◌, Bool, true, false, nat_lt, nat_le, List, length, filter, reverse, not, Ok, Option, Some, None, Contains, refl, sym, ap, subst, ◌∙◌, ⊎_elim, arith}
use Rattle.std.specs.List.{list_any, IsDistinct}
use Rattle.std.specs.Option.{unwrap_or}
use Rattle.std.specs.Str.{bytes_eq}
use Rattle.std.proofs.lemmas.Bool.{cases_Bool, false≢true, ltb-false, le-leb}
use Rattle.std.proofs.lemmas.List.Elements.{Contains-append_cases}
use Rattle.std.proofs.lemmas.Option.{none-some}
use Rattle.lake_basics.specs.declared.limits.TheConstants.{MAX_COLUMNS, MAX_PARTITION_COLUMNS, MAX_PATH_BYTES, MAX_LIVE_FILES}
use Rattle.table_history.specs.History.{FitColumns}
use Rattle.table_history.specs.Path.{IsPath, is_path_of_any_length}
use Rattle.table_history.specs.Rows.{HasPath}
use Rattle.table_history.specs.SchemaSize.{IsWithinLimits, column_count, column_levels, max_type_levels}
use Rattle.table_history.specs.Sound.{IsSound}
use Rattle.table_history.specs.Tables.{CanApply, IsAfter, IsRowAfter}
use Rattle.table_history.specs.TypeTree.{ColumnTrees}
use Rattle.table_history.specs.declared.row.FileRow.{FileRow}
use Rattle.table_history.specs.declared.table.Change.{Change}
use Rattle.table_history.specs.declared.table.Table.{Table}
use Rattle.table_history.proofs.PathTests.{path_decided}
use Rattle.table_history.proofs.RowListLemmas.{Contains-none, Contains-filter}
use Rattle.table_history.proofs.TableLemmas.{diff_removed_distinct, diff_removed_there, diff_added_distinct, diff_added_new, diff_leads}
use Rattle.partition_map.specs.declared.kind.PartKind.{PartKind}
use Rattle.hudi_properties.specs.declared.table.HudiTable.{HudiTable}
use Rattle.hudi_timeline.specs.Causes.{table_before, rows_before}
use Rattle.hudi_timeline.specs.Change.{IsTableOf, GoesOn}
use Rattle.hudi_timeline.specs.GroupChange.{is_long, IsGroupChange}
use Rattle.hudi_groups.specs.GroupSets.{rows_after, newest_rows}
use Rattle.hudi_timeline.specs.Live.{Completed, AreRowsOf}
use Rattle.partition_map.specs.Columns.{column_kind, HasOtherKind}
use Rattle.hudi_timeline.specs.Schemas.{schema_after, AreKindsOf}
use Rattle.hudi_files.specs.Values.{style_of}
use Rattle.hudi_groups.proofs.AnyLemmas.{any_from}
use Rattle.hudi_timeline.proofs.CauseLemmas.{has_kind}
use Rattle.hudi_timeline.proofs.CountLemmas.{fewer, AreFew, few_parts}
use Rattle.hudi_groups.proofs.GroupChangeLemmas.{new_there, touched}
use Rattle.hudi_timeline.proofs.KindLemmas.{values_fit, values_still_fit, kinds_kept}
use Rattle.hudi_files.proofs.StatLemmas.{bare_path, bare_sound}
use Rattle.hudi_timeline.proofs.LiveLemmas.{stat_of_row}

-- ---- the table before
pub before_rows : (table : HudiTable) (base : Option Table) → (table_before table base).rows ≡ rows_before base
before_rows table None = refl
before_rows table (Some before) = refl

partition_before : (table : HudiTable) (base : Option Table) → ((before : Table) → base ≡ Some before → IsTableOf table before) → (table_before table base).partition ≡ table.partition
partition_before table None ok = refl
partition_before table (Some before) ok = (ok before refl).partition

pub schema_is : (table : HudiTable) (base : Option Table) (stated : Option ColumnTrees) (schema : ColumnTrees) → schema_after (Ok stated) base ≡ Some schema → unwrap_or stated (table_before table base).schema ≡ schema
schema_is table base (Some s) schema h = cc
schema_is table (Some before) None schema h = cc
schema_is table None None schema h = absurd cc

sound_after : (table : HudiTable) (base : Option Table) (stated : Option ColumnTrees) (schema : ColumnTrees) → schema_after (Ok stated) base ≡ Some schema
    → ((s : ColumnTrees) → stated ≡ Some s → IsSound s) → ((before : Table) → base ≡ Some before → IsTableOf table before) → IsSound schema
sound_after table base (Some s) schema h sound ok = let same : s ≡ schema = cc in subst IsSound same (sound s refl)
sound_after table (Some before) None schema h sound ok = let same : before.schema ≡ schema = cc in subst IsSound same (ok before refl).schema
sound_after table None None schema h sound ok = absurd cc

row_before : (base : Option Table) (row : FileRow) → Contains (rows_before base) row → (before : Table) × (base ≡ Some before) × Contains before.rows row
row_before None row there = absurd (Contains-none row there)
row_before (Some before) row there = (before, refl, there)

-- ---- a row that the instant writes
short_path : (path : List ℕ) → is_path_of_any_length path ≡ true → nat_lt MAX_PATH_BYTES (length path) ≡ false → IsPath path
short_path path form low =
    (path_decided path).0 (both (nat_le (length path) MAX_PATH_BYTES) (is_path_of_any_length path) (le-leb (length path) MAX_PATH_BYTES (ltb-false MAX_PATH_BYTES (length path) low)) form)
  where
    both : (a b : Bool) → a ≡ true → b ≡ true → (a && b) ≡ true
    both a b x y = (λ i. x i && y i)

module _ (u : Completed) (table : HudiTable) (base : Option Table) (schema : ColumnTrees) (kinds : List PartKind) (rows : List FileRow)
    (are : AreRowsOf table kinds u rows) (kinds_are : AreKindsOf schema table.partition kinds) (change : Change)
    (group : IsGroupChange u.form table schema u.instant.replaced (rows_before base) rows change) where
  abbrev after : List FileRow
  after = rows_after u.form u.instant.replaced (rows_before base) rows

  few : AreFew table schema (list_any is_long rows) (length after)
  few = few_parts table schema (list_any is_long rows) (length after) group.few

  written_path : (row : FileRow) → Contains rows row → IsPath row.path
  written_path row there =
      let s = stat_of_row table kinds u rows are row there in
      let sound = bare_sound _ s.0 s.2 s.3 in
      let path = s.4.path ∙ bare_path _ s.0 s.2 s.3 in
      short_path row.path (subst (λ p. is_path_of_any_length p ≡ true) (sym path) sound.0) (⊎_elim
      (λ long. absurd (false≢true (sym few.paths ∙ any_from is_long rows row there long)))
      (λ short. short)
      (cases_Bool (is_long row)))

  written_values : (row : FileRow) → Contains rows row → FitColumns schema table.partition row.values
  written_values row there =
      let s = stat_of_row table kinds u rows are row there in
      values_fit schema (style_of table) table.partition kinds s.4.parts row.values kinds_are s.4.values

  -- what holds of the rows that are written, and of those that stay, holds of the rows after
  row_after : (P : FileRow → Type 0) → ((row : FileRow) → Contains rows row → P row) → ((row : FileRow) → Contains (rows_before base) row → P row)
      → (row : FileRow) → Contains after row → P row
  row_after P new old row there =
      ⊎_elim
      (λ kept. old row (Contains-filter (λ (r : FileRow). not (touched u.form u.instant.replaced (rows_before base) rows r)) (rows_before base) row kept).0)
      (λ fresh. new row (new_there u.form u.instant.replaced (rows_before base) rows row fresh))
      (Contains-append_cases (filter (λ (r : FileRow). not (touched u.form u.instant.replaced (rows_before base) rows r)) (rows_before base)) (reverse (newest_rows u.form rows)) row there)

  pub fits : CanApply (table_before table base) change
  fits =
      let before = rows_before base in
      let d = group.diff in
      let back : rows_before base ≡ (table_before table base).rows = sym (before_rows table base) in
      record {
        removed_distinct = diff_removed_distinct before after change.removed change.added d group.before_distinct group.distinct;
        removed_there = subst (λ l. (path : List ℕ) → Contains change.removed path → HasPath l path) back (diff_removed_there before after change.removed change.added d group.before_distinct group.distinct);
        added_distinct = diff_added_distinct before after change.removed change.added d group.before_distinct group.distinct;
        added_new = subst (λ l. (row : FileRow) → Contains change.added row → HasPath l row.path → Contains change.removed row.path) back (diff_added_new before after change.removed change.added d group.before_distinct group.distinct);
      }

  module _ (stated : Option ColumnTrees) (states : change.schema ≡ stated) (in_force : schema_after (Ok stated) base ≡ Some schema) (sound : (s : ColumnTrees) → stated ≡ Some s → IsSound s)
      (distinct : IsDistinct bytes_eq table.partition) (kept : (before : Table) → base ≡ Some before → HasOtherKind before.schema schema table.partition → ⊥) where
    module _ (ok : (before : Table) → base ≡ Some before → IsTableOf table before) (new : Table) (is : IsAfter (table_before table base) change new) where
      new_schema : new.schema ≡ schema
      new_schema = is.schema ∙ ap (λ s. unwrap_or s (table_before table base).schema) states ∙ schema_is table base stated schema in_force

      new_partition : new.partition ≡ table.partition
      new_partition = is.partition ∙ partition_before table base ok

      new_rows : (row : FileRow) → Contains new.rows row → Contains after row
      new_rows row there =
          (diff_leads (rows_before base) after change.removed change.added group.diff group.before_distinct group.distinct row).0
          (subst (λ l. IsRowAfter l change.removed change.added row) (before_rows table base) ((is.rows row).0 there))

      old_values : (row : FileRow) → Contains (rows_before base) row → FitColumns schema table.partition row.values
      old_values row there =
          let b = row_before base row there in
          let t = ok b.0 b.1 in
          values_still_fit b.0.schema schema table.partition kinds row.values kinds_are (kinds_kept b.0.schema schema table.partition (kept b.0 b.1))
          (subst (λ names. FitColumns b.0.schema names row.values) t.partition (t.sound.values row b.2))

      leaves_table : IsTableOf table new
      leaves_table = record {
        partition = new_partition;
        partition_distinct = subst (IsDistinct bytes_eq) (sym new_partition) distinct;
        partition_kinds = λ name there none.
            let has = has_kind (column_kind schema) table.partition kinds kinds_are name (subst (λ names. Contains names name) new_partition there) in
            none-some has.0 (sym (ap (λ s. column_kind s name) (sym new_schema) ∙ none) ∙ has.1);
        sound = record {
          distinct = is.distinct;
          values = λ row there.
              subst (λ s. FitColumns s new.partition row.values) (sym new_schema) (subst (λ names. FitColumns schema names row.values) (sym new_partition)
              (row_after (λ r. FitColumns schema table.partition r.values) written_values old_values row (new_rows row there)));
        };
        paths = λ row there. row_after (λ r. IsPath r.path) written_path (λ r at. let b = row_before base r at in (ok b.0 b.1).paths r b.2) row (new_rows row there);
        partition_columns = subst (λ names. length names ≤ MAX_PARTITION_COLUMNS) (sym new_partition) (ltb-false MAX_PARTITION_COLUMNS (length table.partition) few.names);
        live_files =
            let fewer_there = fewer new.rows after is.distinct new_rows in
            let most = ltb-false MAX_LIVE_FILES (length after) few.rows in
            omega (arith, fewer_there, most);
        schema = subst IsSound (sym new_schema) (sound_after table base stated schema in_force sound ok);
        size = subst IsWithinLimits (sym new_schema) (record {
          levels = ltb-false max_type_levels (column_levels schema) few.levels;
          columns = ltb-false MAX_COLUMNS (column_count schema) few.columns;
        });
      }

    pub goes_on : GoesOn table base change
    goes_on = record { fits = fits; leaves = leaves_table }
