-- Which tables may be published.
use Rattle.std.proofs.Common.{◌≡◌, ◌≤◌, ℕ, List, length, Contains, Option, Some, sym, ap, subst, ◌∙◌}
use Rattle.std.specs.Prelude.{unwrap_or}
use Rattle.std.specs.List.{IsDistinct}
use Rattle.std.specs.Str.{bytes_eq}
use Rattle.lake_basics.specs.declared.limits.TheConstants.{MAX_LIVE_FILES, MAX_PARTITION_COLUMNS}
use Rattle.table_history.specs.History.{FitColumns}
use Rattle.table_history.specs.Rows.{SameRows}
use Rattle.table_history.specs.SchemaSize.{IsWithinLimits}
use Rattle.table_history.specs.Sound.{IsSound}
use Rattle.table_history.specs.Tables.{IsAfter, LeadsTo}
use Rattle.table_history.specs.TypeTree.{ColumnTrees}
use Rattle.table_history.specs.declared.table.Change.{Change}
use Rattle.table_history.specs.declared.table.Table.{Table}
use Rattle.table_history.proofs.Laws.{same_rows_length}
use Rattle.target_core.specs.Conditions.{HasKind, IsPublishable}

-- What leads to a table that may be published may be published.
pub publishable_after : (before after t : Table) (change : Change) → IsPublishable after → LeadsTo before.rows change.removed change.added after.rows → change.schema ≡ Some after.schema → before.partition ≡ after.partition → IsAfter before change t
    → IsPublishable t
publishable_after before after t change may leads states columns is =
    let schema : t.schema ≡ after.schema = is.schema ∙ ap (λ (s : Option ColumnTrees). unwrap_or s before.schema) states in
    let partition : t.partition ≡ after.partition = is.partition ∙ columns in
    let same : SameRows t.rows after.rows = λ row. (λ there. (leads row).0 ((is.rows row).0 there), λ there. (is.rows row).1 ((leads row).1 there)) in
    record {
      sound = record {
        distinct = is.distinct;
        values = λ row there. subst (λ (s : ColumnTrees). FitColumns s t.partition row.values) (sym schema)
            (subst (λ (names : List (List ℕ)). FitColumns after.schema names row.values) (sym partition) (may.sound.values row ((same row).0 there)));
      };
      paths = λ row there. may.paths row ((same row).0 there);
      live_files = subst (λ (n : ℕ). n ≤ MAX_LIVE_FILES) (sym (same_rows_length t.rows after.rows is.distinct may.sound.distinct same)) may.live_files;
      partition_columns = subst (λ (names : List (List ℕ)). length names ≤ MAX_PARTITION_COLUMNS) (sym partition) may.partition_columns;
      partition_distinct = subst (λ (names : List (List ℕ)). IsDistinct bytes_eq names) (sym partition) may.partition_distinct;
      partition_kinds = λ name there. subst (λ (s : ColumnTrees). HasKind s name) (sym schema) (may.partition_kinds name (subst (λ (names : List (List ℕ)). Contains names name) partition there));
      schema = subst IsSound (sym schema) may.schema;
      size = subst IsWithinLimits (sym schema) may.size;
    }
