-- The change that the rows of an instant and its replaced file ids make of the rows before.
use Rattle.std.specs.Prelude.{◌≡◌, ℕ, nat_lt, List, length, Bool, Option, Some, None, if◌then◌else◌}
use Rattle.std.specs.List.{list_any}
use Rattle.std.specs.Option.{option_or}
use Rattle.table_history.specs.Row.{Row}
use Rattle.table_history.specs.Rows.{HasDistinctPaths}
use Rattle.table_history.specs.Tables.{IsDiff}
use Rattle.table_history.specs.TypeTree.{ColumnTrees}
use Rattle.schema_map.specs.Limits.{schema_limit}
use Rattle.table_history.specs.declared.table.Change.{Change}
use Rattle.table_history.specs.declared.limit.LimitKind.{LimitKind}
use Rattle.table_history.specs.declared.limit.LimitKind.TheVariants as limit
use Rattle.lake_basics.specs.declared.limits.TheConstants.{MAX_PARTITION_COLUMNS, MAX_PATH_BYTES, MAX_LIVE_FILES}
use Rattle.hudi_names.specs.declared.error.HudiError.{HudiError}
use Rattle.hudi_names.specs.declared.error.HudiError.TheVariants.{Memory, Malformed, Unsupported, Limit}
use Rattle.hudi_groups.specs.declared.form.Form.{Form}
use Rattle.hudi_properties.specs.declared.table.HudiTable.{HudiTable}
use Rattle.hudi_groups.specs.GroupSets.{rows_after}

-- ---- limits

abbrev pub is_long : Row → Bool
is_long row = nat_lt MAX_PATH_BYTES (length row.path)

-- the first number that the rows pass, where a path may be too long, of so many live rows
abbrev pub row_limit : HudiTable → Bool → ℕ → Option LimitKind
row_limit table has_long live =
    if nat_lt MAX_PARTITION_COLUMNS (length table.partition) then Some limit.PartitionColumns
    else (if has_long then Some limit.Path
    else (if nat_lt MAX_LIVE_FILES live then Some limit.LiveFiles else None))

-- the first number that is passed: those of the schema go first
abbrev pub limit_passed : HudiTable → ColumnTrees → Bool → ℕ → Option LimitKind
limit_passed table schema has_long live = option_or (schema_limit schema) (row_limit table has_long live)

-- ---- the change

pub record IsGroupChange (form : Form) (table : HudiTable) (schema : ColumnTrees) (replaced : List (List ℕ × List ℕ)) (before rows : List Row) (change : Change) : Type 0 where
  pub diff : IsDiff before (rows_after form replaced before rows) change.removed change.added
  pub before_distinct : HasDistinctPaths before
  pub distinct : HasDistinctPaths (rows_after form replaced before rows)
  pub few : limit_passed table schema (list_any is_long rows) (length (rows_after form replaced before rows)) ≡ None

pub record PassesLimit (form : Form) (table : HudiTable) (schema : ColumnTrees) (replaced : List (List ℕ × List ℕ)) (before rows : List Row) (which : LimitKind) : Type 0 where
  pub distinct : HasDistinctPaths (rows_after form replaced before rows)
  pub passed : limit_passed table schema (list_any is_long rows) (length (rows_after form replaced before rows)) ≡ Some which

-- The refusal is for want of memory, or names the first number that is passed.
abbrev pub PassesLimitAfter : Form → HudiTable → ColumnTrees → List (List ℕ × List ℕ) → List Row → List Row → HudiError → Type 0
PassesLimitAfter form table schema replaced before rows Memory = Unit {0}
PassesLimitAfter form table schema replaced before rows (Malformed line) = ⊥
PassesLimitAfter form table schema replaced before rows (Unsupported feature) = ⊥
PassesLimitAfter form table schema replaced before rows (Limit which) = PassesLimit form table schema replaced before rows which
