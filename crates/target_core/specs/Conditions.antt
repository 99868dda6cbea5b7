-- What may be published.
use Rattle.std.specs.Prelude.{◌≡◌, ◌⊎◌, ◌≢◌, ◌≤◌, ℕ, List, [], ◌∷◌, length, Contains, Option, Some}
use Rattle.std.specs.List.{IsDistinct}
use Rattle.std.specs.Str.{bytes_eq}
use Rattle.lake_basics.specs.declared.limits.TheConstants.{MAX_LIVE_FILES, MAX_PARTITION_COLUMNS}
use Rattle.table_history.specs.History.{IsOfType, IsSoundTable, column_type}
use Rattle.table_history.specs.Path.{IsPath}
use Rattle.table_history.specs.Row.{Row}
use Rattle.table_history.specs.SchemaSize.{IsWithinLimits}
use Rattle.table_history.specs.Sound.{IsSound}
use Rattle.table_history.specs.TypeTree.{ColumnTrees, TypeTree}
use Rattle.table_history.specs.declared.kind.Kind.{Kind}
use Rattle.table_history.specs.declared.row.PartValue.{PartValue}
use Rattle.table_history.specs.declared.row.PartValue.TheVariants as value
use Rattle.table_history.specs.Tables.{CanApply, IsAfter}
use Rattle.table_history.specs.declared.table.Table.{Table}
use Rattle.table_history.specs.declared.table.Commit.{Commit}
use Rattle.target_core.specs.Views.{IsAdvanced, IsOfSource, IsUnpublished, Origin, View}
use Rattle.target_core.specs.declared.target.TargetError.{TargetError}

-- The name is that of a top-level column, of a type that some partition value other than null is of.
abbrev pub HasKind : ColumnTrees → List ℕ → Type 0
HasKind schema name = (t : TypeTree) × (v : PartValue) × (column_type schema name ≡ Some t) × (v ≢ value.Null) × IsOfType t v

-- The rows have distinct paths, each of them a path, and values that are null or of their column's kind. The partition columns are distinct
-- top-level columns of types that have a kind. The schema is one that a table may have, and no number is passed.
pub record IsPublishable (table : Table) : Type 0 where
  pub sound : IsSoundTable table
  pub paths : (row : Row) → Contains table.rows row → IsPath row.path
  pub live_files : length table.rows ≤ MAX_LIVE_FILES
  pub partition_columns : length table.partition ≤ MAX_PARTITION_COLUMNS
  pub partition_distinct : IsDistinct bytes_eq table.partition
  pub partition_kinds : (name : List ℕ) → Contains table.partition name → HasKind table.schema name
  pub schema : IsSound table.schema
  pub size : IsWithinLimits table.schema

-- The commits of a source with these partition columns fit the target: no cause of a refusal holds of them.
pub record Fits (unfit : List (List ℕ) → List Commit → TargetError → Type 0) (partition : List (List ℕ)) (commits : List Commit) : Type 0 where
  pub never : (e : TargetError) → unfit partition commits e → ⊥

-- The change fits the table, and the table after it may be published.
pub record CanPublish (view : View) (commit : Commit) : Type 0 where
  pub change : CanApply view.table commit.change
  pub after : (table : Table) → IsAfter view.table commit.change table → IsPublishable table

-- each commit in turn, over what the commits before it leave
abbrev pub CanPublishAll : (ColumnTrees → Option ColumnTrees) → Origin → View → List Commit → Type 0
CanPublishAll image origin view [] = Unit {0}
CanPublishAll image origin view (commit ∷ commits) = CanPublish view commit × ((next : View) → IsAdvanced image origin view commit next → CanPublishAll image origin next commits)

-- the commits go on from a target of no commit, or of one whose newest mark names this source
abbrev pub GoesOn : Kind → View → Type 0
GoesOn source view = IsUnpublished view ⊎ IsOfSource source view
