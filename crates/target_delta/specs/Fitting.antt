-- Why commits don't fit a Delta target.
use Rattle.std.specs.Prelude.{◌≡◌, ◌≢◌, ◌⊎◌, ◌↔◌, ℕ, ◌<◌, List, [], ◌∷◌, ◌++◌, length, map, Contains, Option, None, Some, Bool, IsTrue}
use Rattle.table_history.specs.Row.{Row}
use Rattle.table_history.specs.TypeTree.{ColumnTrees}
use Rattle.table_history.specs.declared.feature.Feature.TheVariants.{PartitionChange, ValueForm}
use Rattle.table_history.specs.declared.limit.LimitKind.TheVariants.{Publish}
use Rattle.table_history.specs.declared.row.PartValue.{PartValue}
use Rattle.table_history.specs.declared.table.Commit.{Commit}
use Rattle.lake_basics.specs.declared.limits.TheConstants.{MAX_PUBLISHED_COMMITS}
use Rattle.partition_map.specs.Columns.{column_kind}
use Rattle.partition_map.specs.DeltaText.{HasNoDeltaText}
use Rattle.partition_map.specs.declared.kind.PartKind.{PartKind}
use Rattle.target_core.specs.declared.target.TargetError.{TargetError}
use Rattle.target_core.specs.declared.target.TargetError.TheVariants.{Limit, Unsupported}
use Rattle.target_delta.specs.Writing.{LogEnd, end_behind}

-- the kinds of these columns, none where one is no column or its type has no kind
abbrev pub kinds_of : ColumnTrees → List (List ℕ) → List (Option PartKind)
kinds_of schema names = map (column_kind schema) names

-- A commit behind another one, or behind the target's, states a schema in which the kinds of the partition columns are others.
abbrev pub ChangesKinds : LogEnd → List Commit → Type 0
ChangesKinds end [] = ⊥
ChangesKinds end (commit ∷ commits) =
    ((0 < end.version) × ((schema : ColumnTrees) × (commit.change.schema ≡ Some schema) × (kinds_of end.schema end.partition ≢ kinds_of schema end.partition)))
    ⊎ ChangesKinds (end_behind end commit) commits

-- The log's end has these partition columns, which are of these kinds, and there is a commit before it where that is so.
pub record EndsWith (end : LogEnd) (names : List (List ℕ)) (kinds : List (Option PartKind)) (published : Bool) : Type 0 where
  pub names_are : end.partition ≡ names
  pub kinds_are : kinds_of end.schema end.partition ≡ kinds
  pub commit : IsTrue published ↔ (0 < end.version)

-- There are commits, and the target has one of other partition columns, or their kinds change.
abbrev pub ChangesPartition : LogEnd → List (List ℕ) → List Commit → Type 0
ChangesPartition end partition commits = (commits ≢ []) × (((0 < end.version) × (end.partition ≢ partition)) ⊎ ChangesKinds end commits)

-- a value of the row has no text that stands for it
abbrev pub HasValueForm : Row → Type 0
HasValueForm row = (value : PartValue) × Contains row.values value × HasNoDeltaText value

-- the rows that the commits add, commit by commit
abbrev pub added_rows : List Commit → List Row
added_rows [] = []
added_rows (commit ∷ commits) = commit.change.added ++ added_rows commits

-- the first of the rows with such a value
pub record IsFirstValueForm (rows : List Row) (path : List ℕ) : Type 0 where
  pub front : List Row
  pub row : Row
  pub behind : List Row
  pub split : rows ≡ front ++ row ∷ behind
  pub here : HasValueForm row
  pub none : (other : Row) → Contains front other → ¬ HasValueForm other
  pub is : path ≡ row.path

-- This is the path of the first of the rows with such a value, if it is there.
abbrev pub IsFormOf : List Row → Option (List ℕ) → Type 0
IsFormOf rows None = (row : Row) → Contains rows row → ¬ HasValueForm row
IsFormOf rows (Some path) = IsFirstValueForm rows path

-- The first cause in this order: too many commits, other partition columns or kinds, a value without a text.
pub data Unfit (end : LogEnd) (partition : List (List ℕ)) (commits : List Commit) : TargetError → Type 0 where
  many : MAX_PUBLISHED_COMMITS < length commits → Unfit end partition commits (Limit Publish MAX_PUBLISHED_COMMITS)
  changes : ¬ (MAX_PUBLISHED_COMMITS < length commits) → ChangesPartition end partition commits → Unfit end partition commits (Unsupported PartitionChange [])
  form : (path : List ℕ) → ¬ (MAX_PUBLISHED_COMMITS < length commits) → ¬ ChangesPartition end partition commits → IsFirstValueForm (added_rows commits) path → Unfit end partition commits (Unsupported ValueForm path)
