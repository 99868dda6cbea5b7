-- Why commits don't fit a Hudi target.
use Rattle.std.specs.Prelude.{◌≡◌, ◌≢◌, ◌⊎◌, ℕ, ◌<◌, List, [], ◌∷◌, ◌++◌, length, map, Contains, Err, None, Option, Some, option_map}
use Rattle.table_history.specs.Row.{Row}
use Rattle.table_history.specs.TypeTree.{ColumnTrees}
use Rattle.table_history.specs.declared.feature.Feature.{Feature}
use Rattle.table_history.specs.declared.feature.Feature.TheVariants.{AvroName, PartitionChange, PartitionPath, SchemaType}
use Rattle.table_history.specs.declared.limit.LimitKind.TheVariants.{Publish}
use Rattle.table_history.specs.declared.table.Commit.{Commit}
use Rattle.lake_basics.specs.declared.limits.TheConstants.{MAX_PUBLISHED_COMMITS}
use Rattle.partition_map.specs.Columns.{column_kind}
use Rattle.partition_map.specs.Folder.{CarriesValues}
use Rattle.partition_map.specs.declared.kind.PartKind.{PartKind}
use Rattle.schema_avro.specs.AvroWriting.{avro_schema_text}
use Rattle.schema_map.specs.declared.fault.MapError.TheVariants as map_errors
use Rattle.target_core.specs.declared.target.TargetError.{TargetError}
use Rattle.target_core.specs.declared.target.TargetError.TheVariants.{Limit, Memory, Unsupported}

-- the columns in force behind a commit that may state some
abbrev pub columns_behind : Option ColumnTrees → Option ColumnTrees → Option ColumnTrees
columns_behind before None = before
columns_behind before (Some stated) = Some stated

-- the kinds of these columns, none where one is no column or its type has no kind
abbrev pub kinds_of : ColumnTrees → List (List ℕ) → List (Option PartKind)
kinds_of schema names = map (column_kind schema) names

-- A commit behind another one, or behind the target's, states a schema in which the kinds of the partition columns are others.
abbrev pub ChangesKinds : Option ColumnTrees → List (List ℕ) → List Commit → Type 0
ChangesKinds before partition [] = ⊥
ChangesKinds before partition (commit ∷ commits) =
    ((held : ColumnTrees) × (stated : ColumnTrees) × (before ≡ Some held) × (commit.change.schema ≡ Some stated) × (kinds_of held partition ≢ kinds_of stated partition))
    ⊎ ChangesKinds (columns_behind before commit.change.schema) partition commits

-- the partition columns' kinds in the columns in force, where there are such
abbrev pub AreKindsBehind : Option ColumnTrees → List (List ℕ) → Option (List (Option PartKind)) → Type 0
AreKindsBehind before names kinds = option_map (λ schema. kinds_of schema names) before ≡ kinds

-- what a target has that commits are to fit: its partition columns and its columns, where a commit is published
pub record Held : Type 0 where
  pub partition : List (List ℕ)
  pub columns : ColumnTrees

abbrev pub columns_of : Option Held → Option ColumnTrees
columns_of None = None
columns_of (Some held) = Some held.columns

-- There are commits, and the target has one of other partition columns, or their kinds change.
abbrev pub ChangesPartition : Option Held → List (List ℕ) → List Commit → Type 0
ChangesPartition held partition commits =
    (commits ≢ [])
    × (((target : Held) × (held ≡ Some target) × (target.partition ≢ partition)) ⊎ ChangesKinds (columns_of held) partition commits)

-- The schema that the commit states has no spelling in Avro, for this cause in this column.
abbrev pub HasSchemaFault : Commit → Feature → List ℕ → Type 0
HasSchemaFault commit SchemaType column = (stated : ColumnTrees) × (commit.change.schema ≡ Some stated) × (avro_schema_text stated ≡ Err (map_errors.SchemaType column))
HasSchemaFault commit AvroName column = (stated : ColumnTrees) × (commit.change.schema ≡ Some stated) × (avro_schema_text stated ≡ Err (map_errors.AvroName column))
HasSchemaFault commit _ column = ⊥

-- the row's folder doesn't carry its values
abbrev pub IsAstray : List (List ℕ) → Row → Type 0
IsAstray partition row = ¬ CarriesValues row.path partition row.values

-- the first of the rows of which this is so
pub record IsFirstAstray (partition : List (List ℕ)) (rows : List Row) (path : List ℕ) : Type 0 where
  pub front : List Row
  pub row : Row
  pub behind : List Row
  pub split : rows ≡ front ++ row ∷ behind
  pub here : IsAstray partition row
  pub none : (other : Row) → Contains front other → ¬ IsAstray partition other
  pub is : path ≡ row.path

-- such a row as a fault, with its path
abbrev pub IsAstrayFault : List (List ℕ) → List Row → Feature → List ℕ → Type 0
IsAstrayFault partition rows feature path = (feature ≡ PartitionPath) × IsFirstAstray partition rows path

-- What is at fault with a commit by itself: its schema, and then its added rows in their order.
abbrev pub IsCommitFault : List (List ℕ) → Commit → Feature → List ℕ → Type 0
IsCommitFault partition commit PartitionPath path = ((feature : Feature) (column : List ℕ) → ¬ HasSchemaFault commit feature column) × IsFirstAstray partition commit.change.added path
IsCommitFault partition commit feature path = HasSchemaFault commit feature path

abbrev pub HasNoFault : List (List ℕ) → Commit → Type 0
HasNoFault partition commit = (feature : Feature) (path : List ℕ) → ¬ IsCommitFault partition commit feature path

-- the first commit with such a fault
pub record IsFirstFault (partition : List (List ℕ)) (commits : List Commit) (feature : Feature) (path : List ℕ) : Type 0 where
  pub front : List Commit
  pub commit : Commit
  pub behind : List Commit
  pub split : commits ≡ front ++ commit ∷ behind
  pub fault : IsCommitFault partition commit feature path
  pub none : (other : Commit) → Contains front other → HasNoFault partition other

-- A refusal for such a fault. Memory may run out instead.
abbrev pub IsFaultRefusal : (Feature → List ℕ → Type 0) → TargetError → Type 0
IsFaultRefusal fault Memory = Unit {0}
IsFaultRefusal fault (Unsupported feature path) = fault feature path
IsFaultRefusal fault _ = ⊥

-- The first cause in this order: too many commits, other partition columns or kinds, a commit that is at fault by itself.
pub data Unfit (held : Option Held) (partition : List (List ℕ)) (commits : List Commit) : TargetError → Type 0 where
  many : MAX_PUBLISHED_COMMITS < length commits → Unfit held partition commits (Limit Publish MAX_PUBLISHED_COMMITS)
  changes : ¬ (MAX_PUBLISHED_COMMITS < length commits) → ChangesPartition held partition commits → Unfit held partition commits (Unsupported PartitionChange [])
  fault : (feature : Feature) (path : List ℕ) → ¬ (MAX_PUBLISHED_COMMITS < length commits) → ¬ ChangesPartition held partition commits → IsFirstFault partition commits feature path → Unfit held partition commits (Unsupported feature path)
