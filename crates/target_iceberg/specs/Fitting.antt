-- Why commits don't fit an Iceberg target.
use Rattle.std.specs.Prelude.{◌≡◌, ◌≢◌, ◌⊎◌, ◌≤ℤ◌, ◌<◌, ◌+◌, ◌&&◌, ◌==◌, nat_le, ℕ, ℤ, pos, List, [], ◌∷◌, ◌++◌, length, map, Contains, Bool, true, false, Option, None, Some, option_map, unwrap_or, if◌then◌else◌}
use Rattle.std.specs.Cmp.Lexicographic.{pointwise}
use Rattle.std.specs.List.{zip}
use Rattle.std.specs.Str.{bytes_eq}
use Rattle.lake_basics.specs.declared.limits.TheConstants.{MAX_PUBLISHED_COMMITS}
use Rattle.iceberg_metadata.specs.Paths.{current_schema}
use Rattle.iceberg_version.specs.declared.kept.IcebergKept.{IcebergKept}
use Rattle.partition_map.specs.Columns.{column_kind}
use Rattle.partition_map.specs.declared.kind.PartKind.{PartKind}
use Rattle.schema_map.specs.Paths.{Path, column_paths}
use Rattle.schema_map.specs.Image.{wide_columns}
use Rattle.table_history.specs.TypeEq.{columns_eq, type_eq}
use Rattle.table_history.specs.TypeTree as tree
use Rattle.table_history.specs.TypeTree.{ColumnTrees, TypeTree, column, no_columns}
use Rattle.table_history.specs.declared.feature.Feature.TheVariants.{PartitionChange, TypeChange}
use Rattle.table_history.specs.declared.limit.LimitKind.TheVariants.{Publish}
use Rattle.table_history.specs.declared.table.Commit.{Commit}
use Rattle.target_core.specs.declared.target.TargetError.{TargetError}
use Rattle.target_core.specs.declared.target.TargetError.TheVariants.{Limit, Unsupported}

-- ---- the schemas that a target holds

-- a held schema and its id
abbrev pub IdSchema : Type 0
IdSchema = ℤ × ColumnTrees

-- What a target has that commits are to fit: how many of them are published, its partition columns, the table's schema, the schemas that it holds, and
-- the current one of these.
pub record HeldState : Type 0 where
  pub version : ℕ
  pub partition : List (List ℕ)
  pub schema : ColumnTrees
  pub held : List IdSchema
  pub current : Option ColumnTrees

abbrev pub is_current : Option ColumnTrees → ColumnTrees → Bool
is_current None image = false
is_current (Some current) image = columns_eq current image

-- A schema whose Image isn't the current one is held behind the others.
abbrev pub held_behind : HeldState → ColumnTrees → List IdSchema
held_behind state stated = if is_current state.current (wide_columns stated) then state.held else state.held ++ (pos (length state.held), wide_columns stated) ∷ []

abbrev pub state_with : HeldState → ColumnTrees → HeldState
state_with state stated = record { version = state.version + 1; partition = state.partition; schema = wide_columns stated; held = held_behind state stated; current = Some (wide_columns stated) }

-- the schema that the commit states, or else the one before
abbrev pub stated_in : HeldState → Commit → ColumnTrees
stated_in state commit = unwrap_or commit.change.schema state.schema

-- what the target has behind the commit
abbrev pub state_behind : HeldState → Commit → HeldState
state_behind state commit = state_with state (stated_in state commit)

-- ---- partition columns

-- the kinds of these columns, none where one is no column or its type has no kind
abbrev pub kinds_of : ColumnTrees → List (List ℕ) → List (Option PartKind)
kinds_of schema names = map (column_kind schema) names

-- A commit behind another one, or behind the target's, states a schema in which the kinds of the partition columns are others.
abbrev pub ChangesKinds : HeldState → List (List ℕ) → List Commit → Type 0
ChangesKinds state partition [] = ⊥
ChangesKinds state partition (commit ∷ commits) =
    ((0 < state.version) × ((stated : ColumnTrees) × (commit.change.schema ≡ Some stated) × (kinds_of state.schema partition ≢ kinds_of stated partition)))
    ⊎ ChangesKinds (state_behind state commit) partition commits

-- There are commits, and the target has one of other partition columns, or their kinds change.
abbrev pub ChangesPartition : HeldState → List (List ℕ) → List Commit → Type 0
ChangesPartition state partition commits = (commits ≢ []) × (((0 < state.version) × (state.partition ≢ partition)) ⊎ ChangesKinds state partition commits)

-- ---- types of columns

-- Depth first: the type of each part stands before those inside the part.
abbrev mutual
  pub inner_types : TypeTree → List TypeTree
  inner_types (tree.struct_of cs) = column_types cs
  inner_types (tree.list_of t b) = t ∷ inner_types t
  inner_types (tree.map_of k v b) = (k ∷ inner_types k) ++ (v ∷ inner_types v)
  inner_types _ = []

  -- the types of the column paths, in the same order
  pub column_types : ColumnTrees → List TypeTree
  column_types no_columns = []
  column_types (column n t b cs) = (t ∷ inner_types t) ++ column_types cs

-- the column paths of a schema with their types
abbrev pub typed_paths : ColumnTrees → List (Path × TypeTree)
typed_paths schema = zip (column_paths schema) (column_types schema)

abbrev pub type_in : List (Path × TypeTree) → Path → Option TypeTree
type_in [] path = None
type_in (p ∷ ps) path = if pointwise bytes_eq p.0 path then Some p.1 else type_in ps path

-- the type at a column path of the schema, if it has the path
abbrev pub type_at : ColumnTrees → Path → Option TypeTree
type_at schema path = type_in (typed_paths schema) path

-- whether a column of the first type may be of the other later on (Iceberg specification, "Schema Evolution"): the parts of structs, lists and maps
-- are columns of their own
abbrev pub may_become : TypeTree → TypeTree → Bool
may_become (tree.struct_of cs) (tree.struct_of ds) = true
may_become (tree.list_of t b) (tree.list_of u c) = true
may_become (tree.map_of k v b) (tree.map_of l w c) = true
may_become (tree.decimal p s) (tree.decimal q t) = (s == t) && nat_le p q
may_become tree.int tree.long = true
may_become tree.float tree.double = true
may_become t u = type_eq t u

-- The newest of these schemas that has the path has this type there.
pub record IsNewestType (held : List IdSchema) (path : Path) (t : TypeTree) : Type 0 where
  pub schema : IdSchema
  pub holds : Contains held schema
  pub at : type_at schema.1 path ≡ Some t
  pub newest : (other : IdSchema) (u : TypeTree) → Contains held other → type_at other.1 path ≡ Some u → other.0 ≤ℤ schema.0

-- In the Image of the stated schema the path has a type that its newest one may not become.
pub record ChangesType (held : List IdSchema) (stated : ColumnTrees) (path : Path) : Type 0 where
  pub before : TypeTree
  pub was : IsNewestType held path before
  pub after : TypeTree
  pub is : type_at (wide_columns stated) path ≡ Some after
  pub other : may_become before after ≡ false

-- the top-level column of the first such path
pub record IsFirstTypeChange (held : List IdSchema) (stated : ColumnTrees) (name : List ℕ) : Type 0 where
  pub front : List Path
  pub path : Path
  pub behind : List Path
  pub split : column_paths stated ≡ front ++ path ∷ behind
  pub here : ChangesType held stated path
  pub none : (other : Path) → Contains front other → ¬ ChangesType held stated other
  pub below : Path
  pub is : path ≡ name ∷ below

-- In the schema after the commit, whether the commit states it or not, the type of a column changes so.
abbrev pub HasTypeChange : HeldState → Commit → List ℕ → Type 0
HasTypeChange state commit name = IsFirstTypeChange state.held (stated_in state commit) name

-- This is the column of the first of the commits with such a change.
abbrev pub IsFirstChange : HeldState → List Commit → List ℕ → Type 0
IsFirstChange state [] name = ⊥
IsFirstChange state (commit ∷ commits) name =
    HasTypeChange state commit name
    ⊎ (((other : List ℕ) → ¬ HasTypeChange state commit other) × IsFirstChange (state_behind state commit) commits name)

-- The first cause in this order: too many commits, other partition columns or kinds, a column of another type.
pub data Unfit (state : HeldState) (partition : List (List ℕ)) (commits : List Commit) : TargetError → Type 0 where
  many : MAX_PUBLISHED_COMMITS < length commits → Unfit state partition commits (Limit Publish MAX_PUBLISHED_COMMITS)
  changes : ¬ (MAX_PUBLISHED_COMMITS < length commits) → ChangesPartition state partition commits → Unfit state partition commits (Unsupported PartitionChange [])
  type : (name : List ℕ) → ¬ (MAX_PUBLISHED_COMMITS < length commits) → ¬ ChangesPartition state partition commits → IsFirstChange state commits name → Unfit state partition commits (Unsupported TypeChange name)

-- ---- what is kept

-- what commits are to fit
abbrev pub state_of : IcebergKept → HeldState
state_of kept = record {
  version = kept.version;
  partition = kept.table.partition;
  schema = kept.table.schema;
  held = map (λ s. (s.0, s.1)) kept.metadata.schemas;
  current = option_map (λ s. s.1) (current_schema kept.metadata);
}
