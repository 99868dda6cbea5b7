-- What a target holds behind commits that were looked at.
use Rattle.std.specs.Prelude.{◌≡◌, ◌↔◌, ◌<◌, ◌<ℤ◌, ℕ, ℤ, pos, Bool, true, false, IsTrue, List, length, Contains, Option, None, Some}
use Rattle.partition_map.specs.declared.kind.PartKind.{PartKind}
use Rattle.schema_map.specs.Paths.{Path}
use Rattle.schema_map.specs.Image.{wide_columns}
use Rattle.table_history.specs.TypeTree.{ColumnTrees}
use Rattle.table_history.specs.declared.table.Commit.{Commit}
use Rattle.target_iceberg.specs.Fitting.{HasTypeChange, HeldState, IdSchema, IsFirstChange, IsFirstTypeChange, kinds_of, state_behind, stated_in}
use Rattle.target_iceberg.specs.Newest.{HeldShape, with_schemas}

-- These columns are of these kinds in the target's schema, and it has a commit where that is so.
pub record AreKindsOf (state : HeldState) (names : List (List ℕ)) (kinds : List (Option PartKind)) (published : Bool) : Type 0 where
  pub are : kinds_of state.schema names ≡ kinds
  pub commit : IsTrue published ↔ (0 < state.version)

-- No two of the schemas have one id, and each is less than their number.
pub record AreFirst (held : List IdSchema) : Type 0 where
  pub under : (schema : IdSchema) → Contains held schema → schema.0 <ℤ pos (length held)
  pub single : (schema other : IdSchema) → Contains held schema → Contains held other → schema.0 ≡ other.0 → schema ≡ other

-- These are the newest shapes of the schemas that the target holds, the current one of these, and their number.
pub record AreHeldBy (shapes : Path → Option HeldShape) (current : Option ColumnTrees) (count : ℤ) (state : HeldState) : Type 0 where
  pub newest : (path : Path) → shapes path ≡ with_schemas None state.held path
  pub current_is : current ≡ state.current
  pub count_is : count ≡ pos (length state.held)
  pub first : AreFirst state.held

-- The target's schema is the current one, in Iceberg's types, and changes no type.
pub record IsAtCurrent (state : HeldState) : Type 0 where
  pub current : state.current ≡ Some state.schema
  pub own : wide_columns state.schema ≡ state.schema
  pub none : (name : List ℕ) → ¬ IsFirstTypeChange state.held state.schema name

-- The target's schema is the table's before a first commit, and the current one behind a commit.
pub record IsReady (state : HeldState) (table : ColumnTrees) (first : Bool) : Type 0 where
  pub before : first ≡ true → state.schema ≡ table
  pub behind : first ≡ false → IsAtCurrent state

-- This is the schema after the commit in Iceberg's types. None is given where the commit states none and the one before is the current one.
abbrev pub IsImageAfter : HeldState → Commit → Option ColumnTrees → Type 0
IsImageAfter state commit None = (commit.change.schema ≡ None) × IsAtCurrent state
IsImageAfter state commit (Some image) = image ≡ wide_columns (stated_in state commit)

-- This is the column of the first path that the commit changes the type of. Where there is none, this is what the target holds behind the commit.
abbrev pub IsPassed : (Path → Option HeldShape) → Option ColumnTrees → ℤ → HeldState → Commit → Option (List ℕ) → Type 0
IsPassed shapes current count state commit None = ((name : List ℕ) → ¬ HasTypeChange state commit name) × AreHeldBy shapes current count (state_behind state commit)
IsPassed shapes current count state commit (Some name) = HasTypeChange state commit name

-- This is the column of the first of the commits that changes a type, if one does.
abbrev pub IsChangeOf : HeldState → List Commit → Option (List ℕ) → Type 0
IsChangeOf state commits None = (name : List ℕ) → ¬ IsFirstChange state commits name
IsChangeOf state commits (Some name) = IsFirstChange state commits name
