-- The change that a completed instant makes of a table.
use Rattle.std.specs.Prelude.{◌≡◌, ◌↔◌, ◌≢◌, ◌≤◌, ℕ, List, [], ◌∷◌, ◌++◌, length, Option, Some, None, Ok, Contains}
use Rattle.std.specs.List.{IsDistinct}
use Rattle.std.specs.Str.{bytes_eq}
use Rattle.table_history.specs.First.{NoneOf}
use Rattle.table_history.specs.History.{IsSoundTable}
use Rattle.table_history.specs.Path.{IsPath}
use Rattle.table_history.specs.Row.{Row}
use Rattle.table_history.specs.Rows.{HasDistinctPaths}
use Rattle.table_history.specs.Sound.{IsSound}
use Rattle.table_history.specs.Tables.{CanApply, IsAfter, IsDiff}
use Rattle.table_history.specs.declared.table.Change.{Change}
use Rattle.table_history.specs.declared.table.Table.{Table}
use Rattle.lake_basics.specs.declared.limits.TheConstants.{MAX_PARTITION_COLUMNS, MAX_LIVE_FILES}
use Rattle.table_history.specs.SchemaSize.{IsWithinLimits}
use Rattle.partition_map.specs.declared.kind.PartKind.{PartKind}
use Rattle.hudi_properties.specs.declared.table.HudiTable.{HudiTable}
use Rattle.hudi_timeline.specs.Causes.{IsMalformed, Shows, Passes, AreKinds, change_features, change_limits, table_before, rows_before}
use Rattle.hudi_timeline.specs.Live.{Completed, Timeline, IsLiveAfter, AreLive}
use Rattle.partition_map.specs.Columns.{column_kind}
use Rattle.hudi_timeline.specs.Schemas.{stated_schema}

-- Nothing speaks against the instant. The change has the schema that it states, and what differs between the rows before and those that are live after it.
pub record IsChangeOf (u : Completed) (table : HudiTable) (base : Option Table) (change : Change) : Type 0 where
  pub grammar : ¬ IsMalformed u
  pub features : NoneOf (Shows u table base) change_features
  pub numbers : NoneOf (Passes u table base) change_limits
  pub schema : stated_schema u.instant.schema ≡ Ok change.schema
  pub kinds : List PartKind
  pub are_kinds : AreKinds u table base kinds
  pub before_distinct : HasDistinctPaths (rows_before base)
  pub after : List Row
  pub distinct : HasDistinctPaths after
  pub live : (row : Row) → Contains after row ↔ IsLiveAfter table kinds u (rows_before base) row
  pub diff : IsDiff (rows_before base) after change.removed change.added

-- ---- what callers go on with

-- A table that instants may leave: its rows have distinct paths, each of them a path, and values of the kinds of the partition columns, and it passes no number.
pub record IsTableOf (table : HudiTable) (t : Table) : Type 0 where
  pub partition : t.partition ≡ table.partition
  pub partition_distinct : IsDistinct bytes_eq t.partition
  pub partition_kinds : (name : List ℕ) → Contains t.partition name → column_kind t.schema name ≢ None
  pub sound : IsSoundTable t
  pub paths : (row : Row) → Contains t.rows row → IsPath row.path
  pub partition_columns : length t.partition ≤ MAX_PARTITION_COLUMNS
  pub live_files : length t.rows ≤ MAX_LIVE_FILES
  pub schema : IsSound t.schema
  pub size : IsWithinLimits t.schema

-- The change fits the table before the instant. Where that one, if there is one, is a table that instants may leave, so is the table after.
pub record GoesOn (table : HudiTable) (base : Option Table) (change : Change) : Type 0 where
  pub fits : CanApply (table_before table base) change
  pub leaves : ((before : Table) → base ≡ Some before → IsTableOf table before) → (after : Table) → IsAfter (table_before table base) change after → IsTableOf table after

-- ---- a timeline

-- Where the rows before the instant are those that are live after a timeline, the rows that the change makes of them are those that are live after the same timeline with the instant behind it.
abbrev pub LeavesLive : Completed → HudiTable → Option Table → Change → Type 0
LeavesLive u table base change =
    (kinds : List PartKind) → AreKinds u table base kinds → (timeline : Timeline) → AreLive table kinds timeline (rows_before base)
    → (after : Table) → IsAfter (table_before table base) change after → AreLive table kinds (timeline ++ u ∷ []) after.rows

-- The table after the instants, each instant's change made in its turn.
abbrev pub LeadsThrough : HudiTable → Option Table → Timeline → Table → Type 0
LeadsThrough table base [] after = after ≡ table_before table base
LeadsThrough table base (u ∷ timeline) after = (change : Change) × (next : Table) × IsChangeOf u table base change × IsAfter (table_before table base) change next × LeadsThrough table (Some next) timeline after
