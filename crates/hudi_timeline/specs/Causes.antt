-- What speaks against the change that a completed instant is to make of a table: that it isn't in its grammar, a feature that it shows, or a number that it passes.
use Rattle.std.specs.Prelude.{◌≡◌, ◌⊎◌, ◌<◌, ℕ, List, [], ◌∷◌, length, true, Option, Some, None, Ok, Err, Contains}
use Rattle.table_history.specs.First.{IsFirst, NoneOf}
use Rattle.table_history.specs.Row.{Row}
use Rattle.table_history.specs.Rows.{HasDistinctPaths}
use Rattle.table_history.specs.Tables.{empty_table}
use Rattle.table_history.specs.TypeTree.{ColumnTrees}
use Rattle.table_history.specs.declared.feature.Feature.{Feature}
use Rattle.table_history.specs.declared.feature.Feature.TheVariants as feature
use Rattle.table_history.specs.declared.limit.LimitKind.{LimitKind}
use Rattle.table_history.specs.declared.limit.LimitKind.TheVariants as limit
use Rattle.table_history.specs.declared.table.Table.{Table}
use Rattle.lake_basics.specs.declared.limits.TheConstants.{MAX_COLUMNS, MAX_PARTITION_COLUMNS, MAX_PATH_BYTES, MAX_LIVE_FILES}
use Rattle.table_history.specs.SchemaSize.{column_count, column_levels, max_type_levels}
use Rattle.schema_map.specs.declared.fault.MapError.TheVariants as map_errors
use Rattle.partition_map.specs.declared.kind.PartKind.{PartKind}
use Rattle.hudi_names.specs.declared.error.HudiError.{HudiError}
use Rattle.hudi_names.specs.declared.error.HudiError.TheVariants as errors
use Rattle.hudi_instant.specs.declared.instant.Stat.{Stat}
use Rattle.hudi_properties.specs.declared.table.HudiTable.{HudiTable}
use Rattle.hudi_names.specs.Errors.{malformed}
use Rattle.hudi_groups.specs.Files.{suffix_of, without_end}
use Rattle.hudi_files.specs.Stats.{bare_row, is_external, has_other_id, is_other_file}
use Rattle.hudi_timeline.specs.Live.{Completed, IsLiveAfter}
use Rattle.partition_map.specs.Columns.{LacksKinds, HasOtherKind}
use Rattle.hudi_timeline.specs.Schemas.{stated_schema, schema_after, AreKindsOf}
use Rattle.hudi_files.specs.Values.{style_of, value_parts, SpellsNoValues}

-- ---- what the instant holds

-- A write stat of the instant is such.
abbrev pub HasStat : Completed → (Stat → Type 0) → Type 0
HasStat u Is = (s : Stat) × Contains u.instant.stats s × Is s

-- the path of a stat's file
abbrev pub path_of : Completed → Stat → List ℕ
path_of u s = without_end (suffix_of u.form) s.path

-- the schema after the instant
abbrev pub IsInForce : Completed → Option Table → ColumnTrees → Type 0
IsInForce u base schema = schema_after (stated_schema u.instant.schema) base ≡ Some schema

-- the kinds of the partition columns after the instant
pub record AreKinds (u : Completed) (table : HudiTable) (base : Option Table) (kinds : List PartKind) : Type 0 where
  pub schema : ColumnTrees
  pub in_force : IsInForce u base schema
  pub are : AreKindsOf schema table.partition kinds

-- the table before the instant; before the first one it has no column and no row
abbrev pub table_before : HudiTable → Option Table → Table
table_before table None = empty_table table.partition
table_before table (Some before) = before

abbrev pub rows_before : Option Table → List Row
rows_before None = []
rows_before (Some before) = before.rows

-- ---- the grammar

-- The text of the schema is none, or a write stat names no file of the table.
abbrev pub IsMalformed : Completed → Type 0
IsMalformed u = (stated_schema u.instant.schema ≡ Err map_errors.BadSchema) ⊎ HasStat u (λ s. bare_row (suffix_of u.form) s ≡ Err malformed)

-- ---- features

-- When the instant shows a feature. Of a table before the first instant there is no base.
abbrev pub Shows : Completed → HudiTable → Option Table → Feature → Type 0
Shows u table base feature.NoSchema = (stated_schema u.instant.schema ≡ Ok None) × (base ≡ None)
Shows u table base feature.SchemaType = (column : List ℕ) × (stated_schema u.instant.schema ≡ Err (map_errors.SchemaType column))
Shows u table base feature.PartitionType = (schema : ColumnTrees) × IsInForce u base schema × LacksKinds schema table.partition
Shows u table base feature.PartitionChange = (schema : ColumnTrees) × IsInForce u base schema × (before : Table) × (base ≡ Some before) × HasOtherKind before.schema schema table.partition
Shows u table base feature.ExternalFile = HasStat u (λ s. is_external u.form s ≡ true)
Shows u table base feature.FileId = HasStat u (λ s. has_other_id u.form (suffix_of u.form) s ≡ true)
Shows u table base feature.FileFormat = HasStat u (λ s. is_other_file u.form s ≡ true)
Shows u table base feature.PartitionPath = HasStat u (λ s. value_parts (style_of table) table.partition (path_of u s) ≡ None)
Shows u table base feature.PartitionValue = (kinds : List PartKind) × AreKinds u table base kinds × HasStat u (λ s. SpellsNoValues (style_of table) table.partition kinds (path_of u s))
Shows u table base _ = ⊥

-- the order in which they are told
abbrev pub change_features : List Feature
change_features = feature.NoSchema ∷ feature.SchemaType ∷ feature.PartitionType ∷ feature.PartitionChange ∷ feature.ExternalFile ∷ feature.FileId ∷ feature.FileFormat ∷ feature.PartitionPath ∷ feature.PartitionValue ∷ []

-- ---- numbers

-- When a number is passed. Live rows are those after the instant.
abbrev pub Passes : Completed → HudiTable → Option Table → LimitKind → Type 0
Passes u table base limit.Columns = (schema : ColumnTrees) × IsInForce u base schema × (MAX_COLUMNS < column_count schema)
Passes u table base limit.Depth = (schema : ColumnTrees) × IsInForce u base schema × (max_type_levels < column_levels schema)
Passes u table base limit.PartitionColumns = MAX_PARTITION_COLUMNS < length table.partition
Passes u table base limit.Path = HasStat u (λ s. MAX_PATH_BYTES < length (path_of u s))
Passes u table base limit.LiveFiles =
    (kinds : List PartKind) × AreKinds u table base kinds × (rows : List Row) × HasDistinctPaths rows × ((row : Row) → Contains rows row → IsLiveAfter table kinds u (rows_before base) row) × (MAX_LIVE_FILES < length rows)
Passes u table base _ = ⊥

-- the order in which they are told
abbrev pub change_limits : List LimitKind
change_limits = limit.Columns ∷ limit.Depth ∷ limit.PartitionColumns ∷ limit.Path ∷ limit.LiveFiles ∷ []

-- ---- refusals

-- The refusal is for want of memory, or it has its cause, and no cause that goes before it holds: the grammar goes first, then the features in their order, then the numbers in theirs.
abbrev pub IsRefusalOf : Completed → HudiTable → Option Table → HudiError → Type 0
IsRefusalOf u table base errors.Memory = Unit {0}
IsRefusalOf u table base (errors.Malformed line) = (line ≡ 0) × IsMalformed u
IsRefusalOf u table base (errors.Unsupported feature) = (¬ IsMalformed u) × IsFirst (Shows u table base) change_features feature
IsRefusalOf u table base (errors.Limit which) = (¬ IsMalformed u) × NoneOf (Shows u table base) change_features × IsFirst (Passes u table base) change_limits which
