-- The change that a commit makes of a table, and why a commit can't be taken over a table.
use Rattle.std.specs.Prelude.{◌≡◌, ◌≢◌, ◌↔◌, ◌⊎◌, ℕ, ◌<◌, ◌≤◌, pos, List, [], ◌∷◌, ◌++◌, length, codes, Contains, Option, Some, None, unwrap_or, Err}
use Rattle.std.specs.List.{IsDistinct}
use Rattle.std.specs.Str.{bytes_eq}
use Rattle.serde_json.specs.Data.{Data, Items}
use Rattle.json_reading.specs.Json.{json, list_member}
use Rattle.lake_basics.specs.declared.limits.TheConstants.{MAX_LIVE_FILES, MAX_PARTITION_COLUMNS}
use Rattle.table_history.specs.First.{IsFirst, NoneOf}
use Rattle.table_history.specs.History.{IsSoundTable}
use Rattle.table_history.specs.Path.{IsPath}
use Rattle.table_history.specs.Row.{Row}
use Rattle.table_history.specs.SchemaSize.{IsWithinLimits}
use Rattle.table_history.specs.Sound.{IsSound}
use Rattle.table_history.specs.Tables.{CanApply, IsAfter, IsDiff, IsRowAfter, LeadsTo}
use Rattle.table_history.specs.TypeTree.{ColumnTrees}
use Rattle.table_history.specs.declared.feature.Feature.{Feature}
use Rattle.table_history.specs.declared.feature.Feature.TheVariants.{ReaderVersion, ReaderFeature, ColumnMapping, SchemaType, PartitionType, PartitionChange, PartitionValue}
use Rattle.table_history.specs.declared.limit.LimitKind.{LimitKind}
use Rattle.table_history.specs.declared.limit.LimitKind.TheVariants.{LiveFiles, PartitionColumns}
use Rattle.table_history.specs.declared.table.Change.{Change}
use Rattle.table_history.specs.declared.table.Table.{Table}
use Rattle.partition_map.specs.Columns.{column_kind, LacksKinds, HasOtherKind}
use Rattle.partition_map.specs.declared.kind.PartKind.{PartKind}
use Rattle.schema_delta.specs.Delta.{delta_schema_of}
use Rattle.schema_delta.specs.DeltaRefusal.{IsDeltaRefused}
use Rattle.schema_delta.specs.DeltaSpelling.{IsDeltaText}
use Rattle.schema_map.specs.Places.{field_names}
use Rattle.schema_map.specs.declared.fault.MapError.TheVariants as map_errors
use Rattle.delta_log.specs.declared.commit.DeltaCommit.{DeltaCommit}
use Rattle.delta_log.specs.declared.commit.FileAction.{FileAction}
use Rattle.delta_log.specs.declared.commit.MetaData.{MetaData}
use Rattle.delta_log.specs.declared.commit.Protocol.{Protocol}
use Rattle.delta_log.specs.declared.error.DeltaError.{DeltaError}
use Rattle.delta_log.specs.declared.error.DeltaError.TheVariants as errors
use Rattle.delta_live.specs.Differences.{Difference, IsUnorderedDiff}
use Rattle.delta_live.specs.Live.{PartColumns, IsLiveOver, AreRowsBehind, SpellsNoValue, ArePartColumns}
use Rattle.delta_change.specs.TableBehind.{rows_before, schema_before, partition_behind, table_before, Spells, StatesSchema, IsSchemaBehind}

-- ---- the grammar of a commit as a whole

-- The first commit lacks the protocol or the metadata.
abbrev pub LacksFirstActions : DeltaCommit → Option Table → Type 0
LacksFirstActions c base = (base ≡ None) × ((c.protocol ≡ None) ⊎ (c.meta ≡ None))

-- The text of the schema isn't in the grammar.
abbrev pub HasBadSchema : DeltaCommit → Type 0
HasBadSchema c = (m : MetaData) × (c.meta ≡ Some m) × IsDeltaRefused m.schema map_errors.BadSchema

-- The text is JSON with a list of fields, none of which has this name.
abbrev pub LacksField : List ℕ → List ℕ → Type 0
LacksField text name = (d : Data) × (fields : Items) × (json text ≡ Some d) × (list_member (codes "fields") d ≡ Some fields) × ¬ Contains (field_names fields) name

-- A partition column isn't a top-level column of the schema beside it, whatever its types and however large it is.
abbrev pub HasStrayColumn : DeltaCommit → Type 0
HasStrayColumn c = (m : MetaData) × (name : List ℕ) × (c.meta ≡ Some m) × Contains m.partition name × LacksField m.schema name

abbrev pub IsOutsideGrammar : DeltaCommit → Option Table → Type 0
IsOutsideGrammar c base = LacksFirstActions c base ⊎ (HasBadSchema c ⊎ HasStrayColumn c)

-- ---- features of a commit as a whole

abbrev pub HasOtherReader : DeltaCommit → Type 0
HasOtherReader c = (p : Protocol) × (c.protocol ≡ Some p) × (p.reader ≢ pos 1) × (p.reader ≢ pos 2) × (p.reader ≢ pos 3)

-- the reader features that this reader knows
abbrev pub known_features : List (List ℕ)
known_features = codes "columnMapping" ∷ codes "deletionVectors" ∷ codes "timestampNtz" ∷ codes "v2Checkpoint" ∷ codes "vacuumProtocolCheck" ∷ []

-- Reader version 3 lists a feature that isn't known.
abbrev pub NeedsOtherFeature : DeltaCommit → Type 0
NeedsOtherFeature c = (p : Protocol) × (names : List (List ℕ)) × (name : List ℕ) × (c.protocol ≡ Some p) × (p.reader ≡ pos 3) × (p.reader_features ≡ Some names) × Contains names name × ¬ Contains known_features name

-- The columns of the files have other names than those of the table, or ids.
abbrev pub MapsColumns : DeltaCommit → Type 0
MapsColumns c = (m : MetaData) × (mode : List ℕ) × (c.meta ≡ Some m) × Contains m.configuration (codes "delta.columnMapping.mode", mode) × (mode ≢ codes "none")

-- The top-level column of some name has a place of a type that isn't in the table of types.
abbrev pub HasOtherType : DeltaCommit → Type 0
HasOtherType c = (m : MetaData) × (name : List ℕ) × (c.meta ≡ Some m) × IsDeltaRefused m.schema (map_errors.SchemaType name)

-- A partition column is named twice, or has no kind.
abbrev pub HasOtherPartition : DeltaCommit → Option Table → Type 0
HasOtherPartition c base = (schema : ColumnTrees) × IsSchemaBehind c.meta base schema × LacksKinds schema (partition_behind c.meta base)

-- The metadata has other partition columns than the table before, or in another order, or it gives one another kind.
abbrev pub ChangesPartition : DeltaCommit → Option Table → Type 0
ChangesPartition c base =
    (t : Table) × (m : MetaData) × (schema : ColumnTrees) × (base ≡ Some t) × (c.meta ≡ Some m) × Spells m schema
    × ((m.partition ≢ t.partition) ⊎ HasOtherKind t.schema schema m.partition)

abbrev pub HasOtherValue : DeltaCommit → Option Table → Type 0
HasOtherValue c base =
    (schema : ColumnTrees) × (columns : PartColumns) × IsSchemaBehind c.meta base schema × ArePartColumns schema (partition_behind c.meta base) columns
    × (f : FileAction) × (column : List ℕ × PartKind) × Contains c.files f × Contains columns column × SpellsNoValue column f

-- The commit over this table shows the feature.
abbrev pub Shows : DeltaCommit → Option Table → Feature → Type 0
Shows c base ReaderVersion = HasOtherReader c
Shows c base ReaderFeature = NeedsOtherFeature c
Shows c base ColumnMapping = MapsColumns c
Shows c base SchemaType = HasOtherType c
Shows c base PartitionType = HasOtherPartition c base
Shows c base PartitionChange = ChangesPartition c base
Shows c base PartitionValue = HasOtherValue c base
Shows c base _ = ⊥

-- the features that a commit may show as a whole, in the order in which they are told
abbrev pub commit_features : List Feature
commit_features = ReaderVersion ∷ ReaderFeature ∷ ColumnMapping ∷ SchemaType ∷ PartitionType ∷ PartitionChange ∷ PartitionValue ∷ []

-- ---- limits

-- The schema has too many columns or levels, and its reading ends there.
abbrev pub HasLargeSchema : DeltaCommit → LimitKind → Type 0
HasLargeSchema c which =
    (m : MetaData) × (c.meta ≡ Some m) × (delta_schema_of m.schema ≡ Err (map_errors.Limit which)) × IsDeltaRefused m.schema (map_errors.Limit which)

abbrev pub HasManyFiles : DeltaCommit → Option Table → Type 0
HasManyFiles c base =
    (schema : ColumnTrees) × (columns : PartColumns) × (behind : List Row)
    × IsSchemaBehind c.meta base schema × ArePartColumns schema (partition_behind c.meta base) columns
    × AreRowsBehind columns (rows_before base) c behind × (MAX_LIVE_FILES < length behind)

-- The table behind the commit passes this number.
abbrev pub Passes : DeltaCommit → Option Table → LimitKind → Type 0
Passes c base PartitionColumns = MAX_PARTITION_COLUMNS < length (partition_behind c.meta base)
Passes c base LiveFiles = HasManyFiles c base
Passes c base _ = ⊥

abbrev pub commit_limits : List LimitKind
commit_limits = PartitionColumns ∷ LiveFiles ∷ []

-- ---- the change

-- The commit can be taken over the table: it is in the grammar, shows no feature that isn't supported, and passes no number.
pub record CanFollow (c : DeltaCommit) (base : Option Table) : Type 0 where
  pub grammar : ¬ IsOutsideGrammar c base
  pub supported : NoneOf (Shows c base) commit_features
  pub schema : (which : LimitKind) → ¬ HasLargeSchema c which
  pub within : NoneOf (Passes c base) commit_limits

-- A change of the table before, with the schema that the commit states, where `Diff` says what its parts have to do with the rows before the commit and those behind it.
pub record IsChangeBy (Diff : Difference) (c : DeltaCommit) (base : Option Table) (change : Change) : Type 0 where
  pub stated : StatesSchema c.meta change.schema
  pub columns : PartColumns
  pub kinds : ArePartColumns (unwrap_or change.schema (schema_before base)) (partition_behind c.meta base) columns
  pub behind : List Row
  pub rows : AreRowsBehind columns (rows_before base) c behind
  pub diff : Diff (rows_before base) behind change.removed change.added
  pub leads : LeadsTo (rows_before base) change.removed change.added behind
  pub few : length behind ≤ MAX_LIVE_FILES
  pub few_columns : length (partition_behind c.meta base) ≤ MAX_PARTITION_COLUMNS

-- The change is what differs between the rows before the commit and those behind it, with the schema that the commit states.
abbrev pub IsChangeOf : DeltaCommit → Option Table → Change → Type 0
IsChangeOf c base change = IsChangeBy IsDiff c base change

-- the same in whatever order
abbrev pub IsUnorderedChangeOf : DeltaCommit → Option Table → Change → Type 0
IsUnorderedChangeOf c base change = IsChangeBy IsUnorderedDiff c base change

-- The change leads live rows on: where those before are the rows that are live by some commits over an origin, those after it are the rows that are live by the same commits and this one behind them.
abbrev pub LeadsLive : DeltaCommit → Option Table → Change → Type 0
LeadsLive c base change =
    (columns : PartColumns) (origin : List Row) (commits : List DeltaCommit) → ArePartColumns (unwrap_or change.schema (schema_before base)) (partition_behind c.meta base) columns
    → ((row : Row) → Contains (rows_before base) row ↔ IsLiveOver columns origin commits row)
    → (row : Row) → IsRowAfter (rows_before base) change.removed change.added row ↔ IsLiveOver columns origin (commits ++ c ∷ []) row

-- ---- what callers go on with

-- a schema that a table may have: its names and types are sound, and it passes no number
abbrev pub IsTableSchema : ColumnTrees → Type 0
IsTableSchema schema = IsSound schema × IsWithinLimits schema

-- The commit's metadata has a text that spells the schema, which is within the limits.
abbrev pub IsStatedBy : DeltaCommit → ColumnTrees → Type 0
IsStatedBy c schema = (m : MetaData) × (c.meta ≡ Some m) × IsDeltaText schema m.schema × IsWithinLimits schema

-- A table that commits may leave: its rows have distinct paths, each of them a path, and values of the kinds of the partition columns, and it passes no number.
pub record IsTableOfLog (t : Table) : Type 0 where
  pub partition_distinct : IsDistinct bytes_eq t.partition
  pub partition_kinds : (name : List ℕ) → Contains t.partition name → column_kind t.schema name ≢ None
  pub sound : IsSoundTable t
  pub paths : (row : Row) → Contains t.rows row → IsPath row.path
  pub partition_columns : length t.partition ≤ MAX_PARTITION_COLUMNS
  pub live_files : length t.rows ≤ MAX_LIVE_FILES
  pub schema : IsSound t.schema
  pub size : IsWithinLimits t.schema

-- The change fits the table before the commit. Where that one, if there is one, is a table that commits may leave, so is the table after.
pub record GoesOn (c : DeltaCommit) (base : Option Table) (change : Change) : Type 0 where
  pub fits : CanApply (table_before c base) change
  pub leaves : ((before : Table) → base ≡ Some before → IsTableOfLog before) → (after : Table) → IsAfter (table_before c base) change after → IsTableOfLog after

-- ---- refusals

-- Memory ran out, or the commit as a whole has the fault, and none that is told before it.
abbrev pub IsChangeRefusal : DeltaCommit → Option Table → DeltaError → Type 0
IsChangeRefusal c base errors.Memory = Unit {0}
IsChangeRefusal c base (errors.Malformed line) = (line ≡ 0) × IsOutsideGrammar c base
IsChangeRefusal c base (errors.DoublePath line) = ⊥
IsChangeRefusal c base (errors.Unsupported feature line) = (line ≡ 0) × (¬ IsOutsideGrammar c base) × IsFirst (Shows c base) commit_features feature
IsChangeRefusal c base (errors.Limit which) = (¬ IsOutsideGrammar c base) × NoneOf (Shows c base) commit_features × (HasLargeSchema c which ⊎ (((w : LimitKind) → ¬ HasLargeSchema c w) × IsFirst (Passes c base) commit_limits which))

-- ---- commits one after another

-- Each commit makes a change of the table that the one before it left, with these partition columns.
abbrev pub LeadTo : PartColumns → Option Table → List DeltaCommit → Option Table → Type 0
LeadTo columns base [] last = base ≡ last
LeadTo columns base (c ∷ commits) last =
    (change : Change) × (next : Table) × (is : IsChangeOf c base change) × (is.columns ≡ columns) × IsAfter (table_before c base) change next × LeadTo columns (Some next) commits last

-- The table after the commits, each commit's change made in its turn. None of them shows a feature over the table that the one before it left.
abbrev pub LeadsThrough : Option Table → List DeltaCommit → Option Table → Type 0
LeadsThrough base [] last = base ≡ last
LeadsThrough base (c ∷ commits) last =
    (change : Change) × (next : Table) × IsChangeOf c base change × NoneOf (Shows c base) commit_features × IsAfter (table_before c base) change next × LeadsThrough (Some next) commits last
