-- The steps of a change: what each part of the work gives, and what its refusal says.
use Rattle.std.specs.Prelude.{ℕ, ℤ, pos, negsuc, ◌==◌, ◌&&◌, ◌||◌, not, List, [], ◌∷◌, Bool, false, Option, Some, None, is_some, is_none, unwrap_or, Result, Ok, Err, codes, if◌then◌else◌}
use Rattle.std.specs.Cmp.Lexicographic.{pointwise}
use Rattle.std.specs.Borrow.{Bor}
use Rattle.std.specs.HashSet.{HashSet, contains_by}
use Rattle.std.specs.List.{list_any, list_all}
use Rattle.std.specs.Str.{bytes_eq}
use Rattle.avro_schema.specs.Names.{are_distinct}
use Rattle.lake_basics.specs.Outcome.{◌>>=◌, required, each}
use Rattle.table_history.specs.First.{NoneOf}
use Rattle.table_history.specs.History.{column_type}
use Rattle.table_history.specs.TypeTree.{ColumnTrees}
use Rattle.table_history.specs.declared.table.Table.{Table}
use Rattle.table_history.specs.declared.feature.Feature.{Feature}
use Rattle.table_history.specs.declared.feature.Feature.TheVariants.{ReaderVersion, ReaderFeature, ColumnMapping, SchemaType, PartitionType, PartitionChange}
use Rattle.partition_map.specs.Columns.{column_kind, has_other_kind}
use Rattle.partition_map.specs.declared.kind.PartKind.{PartKind}
use Rattle.schema_delta.specs.Delta.{delta_schema_of}
use Rattle.schema_map.specs.declared.fault.MapError.{MapError}
use Rattle.schema_map.specs.declared.fault.MapError.TheVariants as map_errors
use Rattle.delta_outline.specs.Outlines.{outline_of_text}
use Rattle.delta_outline.specs.declared.fault.OutlineFault.{OutlineFault}
use Rattle.delta_outline.specs.declared.outline.Outline.{Outline}
use Rattle.delta_change.specs.declared.columns.Columns.{Columns}
use Rattle.delta_log.specs.declared.commit.DeltaCommit.{DeltaCommit}
use Rattle.delta_log.specs.declared.commit.MetaData.{MetaData}
use Rattle.delta_log.specs.declared.commit.Protocol.{Protocol}
use Rattle.delta_log.specs.declared.error.DeltaError.{DeltaError}
use Rattle.delta_log.specs.declared.error.DeltaError.TheVariants as errors
use Rattle.delta_change.specs.Change.{IsOutsideGrammar, Shows}
use Rattle.delta_log.specs.Grammar.{lists_features}
use Rattle.delta_live.specs.Live.{PartColumns, ArePartColumns}
use Rattle.delta_change.specs.TableBehind.{schema_before, partition_behind, StatesSchema, IsSchemaBehind}

-- ---- what the protocol and the settings show

abbrev pub is_reader : ℤ → Bool
is_reader (pos version) = (version == 1) || ((version == 2) || (version == 3))
is_reader (negsuc n) = false

abbrev pub has_other_reader : Option Protocol → Bool
has_other_reader None = false
has_other_reader (Some p) = not (is_reader p.reader)

abbrev pub is_known : List ℕ → Bool
is_known name =
    bytes_eq name (codes "columnMapping") || (bytes_eq name (codes "deletionVectors") || (bytes_eq name (codes "timestampNtz") || (bytes_eq name (codes "v2Checkpoint") || bytes_eq name (codes "vacuumProtocolCheck"))))

abbrev pub is_unknown : List ℕ → Bool
is_unknown name = not (is_known name)

abbrev pub lists_unknown : Option (List (List ℕ)) → Bool
lists_unknown None = false
lists_unknown (Some names) = list_any is_unknown names

abbrev pub needs_other_feature : Option Protocol → Bool
needs_other_feature None = false
needs_other_feature (Some p) = lists_features p.reader && lists_unknown p.reader_features

abbrev pub is_mapping : List ℕ × List ℕ → Bool
is_mapping setting = bytes_eq setting.0 (codes "delta.columnMapping.mode") && not (bytes_eq setting.1 (codes "none"))

abbrev pub maps_columns : Option MetaData → Bool
maps_columns None = false
maps_columns (Some m) = list_any is_mapping m.configuration

abbrev pub first_feature : DeltaCommit → Option Feature
first_feature c =
    if has_other_reader c.protocol then Some ReaderVersion
    else (if needs_other_feature c.protocol then Some ReaderFeature
    else (if maps_columns c.meta then Some ColumnMapping else None))

abbrev pub unshown_by : Option Feature → Result (Unit {0}) DeltaError
unshown_by None = Ok tt
unshown_by (Some feature) = Err (errors.Unsupported feature 0)

abbrev pub unshown : DeltaCommit → Result (Unit {0}) DeltaError
unshown c = unshown_by (first_feature c)

-- ---- the schema

abbrev pub is_column : ColumnTrees → List ℕ → Bool
is_column schema name = is_some (column_type schema name)

-- whether a set of names has this one
abbrev pub has_name : {S : Type 0} → HashSet (Bor (List ℕ)) S → List ℕ → Bool
has_name names name = contains_by (λ key. bytes_eq name key.now) names

abbrev pub with_columns : MetaData → ColumnTrees → Result ColumnTrees DeltaError
with_columns m schema = if list_all (is_column schema) m.partition then Ok schema else Err (errors.Malformed 0)

-- whether a list of names has this one
abbrev pub is_named : List (List ℕ) → List ℕ → Bool
is_named names name = list_any (bytes_eq name) names

-- what is told of a text in the grammar that gives no schema: a type that isn't in the table of types before any number
abbrev pub told_by : DeltaError → Outline → DeltaError
told_by told o = if o.has_other then errors.Unsupported SchemaType 0 else told

abbrev pub outlined_by : MetaData → DeltaError → Result Outline OutlineFault → Result DeltaError DeltaError
outlined_by m told (Ok o) = if list_all (is_named o.names) m.partition then Ok (told_by told o) else Err (errors.Malformed 0)
outlined_by m told (Err f) = Err (errors.Malformed 0)

-- what is told later of such a text, where that isn't for its grammar
abbrev pub outlined : MetaData → DeltaError → Result DeltaError DeltaError
outlined m told = outlined_by m told (outline_of_text m.schema)

-- what a reading of the schema's text comes to: a schema, or what is told later
abbrev pub judged : MetaData → Result ColumnTrees MapError → Result (Result ColumnTrees DeltaError) DeltaError
judged m (Ok schema) = with_columns m schema >>= λ s. Ok (Ok s)
judged m (Err map_errors.BadSchema) = Err (errors.Malformed 0)
judged m (Err (map_errors.SchemaType column)) = outlined m (errors.Unsupported SchemaType 0) >>= λ e. Ok (Err e)
judged m (Err (map_errors.Limit which)) = outlined m (errors.Limit which) >>= λ e. Ok (Err e)
judged m (Err _) = Err errors.Memory

abbrev pub judged_schema : MetaData → Result (Result ColumnTrees DeltaError) DeltaError
judged_schema m = judged m (delta_schema_of m.schema)

-- ---- partition columns

-- a partition column of this kind, which it must have
abbrev pub kind_named : List ℕ → Option PartKind → Result (List ℕ × PartKind) DeltaError
kind_named name kind = required (errors.Unsupported PartitionType 0) kind >>= λ k. Ok (name, k)

-- a partition column with its kind
abbrev pub part_column : ColumnTrees → List ℕ → Result (List ℕ × PartKind) DeltaError
part_column schema name = kind_named name (column_kind schema name)

abbrev pub judged_columns : ColumnTrees → List (List ℕ) → Result PartColumns DeltaError
judged_columns schema names = if are_distinct names then each (part_column schema) names else Err (errors.Unsupported PartitionType 0)

abbrev pub changes_partition : Table → MetaData → ColumnTrees → Bool
changes_partition t m schema = not (pointwise bytes_eq m.partition t.partition) || has_other_kind t.schema schema m.partition

abbrev pub changes_base : Option Table → MetaData → ColumnTrees → Bool
changes_base None m schema = false
changes_base (Some t) m schema = changes_partition t m schema

abbrev pub unchanged : Option Table → MetaData → ColumnTrees → Result (Unit {0}) DeltaError
unchanged base m schema = if changes_base base m schema then Err (errors.Unsupported PartitionChange 0) else Ok tt

-- ---- the columns behind a commit

-- the stated schema, and the partition columns
abbrev pub ColumnsBehind : Type 0
ColumnsBehind = Option ColumnTrees × PartColumns

abbrev pub columns_view : Columns → ColumnsBehind
columns_view r = (r.stated, r.columns)

unfoldable pub stated_columns : DeltaCommit → MetaData → Option Table → Result ColumnsBehind DeltaError
stated_columns c m base = do
  read ← judged_schema m
  first ← unshown c
  schema ← read
  columns ← judged_columns schema m.partition
  same ← unchanged base m schema
  Ok (Some schema, columns)

unfoldable pub kept_columns : DeltaCommit → Table → Result ColumnsBehind DeltaError
kept_columns c t = do
  first ← unshown c
  columns ← judged_columns t.schema t.partition
  Ok (None, columns)

abbrev pub lacks_first_actions : DeltaCommit → Option Table → Bool
lacks_first_actions c base = is_none base && (is_none c.protocol || is_none c.meta)

abbrev pub columns_by : DeltaCommit → Option MetaData → Option Table → Result ColumnsBehind DeltaError
columns_by c (Some m) base = stated_columns c m base
columns_by c None (Some t) = kept_columns c t
columns_by c None None = Err (errors.Malformed 0)

abbrev pub columns_of : DeltaCommit → Option Table → Result ColumnsBehind DeltaError
columns_of c base = if lacks_first_actions c base then Err (errors.Malformed 0) else columns_by c c.meta base

-- the features that are told before those of values
abbrev pub column_features : List Feature
column_features = ReaderVersion ∷ ReaderFeature ∷ ColumnMapping ∷ SchemaType ∷ PartitionType ∷ PartitionChange ∷ []

-- What the commit says of the table's columns can be read, and shows no feature.
pub record AreColumnsBehind (c : DeltaCommit) (base : Option Table) (schema : Option ColumnTrees) (columns : PartColumns) : Type 0 where
  pub grammar : ¬ IsOutsideGrammar c base
  pub supported : NoneOf (Shows c base) column_features
  pub stated : StatesSchema c.meta schema
  pub behind : IsSchemaBehind c.meta base (unwrap_or schema (schema_before base))
  pub kinds : ArePartColumns (unwrap_or schema (schema_before base)) (partition_behind c.meta base) columns
