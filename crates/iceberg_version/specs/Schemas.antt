-- The schemas that a new version holds, and its partition spec (Iceberg specification, "Schema Evolution", "Partition Specs").
use Rattle.std.specs.Prelude.{◌≡◌, ◌⊎◌, ℕ, ◌+◌, ℤ, pos, List, [], ◌∷◌, ◌++◌, length, fold, Some, Ok, codes}
use Rattle.std.specs.Int.{int_max}
use Rattle.std.specs.List.{flat_map}
use Rattle.schema_map.specs.Paths.{column_paths, known_id}
use Rattle.iceberg_field_ids.specs.Ids.{PassesGreatest, ids_for}
use Rattle.schema_map.specs.Image.{wide_columns}
use Rattle.schema_map.specs.declared.fault.MapError.{MapError}
use Rattle.schema_map.specs.declared.fault.MapError.TheVariants as map_errors
use Rattle.table_history.specs.TypeTree.{ColumnTrees}
use Rattle.iceberg_metadata.specs.Paths.{PathId, current_schema, path_ids}
use Rattle.iceberg_metadata.specs.Schemas.{HeldSchema}
use Rattle.iceberg_metadata.specs.declared.metadata.Metadata.{Metadata}
use Rattle.iceberg_metadata.specs.declared.metadata.SpecField.{SpecField}
use Rattle.lake_basics.specs.declared.limits.TheConstants.{MAX_ICEBERG_VERSION}
use Rattle.table_history.specs.declared.limit.LimitKind.TheVariants.{Versions}
use Rattle.target_core.specs.declared.target.TargetError.{TargetError}
use Rattle.target_core.specs.declared.target.TargetError.TheVariants.{Memory, Limit}

-- the held schemas, the current one, and the last field id that was given
pub record Schemas : Type 0 where
  pub held : List HeldSchema
  pub current : HeldSchema
  pub last_id : ℤ

-- the field ids that the column paths of the held schemas have
abbrev pub known_ids : Metadata → List PathId
known_ids m = flat_map path_ids m.schemas

-- The current schema is the Image of this one in Iceberg's types.
pub record IsCurrent (m : Metadata) (stated : ColumnTrees) (current : HeldSchema) : Type 0 where
  pub held : current_schema m ≡ Some current
  pub columns : current.1 ≡ wide_columns stated

-- The Image of this schema is held behind the others. Its id is the next one. A column path that a held schema has keeps its field id for good, and
-- each other one takes the next.
pub record AddsSchema (m : Metadata) (stated : ColumnTrees) (next : Schemas) : Type 0 where
  pub ids : List ℤ
  pub are : ids_for (known_ids m) m.last_column_id (column_paths stated) ≡ Ok ids
  pub current : next.current ≡ (pos (length m.schemas), wide_columns stated, ids)
  pub held : next.held ≡ m.schemas ++ next.current ∷ []
  pub last_id : next.last_id ≡ fold int_max m.last_column_id ids

-- The held schemas stay.
pub record KeepsSchemas (m : Metadata) (stated : ColumnTrees) (next : Schemas) : Type 0 where
  pub current : IsCurrent m stated next.current
  pub held : next.held ≡ m.schemas
  pub last_id : next.last_id ≡ m.last_column_id

-- the schemas behind a commit after which the table has this schema: one is added only where its Image isn't the current one
abbrev pub AreNextSchemas : Metadata → ColumnTrees → Schemas → Type 0
AreNextSchemas m stated next = KeepsSchemas m stated next ⊎ (((current : HeldSchema) → IsCurrent m stated current → ⊥) × AddsSchema m stated next)

-- the metadata with these schemas
abbrev pub with_schemas : Metadata → Schemas → Metadata
with_schemas m next = record m { schemas = next.held; current_schema = next.current.0; last_column_id = next.last_id }

-- what a target answers where a schema's column paths get no field ids
abbrev pub error_of_ids : MapError → TargetError
error_of_ids (map_errors.Limit which) = Limit Versions MAX_ICEBERG_VERSION
error_of_ids _ = Memory

-- No schema is added where a new field id would pass the greatest. Memory may run out instead.
abbrev pub IsSchemaRefusal : Metadata → ColumnTrees → TargetError → Type 0
IsSchemaRefusal m stated Memory = Unit {0}
IsSchemaRefusal m stated (Limit which number) = (which ≡ Versions) × (number ≡ MAX_ICEBERG_VERSION) × PassesGreatest (known_ids m) m.last_column_id (column_paths stated)
IsSchemaRefusal m stated _ = ⊥

-- ---- the partition spec

-- the field of this id, of the top-level column of this name: the identity of its values
pub record IsSpecField (ids : List PathId) (k : ℕ) (name : List ℕ) (f : SpecField) : Type 0 where
  pub field_id : f.field_id ≡ pos k
  pub source : known_id ids (name ∷ []) ≡ Some f.source_id
  pub name_is : f.name ≡ name
  pub transform : f.transform ≡ codes "identity"

-- the fields of the spec of these partition columns, whose ids are those from k on
abbrev pub AreSpecFields : HeldSchema → ℕ → List (List ℕ) → List SpecField → Type 0
AreSpecFields schema k [] [] = Unit {0}
AreSpecFields schema k (name ∷ names) (f ∷ fields) = IsSpecField (path_ids schema) k name f × AreSpecFields schema (k + 1) names fields
AreSpecFields schema k _ _ = ⊥

-- the id of the first partition field
abbrev pub FIRST_PARTITION_ID : ℕ
FIRST_PARTITION_ID = 1000
