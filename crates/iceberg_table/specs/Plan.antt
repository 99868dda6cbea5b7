-- What a table's metadata says of a snapshot (Iceberg specification, "Snapshots").
use Rattle.std.specs.Prelude.{◌≡◌, ◌≤◌, ℕ, List, length, map, Contains, Some, Result, Ok, Err}
use Rattle.std.specs.List.{IsDistinct}
use Rattle.std.specs.Str.{bytes_eq}
use Rattle.lake_basics.specs.Outcome.{◌>>=◌, required}
use Rattle.lake_basics.specs.declared.limits.TheConstants.{MAX_PARTITION_COLUMNS}
use Rattle.lake_basics.specs.declared.outcome.ReadError.TheVariants as read
use Rattle.table_history.specs.declared.feature.Feature.TheVariants as feature
use Rattle.partition_map.specs.Columns.{column_kind}
use Rattle.table_history.specs.SchemaSize.{IsWithinLimits}
use Rattle.table_history.specs.Sound.{IsSound}
use Rattle.iceberg_live.specs.MetadataPaths.{IsMetadataPath, HasPathFault}
use Rattle.iceberg_manifest.specs.declared.error.ManifestError.{ManifestError}
use Rattle.iceberg_manifest.specs.declared.partition.PartColumn.{PartColumn}
use Rattle.iceberg_metadata.specs.Paths.{held_schema}
use Rattle.iceberg_metadata.specs.Schemas.{HeldSchema}
use Rattle.iceberg_columns.specs.SourceColumns.{columns_of}
use Rattle.iceberg_columns.specs.declared.columns.SourceColumn.{SourceColumn}
use Rattle.iceberg_metadata.specs.declared.error.MetadataError.{MetadataError}
use Rattle.iceberg_metadata.specs.declared.metadata.Metadata.{Metadata}
use Rattle.iceberg_metadata.specs.declared.metadata.Snapshot.{Snapshot}
use Rattle.iceberg_table.specs.Errors.{manifest_fault, metadata_fault}
use Rattle.iceberg_table.specs.Order.{Stops}
use Rattle.iceberg_table.specs.declared.error.Fault.{Fault}
use Rattle.iceberg_table.specs.declared.error.Fault.TheVariants as fault
use Rattle.iceberg_table.specs.declared.plan.Plan.{Plan}

-- The schema that the snapshot names. A snapshot that names none isn't supported.
abbrev pub snapshot_schema : Metadata → Snapshot → Result HeldSchema Fault
snapshot_schema m s = required (fault.Unsupported feature.NoSchemaId) s.schema_id >>= λ id. required fault.Malformed (held_schema m.schemas id)

-- The snapshot's manifest list lies in the table's folder of metadata, and its schema has the columns of the default spec.
pub record IsPlanOf (m : Metadata) (s : Snapshot) (plan : Plan) : Type 0 where
  pub list : IsMetadataPath m.location s.list plan.list
  pub held : HeldSchema
  pub named : snapshot_schema m s ≡ Ok held
  pub schema : plan.schema ≡ held.1
  pub columns : columns_of m held ≡ Ok plan.columns

-- A path that the file names has this fault.
abbrev pub ShowsPath : List ℕ → List ℕ → Fault → Type 0
ShowsPath location path f = (e : ManifestError) × HasPathFault location path e × (manifest_fault e ≡ read.Fault f)

-- The schema lacks a column of the default spec.
abbrev pub ShowsColumns : Metadata → HeldSchema → Fault → Type 0
ShowsColumns m held f = (e : MetadataError) × (columns_of m held ≡ Err e) × (metadata_fault e ≡ read.Fault f)

-- The metadata shows this of the snapshot: first the path of its list is judged, then its schema, and then the partition columns in that schema.
abbrev pub IsPlanFault : Metadata → Snapshot → Fault → Type 0
IsPlanFault m s =
    Stops (IsMetadataPath m.location s.list) (ShowsPath m.location s.list)
    (λ path. Stops (λ held. snapshot_schema m s ≡ Ok held) (λ f. snapshot_schema m s ≡ Err f) (ShowsColumns m))

-- ---- its columns

abbrev pub names_of : List SourceColumn → List (List ℕ)
names_of columns = map (λ c. c.name) columns

abbrev pub part_columns : List SourceColumn → List PartColumn
part_columns columns = map (λ c. record { field_id = c.field_id; kind = c.kind }) columns

-- ---- what callers go on with

-- A table may have the schema, and its columns are top-level columns of it, each once and of its kind, and not too many.
pub record IsSoundPlan (plan : Plan) : Type 0 where
  pub schema : IsSound plan.schema
  pub size : IsWithinLimits plan.schema
  pub distinct : IsDistinct bytes_eq (names_of plan.columns)
  pub few : length plan.columns ≤ MAX_PARTITION_COLUMNS
  pub kinds : (c : SourceColumn) → Contains plan.columns c → column_kind plan.schema c.name ≡ Some c.kind
