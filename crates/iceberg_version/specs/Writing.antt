-- The version that is written for a commit (Iceberg specification, "Table Metadata and Snapshots"), and which numbers it passes.
use Rattle.std.specs.Prelude.{◌≡◌, ◌<◌, ◌⊎◌, ◌-◌, ◌+◌, ℕ, ℤ, pos, negsuc, int_lt, List, [], ◌∷◌, ◌++◌, length, map, drop, Contains, None, Some, unwrap_or, codes, if◌then◌else◌}
use Rattle.std.specs.Fmt.{decimal}
use Rattle.serde_json.specs.Data.{array}
use Rattle.serde_json.specs.View.{items_of}
use Rattle.serde_json.specs.Written.{compact_text}
use Rattle.lake_basics.specs.declared.limits.TheConstants.{MAX_AVRO_VALUES, MAX_FILE_BYTES, MAX_ICEBERG_VERSION}
use Rattle.avro_container.specs.Writing.{IsWritten as IsContainerWritten}
use Rattle.partition_map.specs.Columns.{column_kind}
use Rattle.iceberg_field_ids.specs.Ids.{PassesGreatest}
use Rattle.schema_map.specs.Paths.{column_paths}
use Rattle.schema_map.specs.Image.{wide_columns}
use Rattle.schema_iceberg.specs.NameMapping.{name_mapping_text}
use Rattle.table_history.specs.Row.{Row}
use Rattle.table_history.specs.TypeTree.{ColumnTrees}
use Rattle.table_history.specs.declared.limit.LimitKind.{LimitKind}
use Rattle.table_history.specs.declared.limit.LimitKind.TheVariants.{File, Versions}
use Rattle.table_history.specs.declared.table.Change.{Change}
use Rattle.table_history.specs.declared.table.Commit.{Commit}
use Rattle.iceberg_manifest.specs.Entry.{EntryData}
use Rattle.iceberg_manifest.specs.Lists.{AreEach}
use Rattle.iceberg_metadata.specs.Location.{front_of}
use Rattle.iceberg_manifest.specs.ListWriting.{info_tree, list_meta, marker}
use Rattle.iceberg_manifest.specs.ManifestWriting.{entry_tree, manifest_meta}
use Rattle.iceberg_manifest.specs.WrittenTypes.{list_type, manifest_type}
use Rattle.iceberg_manifest.specs.declared.partition.PartColumn.{PartColumn}
use Rattle.iceberg_metadata.specs.Schemas.{HeldSchema}
use Rattle.iceberg_metadata.specs.Writing.{metadata_text, schema_data, spec_field_data}
use Rattle.iceberg_metadata.specs.declared.metadata.Metadata.{Metadata}
use Rattle.iceberg_metadata.specs.declared.metadata.Snapshot.{Snapshot}
use Rattle.iceberg_metadata.specs.declared.metadata.Spec.{Spec}
use Rattle.iceberg_metadata.specs.declared.metadata.SpecField.{SpecField}
use Rattle.target_core.specs.Mark.{mark_data}
use Rattle.target_core.specs.Views.{Origin}
use Rattle.target_core.specs.declared.mark.Mark.{Mark}
use Rattle.iceberg_version.specs.Manifests.{AreListed, AreNextManifests, LiveManifest, NextManifest, file_at, new_entries}
use Rattle.iceberg_table.specs.Folder.{path_of}
use Rattle.iceberg_version.specs.Names.{list_name}
use Rattle.iceberg_version.specs.Schemas.{AreNextSchemas, AreSpecFields, FIRST_PARTITION_ID, Schemas, known_ids, with_schemas}

-- What a table says that the next version rests on: its newest version and that one's metadata, the table's schema and partition columns, and the
-- manifests of the current snapshot.
pub record TableEnd : Type 0 where
  pub version : ℕ
  pub metadata : Metadata
  pub schema : ColumnTrees
  pub partition : List (List ℕ)
  pub manifests : List LiveManifest

-- the metadata of a table of this id at this location before its first version
abbrev pub no_version : List ℕ → List ℕ → Metadata
no_version id location = record {
  uuid = id;
  location = location;
  last_sequence = pos 0;
  last_updated = pos 0;
  last_column_id = pos 0;
  schemas = [];
  current_schema = negsuc 0;
  specs = [];
  default_spec = pos 0;
  last_partition_id = pos 0;
  properties = [];
  current_snapshot = None;
  snapshots = [];
}

abbrev pub next_version : TableEnd → ℕ
next_version end = end.version + 1

-- what the names of the table's files begin with
abbrev pub front_in : TableEnd → List ℕ
front_in end = front_of end.metadata.location

-- the schema that the commit states, or else the one before
abbrev pub stated_behind : TableEnd → Change → ColumnTrees
stated_behind end change = unwrap_or change.schema end.schema

-- ---- the metadata

abbrev pub mark_of : ℕ → Origin → List ℕ → Mark
mark_of version origin position = record { at = decimal version; source = origin.source; to = position; table = origin.table }

abbrev pub mark_property : List ℕ
mark_property = codes "lakebridge.mark"

-- the name mapping by which a reader finds the columns of files without field ids (Iceberg specification, "Column Projection")
abbrev pub mapping_property : List ℕ
mapping_property = codes "schema.name-mapping.default"

-- the table's two properties
abbrev pub properties_of : Mark → HeldSchema → List (List ℕ × List ℕ)
properties_of mark schema = (mark_property, compact_text (mark_data mark)) ∷ (mapping_property, name_mapping_text schema.1 schema.2) ∷ []

-- the later of the clock and the last time
abbrev pub later : ℕ → ℤ → ℤ
later now last = if int_lt (pos now) last then last else pos now

abbrev operation_by : List (List ℕ) → List Row → List ℕ
operation_by [] added = codes "append"
operation_by (path ∷ paths) [] = codes "delete"
operation_by (path ∷ paths) (row ∷ rows) = codes "overwrite"

-- what a snapshot's summary says of a change (Iceberg specification, "Snapshots", `operation`): whether rows are only added, only removed, or both
abbrev pub operation_of : Change → List ℕ
operation_of change = operation_by change.removed change.added

-- the name of the manifest list of a version of a table at this location
abbrev pub list_file : List ℕ → ℕ → List ℕ
list_file location version = file_at (front_of location) (path_of (list_name version))

-- the snapshot of a new version behind this metadata, where the current schema is of that id
abbrev pub snapshot_of : Metadata → ℕ → Change → ℤ → ℕ → Snapshot
snapshot_of m version change schema now = record {
  id = pos version;
  parent = m.current_snapshot;
  sequence = pos version;
  timestamp = later now m.last_updated;
  list = list_file m.location version;
  schema_id = Some schema;
  operation = Some (operation_of change);
}

-- the most snapshots that a version holds
abbrev pub MAX_SNAPSHOTS : ℕ
MAX_SNAPSHOTS = 100

-- the last so many of these
abbrev pub last_of : {A : Type 0} → ℕ → List A → List A
last_of n xs = drop (length xs - n) xs

-- the metadata with this snapshot as the current one, and of all held ones the newest
abbrev pub with_snapshot : Metadata → Snapshot → Metadata
with_snapshot m snapshot = record m {
  last_sequence = snapshot.sequence;
  last_updated = snapshot.timestamp;
  current_snapshot = Some snapshot.id;
  snapshots = last_of MAX_SNAPSHOTS (m.snapshots ++ snapshot ∷ []);
}

-- the one spec of a table, of these fields
abbrev pub spec_of : List SpecField → Spec
spec_of fields = record { id = pos 0; fields = fields }

-- the metadata with this one spec, whose fields' ids are those from the first partition field's on
abbrev pub with_spec : Metadata → List SpecField → Metadata
with_spec m fields = record m { specs = spec_of fields ∷ []; default_spec = pos 0; last_partition_id = pos (FIRST_PARTITION_ID - 1 + length fields) }

-- the metadata with these two properties
abbrev pub with_properties : Metadata → Mark → HeldSchema → Metadata
with_properties m mark schema = record m { properties = properties_of mark schema }

-- the metadata of the new version
abbrev pub metadata_of : TableEnd → Origin → ℕ → Commit → Schemas → List SpecField → Metadata
metadata_of end origin now commit schemas fields =
    with_properties (with_spec (with_snapshot (with_schemas end.metadata schemas) (snapshot_of end.metadata (next_version end) commit.change schemas.current.0 now)) fields)
    (mark_of (next_version end) origin commit.position) schemas.current

-- ---- manifests and their list

-- These are the partition columns of a manifest: the ids of the fields, and the kinds of the columns of these names.
abbrev pub AreColumns : ColumnTrees → List (List ℕ) → List SpecField → List PartColumn → Type 0
AreColumns schema [] [] [] = Unit {0}
AreColumns schema (name ∷ names) (f ∷ fields) (c ∷ columns) = (c.field_id ≡ f.field_id) × (column_kind schema name ≡ Some c.kind) × AreColumns schema names fields columns
AreColumns schema _ _ _ = ⊥

-- What all manifests of the new version share: the schemas behind the commit, and the partition columns.
pub record IsLayout (end : TableEnd) (change : Change) (schemas : Schemas) (fields : List SpecField) (columns : List PartColumn) : Type 0 where
  pub schemas_are : AreNextSchemas end.metadata (stated_behind end change) schemas
  pub fields_are : AreSpecFields schemas.current FIRST_PARTITION_ID end.partition fields
  pub columns_are : AreColumns schemas.current.1 end.partition fields columns

-- the JSON of a partition spec's fields
abbrev pub spec_json : List SpecField → List ℕ
spec_json fields = compact_text (array (items_of (map spec_field_data fields)))

-- the JSON of a schema
abbrev pub schema_json : HeldSchema → List ℕ
schema_json schema = compact_text (schema_data schema)

-- the bytes are those of a manifest of these entries
abbrev pub IsManifestText : HeldSchema → List (List ℕ) → List SpecField → List PartColumn → List EntryData → List ℕ → Type 0
IsManifestText schema partition fields columns entries bytes = IsContainerWritten MAX_AVRO_VALUES bytes (manifest_meta (schema_json schema) schema.0 (spec_json fields)) (manifest_type columns partition) marker (map entry_tree entries)

-- the bytes are those of the list of these manifests
abbrev pub IsListText : TableEnd → List LiveManifest → List ℕ → Type 0
IsListText end manifests bytes = IsContainerWritten MAX_AVRO_VALUES bytes (list_meta (pos (next_version end)) end.metadata.current_snapshot (pos (next_version end))) list_type marker (map (λ m. info_tree m.info) manifests)

-- ---- the commit

-- What is written for a commit: the bytes of the new manifests in the order of the list, the manifests of the list, the list's bytes, and the metadata.
pub record NewVersion : Type 0 where
  pub texts : List (List ℕ)
  pub manifests : List LiveManifest
  pub list : List ℕ
  pub metadata : Metadata

-- The new manifests have these bytes, and the list has these manifests.
pub record AreWritten (end : TableEnd) (change : Change) (schemas : Schemas) (fields : List SpecField) (columns : List PartColumn) (texts : List (List ℕ)) (manifests : List LiveManifest) : Type 0 where
  pub next : List NextManifest
  pub next_are : AreNextManifests (front_in end) (next_version end) end.manifests change next
  pub texts_are : AreEach (IsManifestText schemas.current end.partition fields columns) (new_entries next) texts
  pub listed : AreListed (front_in end) (next_version end) 0 0 next texts manifests

-- This is written for the commit behind a table's end.
pub record IsWritten (end : TableEnd) (origin : Origin) (now : ℕ) (commit : Commit) (written : NewVersion) : Type 0 where
  pub schemas : Schemas
  pub fields : List SpecField
  pub columns : List PartColumn
  pub layout : IsLayout end commit.change schemas fields columns
  pub manifests : AreWritten end commit.change schemas fields columns written.texts written.manifests
  pub list : IsListText end written.manifests written.list
  pub metadata : written.metadata ≡ metadata_of end origin now commit schemas fields

-- the table's end behind a commit for which this is written
abbrev pub end_behind : TableEnd → Commit → NewVersion → TableEnd
end_behind end commit written = record {
  version = next_version end;
  metadata = written.metadata;
  schema = wide_columns (stated_behind end commit.change);
  partition = end.partition;
  manifests = written.manifests;
}

-- ---- numbers that are passed

-- The text has more bytes than a file may have.
abbrev pub IsLong : List ℕ → Type 0
IsLong bytes = MAX_FILE_BYTES < length bytes

-- A manifest of the new version is too long.
pub record HasLongManifest (end : TableEnd) (change : Change) (schemas : Schemas) (fields : List SpecField) (columns : List PartColumn) : Type 0 where
  pub next : List NextManifest
  pub next_are : AreNextManifests (front_in end) (next_version end) end.manifests change next
  pub entries : List EntryData
  pub new : Contains (new_entries next) entries
  pub bytes : List ℕ
  pub text : IsManifestText schemas.current end.partition fields columns entries bytes
  pub long : IsLong bytes

-- Its list is too long.
pub record HasLongList (end : TableEnd) (change : Change) (schemas : Schemas) (fields : List SpecField) (columns : List PartColumn) : Type 0 where
  pub texts : List (List ℕ)
  pub manifests : List LiveManifest
  pub are : AreWritten end change schemas fields columns texts manifests
  pub bytes : List ℕ
  pub text : IsListText end manifests bytes
  pub long : IsLong bytes

-- A text that is written for the commit is too long.
pub record HasLongText (end : TableEnd) (origin : Origin) (now : ℕ) (commit : Commit) : Type 0 where
  pub schemas : Schemas
  pub fields : List SpecField
  pub columns : List PartColumn
  pub layout : IsLayout end commit.change schemas fields columns
  pub cause : HasLongManifest end commit.change schemas fields columns ⊎ (HasLongList end commit.change schemas fields columns ⊎ IsLong (metadata_text (metadata_of end origin now commit schemas fields)))

-- the new version or a new field id would pass the greatest
abbrev pub PassesVersions : TableEnd → Change → Type 0
PassesVersions end change = (MAX_ICEBERG_VERSION < next_version end) ⊎ PassesGreatest (known_ids end.metadata) end.metadata.last_column_id (column_paths (stated_behind end change))

-- A text that the commit would write has too many bytes, or its version or a new field id passes the greatest.
abbrev pub PassesAt : TableEnd → Origin → ℕ → Commit → LimitKind → ℕ → Type 0
PassesAt end origin now commit File number = (number ≡ MAX_FILE_BYTES) × HasLongText end origin now commit
PassesAt end origin now commit Versions number = (number ≡ MAX_ICEBERG_VERSION) × PassesVersions end commit.change
PassesAt end origin now commit _ number = ⊥

-- So it is at the last of these commits, published one behind the other.
abbrev pub Passes : TableEnd → Origin → ℕ → List Commit → LimitKind → ℕ → Type 0
Passes end origin now [] which number = ⊥
Passes end origin now (commit ∷ []) which number = PassesAt end origin now commit which number
Passes end origin now (commit ∷ (next ∷ commits)) which number = (written : NewVersion) × IsWritten end origin now commit written × Passes (end_behind end commit written) origin now (next ∷ commits) which number
