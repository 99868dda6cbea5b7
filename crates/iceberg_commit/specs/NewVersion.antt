-- The new version that a commit makes of what is kept, step by step.
use Rattle.std.specs.Prelude.{◌≡◌, ◌≢◌, ◌⊎◌, ◌<◌, ◌≤◌, ◌+◌, ℕ, ℤ, List, [], ◌∷◌, map, length, Contains, IsSome, Ok, Option, Some, slice_get, unwrap_or}
use Rattle.serde_json.specs.Written.{compact_text}
use Rattle.lake_basics.specs.declared.limits.TheConstants.{MAX_AVRO_VALUES, MAX_FILE_BYTES, MAX_ICEBERG_VERSION}
use Rattle.partition_map.specs.Columns.{column_kind}
use Rattle.partition_map.specs.declared.kind.PartKind.{PartKind}
use Rattle.schema_map.specs.IcebergFits.{FitsIceberg}
use Rattle.schema_map.specs.Paths.{known_id}
use Rattle.schema_map.specs.Image.{wide_columns}
use Rattle.table_history.specs.SchemaSize.{IsWithinLimits}
use Rattle.table_history.specs.Sound.{IsSound}
use Rattle.table_history.specs.TypeTree.{ColumnTrees}
use Rattle.table_history.specs.declared.limit.LimitKind.{LimitKind}
use Rattle.table_history.specs.declared.limit.LimitKind.TheVariants.{File}
use Rattle.table_history.specs.declared.table.Change.{Change}
use Rattle.table_history.specs.declared.table.Commit.{Commit}
use Rattle.table_history.specs.declared.table.Table.{Table}
use Rattle.iceberg_manifest.specs.Containers.{StandsFor}
use Rattle.iceberg_manifest.specs.Entry.{EntryData}
use Rattle.iceberg_manifest.specs.Lists.{AreEach}
use Rattle.iceberg_manifest.specs.Scans.{entries_of, infos_of}
use Rattle.iceberg_manifest.specs.declared.partition.PartColumn.{PartColumn}
use Rattle.iceberg_metadata.specs.Judging.{metadata_of as read_metadata}
use Rattle.iceberg_metadata.specs.Paths.{path_ids}
use Rattle.iceberg_metadata.specs.Schemas.{HeldSchema}
use Rattle.iceberg_metadata.specs.Writing.{SameMetadata, metadata_text}
use Rattle.iceberg_metadata.specs.declared.metadata.Metadata.{Metadata}
use Rattle.iceberg_metadata.specs.declared.metadata.SpecField.{SpecField}
use Rattle.target_core.specs.Mark.{IsMarkText, mark_data}
use Rattle.target_core.specs.Views.{Origin}
use Rattle.target_core.specs.declared.mark.Mark.{Mark}
use Rattle.target_core.specs.declared.target.TargetError.{TargetError}
use Rattle.target_core.specs.declared.target.TargetError.TheVariants.{Limit, Memory}
use Rattle.iceberg_version.specs.KeptEnd.{end_of, manifests_of}
use Rattle.iceberg_version.specs.Manifests.{AreNextManifests, LiveManifest, NextManifest, new_entries}
use Rattle.iceberg_version.specs.Schemas.{AreNextSchemas, AreSpecFields, FIRST_PARTITION_ID, Schemas, with_schemas}
use Rattle.iceberg_commit.specs.Texts.{AreShort, IsTextIn}
use Rattle.iceberg_version.specs.Writing.{AreColumns, AreWritten, HasLongList, HasLongManifest, IsListText, IsLong, IsWritten, TableEnd, mark_of, snapshot_of, spec_of, with_properties, with_snapshot, with_spec}
use Rattle.iceberg_version.specs.Writing as writing
use Rattle.iceberg_version.specs.declared.kept.IcebergKept.{IcebergKept}
use Rattle.iceberg_version.specs.declared.layout.Layout.{Layout}
use Rattle.iceberg_commit.specs.declared.version.NewVersion.{NewVersion}

-- ---- what is asked of a commit

-- the kinds of these columns, none where one is no column or its type has no kind
abbrev pub kinds_in : ColumnTrees → List (List ℕ) → List (Option PartKind)
kinds_in schema names = map (column_kind schema) names

-- The table has a version, and the commit states a schema in which the kinds of its partition columns are others.
abbrev pub ChangesKinds : IcebergKept → Change → Type 0
ChangesKinds kept change = (0 < kept.version) × ((stated : ColumnTrees) × (change.schema ≡ Some stated) × (kinds_in kept.table.schema kept.table.partition ≢ kinds_in stated kept.table.partition))

-- the schema behind the change
abbrev pub schema_behind : Table → Change → ColumnTrees
schema_behind table change = unwrap_or change.schema table.schema

-- ---- the metadata

-- Each of these names is that of a top-level column of the current schema, where the table goes on to this one.
abbrev pub HasColumns : Metadata → ColumnTrees → List (List ℕ) → Type 0
HasColumns m stated names = (schemas : Schemas) (name : List ℕ) → AreNextSchemas m stated schemas → Contains names name → IsSome (known_id (path_ids schemas.current) (name ∷ []))

-- The metadata has gone on to this version, which carries the commit with this mark, and its current schema has that place.
pub record IsGoneOn (m : Metadata) (version : ℕ) (table : Table) (commit : Commit) (mark : Mark) (now : ℕ) (new : Metadata) (place : ℕ) : Type 0 where
  pub schemas : Schemas
  pub fields : List SpecField
  pub schemas_are : AreNextSchemas m (schema_behind table commit.change) schemas
  pub fields_are : AreSpecFields schemas.current FIRST_PARTITION_ID table.partition fields
  pub count : length fields ≡ length table.partition
  pub is : new ≡ with_properties (with_spec (with_snapshot (with_schemas m schemas) (snapshot_of m version commit.change schemas.current.0 now)) fields) mark schemas.current
  pub at : slice_get new.schemas place ≡ Some schemas.current
  pub fits : IsSound (schema_behind table commit.change) → IsWithinLimits (schema_behind table commit.change) → Contains m.schemas schemas.current ⊎ FitsIceberg schemas.current.1 schemas.current.2
  pub reads_back : IsMarkText (compact_text (mark_data mark)) mark

-- ---- the manifests and their list

-- The manifests of the layout are those of the table behind the change.
pub record IsLayoutOf (table : Table) (change : Change) (layout : Layout) : Type 0 where
  pub partition : layout.partition.now ≡ table.partition
  pub image : layout.schema.now.1 ≡ wide_columns (schema_behind table change)
  pub fields : AreSpecFields layout.schema.now FIRST_PARTITION_ID table.partition layout.fields.now
  pub columns : AreColumns layout.schema.now.1 table.partition layout.fields.now layout.columns.items

-- the manifests that the list before becomes
abbrev pub AreNextOf : IcebergKept → Layout → Change → List NextManifest → Type 0
AreNextOf kept layout change next = AreNextManifests layout.front layout.version (manifests_of kept) change next

-- the bytes are those of a new manifest
abbrev pub IsNewText : IcebergKept → Layout → Change → List ℕ → Type 0
IsNewText kept layout change bytes = (next : List NextManifest) × (entries : List EntryData) × AreNextOf kept layout change next × Contains (new_entries next) entries × IsTextIn layout entries bytes

-- ---- the texts

-- The metadata holds this schema at that place, which is that of the table behind the change, and one spec of these fields.
pub record HoldsCurrent (table : Table) (change : Change) (m : Metadata) (place : ℕ) : Type 0 where
  pub schema : HeldSchema
  pub at : slice_get m.schemas place ≡ Some schema
  pub image : schema.1 ≡ wide_columns (schema_behind table change)
  pub fields : List SpecField
  pub specs : m.specs ≡ spec_of fields ∷ []
  pub fields_are : AreSpecFields schema FIRST_PARTITION_ID table.partition fields
  pub count : length fields ≡ length table.partition

-- The metadata is that of the version behind the one that is kept, where that one's was `before`.
pub record IsBehind (kept : IcebergKept) (before : Metadata) (m : Metadata) (place version : ℕ) (parent : Option ℤ) (schemas : Schemas) (fields : List SpecField) : Type 0 where
  pub location : before.location ≡ m.location
  pub parent_is : before.current_snapshot ≡ parent
  pub next : version ≡ kept.version + 1
  pub at : slice_get m.schemas place ≡ Some schemas.current
  pub specs : m.specs ≡ spec_of fields ∷ []

-- The bytes are those of the manifests, their list and the metadata, each short enough to be read. Reading gives what they are of back.
pub record AreTextsBehind (end : TableEnd) (change : Change) (m : Metadata) (schemas : Schemas) (fields : List SpecField) (w : NewVersion) : Type 0 where
  pub columns : List PartColumn
  pub columns_are : AreColumns schemas.current.1 end.partition fields columns
  pub listed : List LiveManifest
  pub infos : w.infos.items ≡ map (λ m. m.info) listed
  pub manifests : AreWritten end change schemas fields columns w.manifests.items listed
  pub list : IsListText end listed w.list
  pub metadata_is : w.metadata ≡ metadata_text m
  pub short : AreShort w.manifests.items w.list w.metadata
  pub entries_back : AreEach (λ entries bytes. StandsFor MAX_AVRO_VALUES (entries_of columns) bytes entries) (new_entries manifests.next) w.manifests.items
  pub infos_back : StandsFor MAX_AVRO_VALUES infos_of w.list w.infos.items
  pub again : Metadata
  pub metadata_back : read_metadata w.metadata ≡ Ok again
  pub same : SameMetadata m again

-- A manifest, their list or the metadata is too long.
abbrev pub HasLongBehind : TableEnd → Change → Metadata → Schemas → List SpecField → Type 0
HasLongBehind end change m schemas fields = (columns : List PartColumn) × AreColumns schemas.current.1 end.partition fields columns × (HasLongManifest end change schemas fields columns ⊎ (HasLongList end change schemas fields columns ⊎ IsLong (metadata_text m)))

-- A text of the version is too long, or memory runs out.
abbrev pub IsTextsRefusal : TableEnd → Change → Metadata → Schemas → List SpecField → TargetError → Type 0
IsTextsRefusal end change m schemas fields Memory = Unit {0}
IsTextsRefusal end change m schemas fields (Limit which number) = (which ≡ File) × (number ≡ MAX_FILE_BYTES) × HasLongBehind end change m schemas fields
IsTextsRefusal end change m schemas fields _ = ⊥

-- ---- the whole

-- The bytes are those of the version that the commit is written as, and `next` is what is kept of its number and its metadata. The number doesn't pass
-- the greatest, and each text is short enough to be read. Reading gives the entries, the rows of the list, the metadata and the mark back.
pub record IsNewVersion (kept : IcebergKept) (origin : Origin) (now : ℕ) (commit : Commit) (w : NewVersion) (next : IcebergKept) : Type 0 where
  pub written : writing.NewVersion
  pub is : IsWritten (end_of kept) origin now commit written
  pub manifests : w.manifests.items ≡ written.texts
  pub infos : w.infos.items ≡ map (λ m. m.info) written.manifests
  pub list : w.list ≡ written.list
  pub metadata : w.metadata ≡ metadata_text written.metadata
  pub version_kept : next.version ≡ kept.version + 1
  pub metadata_kept : next.metadata ≡ written.metadata
  pub within : kept.version + 1 ≤ MAX_ICEBERG_VERSION
  pub short : AreShort w.manifests.items w.list w.metadata
  pub entries_back : AreEach (λ entries bytes. StandsFor MAX_AVRO_VALUES (entries_of is.columns) bytes entries) (new_entries is.manifests.next) w.manifests.items
  pub infos_back : StandsFor MAX_AVRO_VALUES infos_of w.list w.infos.items
  pub again : Metadata
  pub metadata_back : read_metadata w.metadata ≡ Ok again
  pub same : SameMetadata written.metadata again
  pub mark_back : IsMarkText (compact_text (mark_data (mark_of (kept.version + 1) origin commit.position))) (mark_of (kept.version + 1) origin commit.position)

-- No version is made where a number is passed. Memory may run out instead.
abbrev pub IsVersionRefusal : (LimitKind → ℕ → Type 0) → TargetError → Type 0
IsVersionRefusal passes Memory = Unit {0}
IsVersionRefusal passes (Limit which number) = passes which number
IsVersionRefusal passes _ = ⊥

-- what a commit doesn't touch before it is published
pub record KeepsRest (kept next : IcebergKept) : Type 0 where
  pub table : next.table ≡ kept.table
  pub mark : next.mark ≡ kept.mark
  pub manifests : next.manifests ≡ kept.manifests
  pub links : next.links ≡ kept.links
