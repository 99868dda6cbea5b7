-- The JSON text of table metadata that is written (Iceberg specification, "Table Metadata Fields" and "JSON serialization").
use Rattle.std.specs.Prelude.{◌≡◌, ◌≢◌, ℕ, ℤ, pos, negsuc, List, [], map, All, Option, Some, None, Ok, unwrap_or, IfSome, FitsSigned, codes}
use Rattle.std.specs.Int.{w32, w64}
use Rattle.std.specs.List.{AllByRecursion, IsDistinct}
use Rattle.std.specs.List.Sorted.{IsPermutation}
use Rattle.std.specs.Str.{bytes_eq}
use Rattle.serde_json.specs.Data.{Data, number, string, array, object, no_items, item, Members, no_members, member, put}
use Rattle.serde_json.specs.Find.{of_integer}
use Rattle.serde_json.specs.View.{items_of}
use Rattle.serde_json.specs.Written.{compact_text}
use Rattle.json_reading.specs.Json.{members_with}
use Rattle.schema_iceberg.specs.Iceberg.{iceberg_schema}
use Rattle.schema_iceberg.specs.IcebergWriting.{iceberg_value}
use Rattle.table_history.specs.First.{NoneOf}
use Rattle.iceberg_metadata.specs.Grammar.{IsConsistent}
use Rattle.iceberg_metadata.specs.Reading.{Shows, causes}
use Rattle.iceberg_metadata.specs.Schemas.{HeldSchema}
use Rattle.iceberg_metadata.specs.declared.metadata.Metadata.{Metadata}
use Rattle.iceberg_metadata.specs.declared.metadata.Snapshot.{Snapshot}
use Rattle.iceberg_metadata.specs.declared.metadata.Spec.{Spec}
use Rattle.iceberg_metadata.specs.declared.metadata.SpecField.{SpecField}

-- ---- the JSON

abbrev pub whole_data : ℤ → Data
whole_data n = number (of_integer n)

abbrev pub spec_field_data : SpecField → Data
spec_field_data f = object
    (member (codes "field-id") (whole_data f.field_id)
    (member (codes "name") (string f.name)
    (member (codes "source-id") (whole_data f.source_id)
    (member (codes "transform") (string f.transform) no_members))))

abbrev pub spec_data : Spec → Data
spec_data s = object
    (member (codes "fields") (array (items_of (map spec_field_data s.fields)))
    (member (codes "spec-id") (whole_data s.id) no_members))

-- members with this number, where there is one
abbrev pub put_whole : List ℕ → Option ℤ → Members → Members
put_whole name None ms = ms
put_whole name (Some n) ms = put name (whole_data n) ms

-- members with the operation of a snapshot, where it states one
abbrev pub put_operation : Option (List ℕ) → Members → Members
put_operation None ms = ms
put_operation (Some operation) ms = put (codes "summary") (object (member (codes "operation") (string operation) no_members)) ms

-- the members that each snapshot has
abbrev pub snapshot_members : Snapshot → Members
snapshot_members s =
    member (codes "manifest-list") (string s.list)
    (member (codes "sequence-number") (whole_data s.sequence)
    (member (codes "snapshot-id") (whole_data s.id)
    (member (codes "timestamp-ms") (whole_data s.timestamp) no_members)))

abbrev pub snapshot_data : Snapshot → Data
snapshot_data s = object (put_operation s.operation (put_whole (codes "schema-id") s.schema_id (put_whole (codes "parent-snapshot-id") s.parent (snapshot_members s))))

abbrev pub schema_data : HeldSchema → Data
schema_data s = iceberg_value s.1 s.2 s.0

-- the branch `main`, which stands at the current snapshot
abbrev pub refs_data : Option ℤ → Data
refs_data None = object no_members
refs_data (Some id) = object (member (codes "main") (object (member (codes "snapshot-id") (whole_data id) (member (codes "type") (string (codes "branch")) no_members))) no_members)

-- the order that sorts nothing
abbrev pub orders_data : Data
orders_data = array (item (object (member (codes "fields") (array no_items) (member (codes "order-id") (whole_data (pos 0)) no_members))) no_items)

-- which schema, snapshot, order and spec are the current ones, and the version of the format
abbrev pub current_members : Metadata → Members
current_members m =
    member (codes "current-schema-id") (whole_data m.current_schema)
    (member (codes "current-snapshot-id") (whole_data (unwrap_or m.current_snapshot (negsuc 0)))
    (member (codes "default-sort-order-id") (whole_data (pos 0))
    (member (codes "default-spec-id") (whole_data m.default_spec)
    (member (codes "format-version") (whole_data (pos 2)) no_members))))

-- members with the last numbers that were given
abbrev pub put_last : Metadata → Members → Members
put_last m ms =
    put (codes "last-updated-ms") (whole_data m.last_updated)
    (put (codes "last-sequence-number") (whole_data m.last_sequence)
    (put (codes "last-partition-id") (whole_data m.last_partition_id)
    (put (codes "last-column-id") (whole_data m.last_column_id) ms)))

-- members with the table's place and id, and the one sort order
abbrev pub put_table : Metadata → Members → Members
put_table m ms =
    put (codes "table-uuid") (string m.uuid)
    (put (codes "sort-orders") orders_data
    (put (codes "location") (string m.location) ms))

-- members with these lists and objects
abbrev pub put_parts : Data → Data → Data → Data → Data → Members → Members
put_parts specs properties refs schemas snapshots ms =
    put (codes "snapshots") snapshots
    (put (codes "schemas") schemas
    (put (codes "refs") refs
    (put (codes "properties") properties
    (put (codes "partition-specs") specs ms))))

abbrev pub metadata_data : Metadata → Data
metadata_data m = object
    (put_parts (array (items_of (map spec_data m.specs))) (object (members_with string m.properties no_members)) (refs_data m.current_snapshot) (array (items_of (map schema_data m.schemas))) (array (items_of (map snapshot_data m.snapshots)))
    (put_table m (put_last m (current_members m))))

-- compact, the members of each object in byte order of their names
abbrev pub metadata_text : Metadata → List ℕ
metadata_text m = compact_text (metadata_data m)

-- ---- which metadata is written

-- The schema is one that is read from some JSON with these field ids.
abbrev pub CanBeHeld : HeldSchema → Type 0
CanBeHeld s = (d : Data) × (iceberg_schema d ≡ Ok (s.1, s.2))

-- No two properties have one name.
abbrev pub HaveOwnNames : List (List ℕ × List ℕ) → Type 0
HaveOwnNames ps = IsDistinct bytes_eq (map (λ p. p.0) ps)

-- Each schema can be read, ids name what is held, no two properties have one name, and nothing is
-- shown for which metadata isn't read. -1 is no snapshot's id as the current one.
pub record IsWritable (m : Metadata) : Type 0 where
  pub schemas : All CanBeHeld m.schemas
  pub consistent : IsConsistent m (map (λ s. s.0) m.schemas)
  pub properties : HaveOwnNames m.properties
  pub current : m.current_snapshot ≢ Some (negsuc 0)
  pub shown : NoneOf (λ e. Shows e [] m) causes

-- ---- what is read back

-- One metadata, whatever the order of its properties.
pub record SameMetadata (m n : Metadata) : Type 0 where
  pub others : record m { properties = n.properties } ≡ n
  pub properties : IsPermutation m.properties n.properties

-- ---- what the Rust types make true

abbrev pub FieldFits : SpecField → Type 0
FieldFits f = FitsSigned w32 f.field_id × FitsSigned w32 f.source_id

abbrev pub SpecFits : Spec → Type 0
SpecFits s = FitsSigned w32 s.id × AllByRecursion FieldFits s.fields

abbrev pub SnapshotFits : Snapshot → Type 0
SnapshotFits s = FitsSigned w64 s.id × IfSome s.parent (FitsSigned w64) × FitsSigned w64 s.sequence × FitsSigned w64 s.timestamp × IfSome s.schema_id (FitsSigned w32)

-- The schema's JSON is read as it, where it can be read from some JSON.
abbrev pub SchemaFits : HeldSchema → Type 0
SchemaFits s = FitsSigned w32 s.0 × ((d : Data) → iceberg_schema d ≡ Ok (s.1, s.2) → iceberg_schema (schema_data s) ≡ Ok (s.1, s.2))

-- the last numbers that were given
abbrev pub LastFit : Metadata → Type 0
LastFit m = FitsSigned w64 m.last_sequence × FitsSigned w64 m.last_updated × FitsSigned w32 m.last_column_id × FitsSigned w32 m.last_partition_id

pub record MetadataFits (m : Metadata) : Type 0 where
  pub current_schema : FitsSigned w32 m.current_schema
  pub default_spec : FitsSigned w32 m.default_spec
  pub last : LastFit m
  pub current : IfSome m.current_snapshot (FitsSigned w64)
  pub specs : AllByRecursion SpecFits m.specs
  pub schemas : AllByRecursion SchemaFits m.schemas
  pub snapshots : AllByRecursion SnapshotFits m.snapshots
