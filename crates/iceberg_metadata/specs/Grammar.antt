-- Which text is the metadata of a table (Iceberg specification, "Table Metadata Fields" and "Snapshots").
use Rattle.std.specs.Prelude.{◌≡◌, ℕ, ℤ, pos, List, map, true, Ok, Some, IfSome, Contains, codes}
use Rattle.std.specs.List.{IsDistinct}
use Rattle.std.specs.Ordering.{int_eq}
use Rattle.serde_json.specs.Data.{Data, Items}
use Rattle.lake_basics.specs.Outcome.{each}
use Rattle.json_reading.specs.Json.{json, items, present}
use Rattle.iceberg_metadata.specs.declared.metadata.Metadata.{Metadata}
use Rattle.iceberg_metadata.specs.declared.metadata.Snapshot.{Snapshot}
use Rattle.iceberg_metadata.specs.Members.{format_version, text_in, whole_in, int_in, list_in, spec, snapshots, properties, current_snapshot, refs_fit}
use Rattle.iceberg_metadata.specs.Schemas.{SchemaReading, schema_reading, readable, schema_ids}
use Rattle.iceberg_metadata.specs.Location.{NamesPath}

-- ---- members

-- The value has the members that table metadata must have, each of its kind; those that may be absent are of their kind where they are there. The metadata has what they say: of the schemas those that can be taken over.
pub record Says (d : Data) (readings : List SchemaReading) (m : Metadata) : Type 0 where
  pub version : format_version d ≡ Some (pos 2)
  pub uuid : text_in (codes "table-uuid") d ≡ Ok m.uuid
  pub location : text_in (codes "location") d ≡ Ok m.location
  pub last_sequence : whole_in (codes "last-sequence-number") d ≡ Ok m.last_sequence
  pub last_updated : whole_in (codes "last-updated-ms") d ≡ Ok m.last_updated
  pub last_column_id : int_in (codes "last-column-id") d ≡ Ok m.last_column_id
  pub schema_list : Items
  pub has_schemas : list_in (codes "schemas") d ≡ Ok schema_list
  pub schemas : each schema_reading (items schema_list) ≡ Ok readings
  pub held : m.schemas ≡ readable readings
  pub current_schema : int_in (codes "current-schema-id") d ≡ Ok m.current_schema
  pub spec_list : Items
  pub has_specs : list_in (codes "partition-specs") d ≡ Ok spec_list
  pub specs : each spec (items spec_list) ≡ Ok m.specs
  pub default_spec : int_in (codes "default-spec-id") d ≡ Ok m.default_spec
  pub last_partition_id : int_in (codes "last-partition-id") d ≡ Ok m.last_partition_id
  pub properties : properties (present (codes "properties") d) ≡ Ok m.properties
  pub current_snapshot : current_snapshot (present (codes "current-snapshot-id") d) ≡ Ok m.current_snapshot
  pub snapshots : snapshots (present (codes "snapshots") d) ≡ Ok m.snapshots
  -- what isn't kept
  pub order_list : Items
  pub sort_orders : list_in (codes "sort-orders") d ≡ Ok order_list
  pub order : ℤ
  pub default_sort_order : int_in (codes "default-sort-order-id") d ≡ Ok order
  pub refs : refs_fit (present (codes "refs") d) ≡ true

-- ---- references

abbrev pub spec_ids : Metadata → List ℤ
spec_ids m = map (λ s. s.id) m.specs

abbrev pub snapshot_ids : Metadata → List ℤ
snapshot_ids m = map (λ s. s.id) m.snapshots

-- No two schemas, specs or snapshots have one id, and what is named by an id is held. The manifest list of each snapshot that lies in the table's location has a path there.
pub record IsConsistent (m : Metadata) (schemas : List ℤ) : Type 0 where
  pub own_schemas : IsDistinct int_eq schemas
  pub own_specs : IsDistinct int_eq (spec_ids m)
  pub own_snapshots : IsDistinct int_eq (snapshot_ids m)
  pub current_schema : Contains schemas m.current_schema
  pub default_spec : Contains (spec_ids m) m.default_spec
  pub current_snapshot : IfSome m.current_snapshot (λ id. Contains (snapshot_ids m) id)
  pub snapshot_schemas : (s : Snapshot) → Contains m.snapshots s → IfSome s.schema_id (λ id. Contains schemas id)
  pub lists : (s : Snapshot) → Contains m.snapshots s → NamesPath m.location s.list

-- ---- the grammar

-- The bytes are a text of table metadata. Each held schema is in the grammar of schemas, and is read as one of these.
pub record IsMetadataText (bytes : List ℕ) (readings : List SchemaReading) (m : Metadata) : Type 0 where
  pub value : Data
  pub is : json bytes ≡ Some value
  pub says : Says value readings m
  pub consistent : IsConsistent m (schema_ids readings)

abbrev pub IsInGrammar : List ℕ → Type 0
IsInGrammar bytes = (readings : List SchemaReading) × (m : Metadata) × IsMetadataText bytes readings m
