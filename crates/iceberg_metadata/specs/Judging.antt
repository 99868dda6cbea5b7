-- The same as functions: what a text of metadata is read as, or the first cause why it isn't.
use Rattle.std.specs.Prelude.{ℕ, ℤ, pos, nat_lt, List, [], ◌∷◌, length, Bool, true, false, not, ◌&&◌, ◌||◌, Option, Some, None, is_none, Result, Ok, Err, codes, if◌then◌else◌}
use Rattle.std.specs.Cmp.Lexicographic.{pointwise}
use Rattle.std.specs.List.{list_any, list_all}
use Rattle.std.specs.Ordering.{int_eq}
use Rattle.std.specs.Str.{bytes_eq}
use Rattle.serde_json.specs.Data.{Data}
use Rattle.lake_basics.specs.Outcome.{◌>>=◌, required, each}
use Rattle.lake_basics.specs.declared.limits.TheConstants.{MAX_PARTITION_COLUMNS}
use Rattle.json_reading.specs.Json.{json, items, present}
use Rattle.schema_map.specs.Paths.{Path, known_id}
use Rattle.table_history.specs.declared.limit.LimitKind.{LimitKind}
use Rattle.table_history.specs.declared.limit.LimitKind.TheVariants as limit
use Rattle.iceberg_metadata.specs.declared.error.MetadataError.{MetadataError}
use Rattle.iceberg_metadata.specs.declared.error.MetadataError.TheVariants.{FormatVersion, Malformed, SchemaType, Transform, Renamed, PartitionType, Limit}
use Rattle.iceberg_metadata.specs.declared.metadata.Metadata.{Metadata}
use Rattle.iceberg_metadata.specs.declared.metadata.SpecField.{SpecField}
use Rattle.iceberg_metadata.specs.Members.{format_version, text_in, whole_in, int_in, list_in, spec, snapshots, properties, current_snapshot, refs_fit}
use Rattle.iceberg_metadata.specs.Schemas.{HeldSchema, HeldUnread, schema_reading, readable, unread, refusals, schema_ids}
use Rattle.iceberg_metadata.specs.Paths.{PathId, all_path_ids, path_of, default_fields, current_kinds, sources}
use Rattle.iceberg_metadata.specs.Location.{front_of, names_path}
use Rattle.iceberg_metadata.specs.Grammar.{spec_ids, snapshot_ids}
use Rattle.partition_map.specs.declared.kind.PartKind.{PartKind}

-- ---- ids

abbrev pub is_among : List ℤ → ℤ → Bool
is_among ids id = list_any (int_eq id) ids

-- whether no two of these are one
abbrev pub are_distinct : List ℤ → Bool
are_distinct [] = true
are_distinct (id ∷ ids) = not (is_among ids id) && are_distinct ids

abbrev pub is_among_if_any : List ℤ → Option ℤ → Bool
is_among_if_any ids None = true
is_among_if_any ids (Some id) = is_among ids id

-- ---- the grammar

abbrev pub have_own_ids : Metadata → List ℤ → Bool
have_own_ids m schemas = are_distinct schemas && (are_distinct (spec_ids m) && are_distinct (snapshot_ids m))

abbrev pub are_held : Metadata → List ℤ → Bool
are_held m schemas = is_among schemas m.current_schema && (is_among (spec_ids m) m.default_spec && is_among_if_any (snapshot_ids m) m.current_snapshot)

abbrev pub is_consistent : Metadata → List ℤ → Bool
is_consistent m schemas =
    have_own_ids m schemas && (are_held m schemas && (list_all (λ s. is_among_if_any schemas s.schema_id) m.snapshots && list_all (λ s. names_path (front_of m.location) s.list) m.snapshots))

-- the members that are kept, beside these schemas
unfoldable pub members : Data → List HeldSchema → Result Metadata MetadataError
members d schemas = do
  uuid ← text_in (codes "table-uuid") d
  location ← text_in (codes "location") d
  last_sequence ← whole_in (codes "last-sequence-number") d
  last_updated ← whole_in (codes "last-updated-ms") d
  last_column_id ← int_in (codes "last-column-id") d
  schema ← int_in (codes "current-schema-id") d
  listed ← list_in (codes "partition-specs") d
  specs ← each spec (items listed)
  default_spec ← int_in (codes "default-spec-id") d
  last_partition_id ← int_in (codes "last-partition-id") d
  stated ← properties (present (codes "properties") d)
  current ← current_snapshot (present (codes "current-snapshot-id") d)
  held ← snapshots (present (codes "snapshots") d)
  Ok (record { uuid = uuid; location = location; last_sequence = last_sequence; last_updated = last_updated; last_column_id = last_column_id; schemas = schemas; current_schema = schema; specs = specs; default_spec = default_spec; last_partition_id = last_partition_id; properties = stated; current_snapshot = current; snapshots = held })

-- the members that aren't
unfoldable pub unkept : Data → Result (Unit {0}) MetadataError
unkept d = do
  orders ← list_in (codes "sort-orders") d
  order ← int_in (codes "default-sort-order-id") d
  if refs_fit (present (codes "refs") d) then Ok tt else Err Malformed

abbrev pub consistent : Metadata → List ℤ → Result (Unit {0}) MetadataError
consistent m schemas = if is_consistent m schemas then Ok tt else Err Malformed

-- the format version is 2
abbrev pub version_two : Option ℤ → Result (Unit {0}) MetadataError
version_two None = Err Malformed
version_two (Some version) = if int_eq version (pos 2) then Ok tt else Err FormatVersion

-- what the value says, and the schemas that can't be taken over
unfoldable pub contents : Data → Result (Metadata × List HeldUnread) MetadataError
contents d = do
  version ← version_two (format_version d)
  listed ← list_in (codes "schemas") d
  readings ← each schema_reading (items listed)
  m ← members d (readable readings)
  others ← unkept d
  is ← consistent m (schema_ids readings)
  Ok (m, unread readings)

-- ---- features and numbers

abbrev pub is_schema_type : MetadataError → Bool
is_schema_type SchemaType = true
is_schema_type _ = false

abbrev pub is_limit_of_columns : MetadataError → Bool
is_limit_of_columns (Limit limit.Columns) = true
is_limit_of_columns _ = false

abbrev pub is_limit_of_depth : MetadataError → Bool
is_limit_of_depth (Limit limit.Depth) = true
is_limit_of_depth _ = false

abbrev pub is_other_transform : SpecField → Bool
is_other_transform f = not (bytes_eq f.transform (codes "identity"))

abbrev pub is_path : Option Path → Path → Bool
is_path None path = false
is_path (Some p) path = pointwise bytes_eq p path

abbrev pub is_id : Option ℤ → ℤ → Bool
is_id None id = false
is_id (Some i) id = int_eq i id

-- whether the path and the id of a column are those that were met first
abbrev pub is_first : List PathId → PathId → Bool
is_first all p = is_path (path_of all p.1) p.0 && is_id (known_id all p.0) p.1

abbrev pub is_renamed : List PathId → Bool
is_renamed pairs = not (list_all (is_first pairs) pairs)

abbrev pub lacks_kinds : List SpecField → Option (ℤ → Option PartKind) → Bool
lacks_kinds fields None = false
lacks_kinds fields (Some kinds) = not (are_distinct (sources fields)) || list_any (λ f. is_none (kinds f.source_id)) fields

abbrev pub has_other_partition : Metadata → List HeldUnread → Bool
has_other_partition m unread = lacks_kinds (default_fields m) (current_kinds m unread)

-- the first of these whose test is true
abbrev pub first_that : List (Bool × MetadataError) → Option MetadataError
first_that [] = None
first_that (c ∷ cs) = if c.0 then Some c.1 else first_that cs

-- the tests of what isn't supported, and of the numbers, in their order
abbrev pub tests : Metadata → List HeldUnread → List (Bool × MetadataError)
tests m unread =
    (list_any is_schema_type (refusals unread), SchemaType)
    ∷ (list_any is_other_transform (default_fields m), Transform)
    ∷ (is_renamed (all_path_ids unread m.schemas), Renamed)
    ∷ (has_other_partition m unread, PartitionType)
    ∷ (list_any is_limit_of_columns (refusals unread), Limit limit.Columns)
    ∷ (list_any is_limit_of_depth (refusals unread), Limit limit.Depth)
    ∷ (nat_lt MAX_PARTITION_COLUMNS (length (default_fields m)), Limit limit.PartitionColumns) ∷ []

-- the first number that is passed
abbrev pub limit_passed : List SpecField → List HeldUnread → Option LimitKind
limit_passed fields unread =
    if list_any is_limit_of_columns (refusals unread) then Some limit.Columns
    else (if list_any is_limit_of_depth (refusals unread) then Some limit.Depth
    else (if nat_lt MAX_PARTITION_COLUMNS (length fields) then Some limit.PartitionColumns else None))

abbrev pub refused_by : Option MetadataError → Result (Unit {0}) MetadataError
refused_by None = Ok tt
refused_by (Some e) = Err e

abbrev pub judged : Metadata → List HeldUnread → Result (Unit {0}) MetadataError
judged m unread = refused_by (first_that (tests m unread))

-- ---- the text

unfoldable pub metadata_of : List ℕ → Result Metadata MetadataError
metadata_of bytes = do
  d ← required Malformed (json bytes)
  c ← contents d
  taken ← judged c.0 c.1
  Ok c.0
