-- What holds of all that is kept of an Iceberg target, whoever gave it.
use Rattle.std.specs.Prelude.{◌≡◌, ◌≤ℤ◌, ◌&&◌, ◌||◌, ◌^◌, ℕ, ℤ, pos, negsuc, int_lt, nat_le, nat_lt, not, is_some, Bool, false, List, [], length, map, flat_map, Contains, IfSome, Result, Ok, Err, unwrap_or}
use Rattle.std.specs.Cmp.Lexicographic.{pointwise}
use Rattle.std.specs.List.{IsDistinct, list_all, list_any}
use Rattle.std.specs.Ordering.{int_eq}
use Rattle.std.specs.Str.{bytes_eq}
use Rattle.lake_basics.specs.declared.limits.TheConstants.{MAX_LIVE_FILES}
use Rattle.table_history.specs.Row.{Row}
use Rattle.table_history.specs.TypeEq.{columns_eq}
use Rattle.table_history.specs.TypeTree.{ColumnTrees}
use Rattle.schema_map.specs.Image.{wide_columns}
use Rattle.schema_iceberg.specs.Iceberg.{iceberg_schema}
use Rattle.schema_map.specs.declared.fault.MapError.{MapError}
use Rattle.file_links.specs.Rows.{Entry, OwnedRows, Owns, rows_of}
use Rattle.iceberg_manifest.specs.declared.info.ManifestInfo.{ManifestInfo}
use Rattle.iceberg_metadata.specs.Grammar.{snapshot_ids}
use Rattle.iceberg_metadata.specs.Judging.{are_distinct, is_among_if_any, is_renamed}
use Rattle.iceberg_metadata.specs.Location.{NamesPath, front_of, names_path}
use Rattle.iceberg_metadata.specs.Paths.{IsRenamed, path_ids}
use Rattle.iceberg_metadata.specs.Schemas.{HeldSchema}
use Rattle.iceberg_metadata.specs.Writing.{CanBeHeld, schema_data}
use Rattle.iceberg_metadata.specs.declared.metadata.Metadata.{Metadata}
use Rattle.iceberg_metadata.specs.declared.metadata.Snapshot.{Snapshot}

abbrev pub is_under : ℕ → ℤ → Bool
is_under n (pos i) = nat_lt i n
is_under n (negsuc i) = false

-- whether the ids of the held schemas are those from 0 on, each once
abbrev pub have_first_ids : List HeldSchema → Bool
have_first_ids schemas = are_distinct (map (λ s. s.0) schemas) && list_all (λ s. is_under (length schemas) s.0) schemas

-- whether the schema is its own Image in Iceberg's types
abbrev pub is_own_image : ColumnTrees → Bool
is_own_image schema = columns_eq (wide_columns schema) schema

-- whether the version that added the row is a whole number of 64 bits
abbrev pub is_born : Entry → Bool
is_born e = nat_lt e.held.born (2 ^ 63)

-- whether the owner is there, with no more rows than a table may have, each added by some version
abbrev pub is_sound_owner : OwnedRows → ℕ → Bool
is_sound_owner links owner = is_some (rows_of links owner) && (nat_le (length (unwrap_or (rows_of links owner) [])) MAX_LIVE_FILES && list_all is_born (unwrap_or (rows_of links owner) []))

-- whether a row of the table has the path of this one
abbrev pub is_of : List Row → Entry → Bool
is_of rows e = list_any (λ row. bytes_eq row.path e.held.row.path) rows

-- whether each held row has the path of a row of the table
abbrev pub are_of : List Row → OwnedRows → Bool
are_of rows links = list_all (λ owned. list_all (is_of rows) (unwrap_or owned [])) links.owners

-- Each held row is a row of the table.
abbrev pub AreRowsOf : List Row → OwnedRows → Type 0
AreRowsOf rows links = (owner : ℕ) (e : Entry) → Owns links owner e → Contains rows e.held.row

-- No two owners have rows of one path.
abbrev pub OwnEachPath : OwnedRows → Type 0
OwnEachPath links = (a b : ℕ) (d e : Entry) → Owns links a d → Owns links b e → d.held.row.path ≡ e.held.row.path → a ≡ b

-- ---- manifests

-- whether the manifest has data or deletes
abbrev pub has_content : ManifestInfo → Bool
has_content info = int_eq info.content (pos 0) || int_eq info.content (pos 1)

-- ---- metadata

-- the ids of the held schemas
abbrev pub held_schema_ids : Metadata → List ℤ
held_schema_ids m = map (λ s. s.0) m.schemas

-- the field ids of all held schemas
abbrev pub held_field_ids : Metadata → List ℤ
held_field_ids m = flat_map (λ s. s.2) m.schemas

-- Metadata of a version of this number, or of one before it, that can be written: its schemas can be read, no field id is past the last one that was
-- given, no column is renamed, no two snapshots have one id, none is past the version, and the schema and the list of each are held and named.
pub record IsSoundMetadata (version : ℕ) (m : Metadata) : Type 0 where
  pub schemas : (s : HeldSchema) → Contains m.schemas s → CanBeHeld s
  pub field_ids : (id : ℤ) → Contains (held_field_ids m) id → id ≤ℤ m.last_column_id
  pub renamed : ¬ IsRenamed (flat_map path_ids m.schemas)
  pub own_snapshots : IsDistinct int_eq (snapshot_ids m)
  pub numbers : (s : Snapshot) → Contains m.snapshots s → s.id ≤ℤ pos version
  pub snapshot_schemas : (s : Snapshot) → Contains m.snapshots s → IfSome s.schema_id (λ id. Contains (held_schema_ids m) id)
  pub lists : (s : Snapshot) → Contains m.snapshots s → NamesPath m.location s.list

-- the same as a test

abbrev pub is_same_schema : HeldSchema → Result (ColumnTrees × List ℤ) MapError → Bool
is_same_schema s (Ok p) = columns_eq p.0 s.1 && pointwise int_eq p.1 s.2
is_same_schema s (Err e) = false

-- whether the JSON of the schema is read as it
abbrev pub is_read_again : HeldSchema → Bool
is_read_again s = is_same_schema s (iceberg_schema (schema_data s))

abbrev pub is_upto : ℤ → ℤ → Bool
is_upto last id = not (int_lt last id)

abbrev pub is_sound_snapshot : ℕ → Metadata → Snapshot → Bool
is_sound_snapshot version m s = is_upto (pos version) s.id && (is_among_if_any (held_schema_ids m) s.schema_id && names_path (front_of m.location) s.list)

abbrev pub is_sound_metadata : ℕ → Metadata → Bool
is_sound_metadata version m =
    list_all is_read_again m.schemas && (list_all (is_upto m.last_column_id) (held_field_ids m) && (not (is_renamed (flat_map path_ids m.schemas)) && (are_distinct (snapshot_ids m) && list_all (is_sound_snapshot version m) m.snapshots)))
