-- The schemas that a table holds (Iceberg specification, "Schemas").
use Rattle.std.specs.Prelude.{ℤ, List, [], ◌∷◌, ◌++◌, map, Result, Ok, Err, codes, if◌then◌else◌}
use Rattle.serde_json.specs.Data.{Data}
use Rattle.lake_basics.specs.Outcome.{◌>>=◌, with_fault}
use Rattle.json_reading.specs.Json.{items}
use Rattle.table_history.specs.TypeTree.{ColumnTrees}
use Rattle.schema_iceberg.specs.Iceberg.{iceberg_schema}
use Rattle.table_history.specs.declared.limit.LimitKind.{LimitKind}
use Rattle.table_history.specs.declared.limit.LimitKind.TheVariants.{Columns, Depth}
use Rattle.schema_map.specs.declared.fault.MapError.{MapError}
use Rattle.schema_map.specs.declared.fault.MapError.TheVariants as map_errors
use Rattle.iceberg_metadata.specs.declared.error.MetadataError.{MetadataError}
use Rattle.iceberg_metadata.specs.declared.error.MetadataError.TheVariants.{Memory, FormatVersion, Malformed, SchemaType, Transform, Renamed, PartitionType, Limit}
use Rattle.iceberg_metadata.specs.declared.outline.Outline.{Outline}
use Rattle.iceberg_metadata.specs.declared.unread.Unread.{Unread}
use Rattle.iceberg_metadata.specs.Members.{int_in, list_in}
use Rattle.iceberg_metadata.specs.Outlines.{schema_outline, field_kinds}

-- a held schema: its id, its columns, and their field ids, depth first
abbrev pub HeldSchema : Type 0
HeldSchema = ℤ × ColumnTrees × List ℤ

-- columns with their field ids, or why they can't be taken over, and what is known of them all the same
abbrev pub ReadColumns : Type 0
ReadColumns = Result (ColumnTrees × List ℤ) Unread

-- the id of a held schema, and its columns
abbrev pub SchemaReading : Type 0
SchemaReading = ℤ × ReadColumns

-- A schema has too many columns, or else too many levels.
abbrev pub size_limit : LimitKind → LimitKind
size_limit Columns = Columns
size_limit _ = Depth

abbrev pub refusal_of : MapError → MetadataError
refusal_of map_errors.Memory = Memory
refusal_of map_errors.BadSchema = Malformed
refusal_of (map_errors.SchemaType column) = SchemaType
refusal_of (map_errors.AvroName column) = SchemaType
refusal_of (map_errors.Limit which) = Limit (size_limit which)

-- A type that isn't supported is told before a number that is passed, wherever it stands.
abbrev pub first_refusal : Outline → MetadataError → MetadataError
first_refusal outline refusal = if outline.has_other then SchemaType else refusal

-- What is known of columns that are refused so, where the schema is in the grammar.
unfoldable pub unread_reading : MetadataError → Data → Result Unread MetadataError
unread_reading refusal d = do
  outline ← schema_outline d
  fields ← list_in (codes "fields") d
  Ok (record { refusal = first_refusal outline refusal; paths = outline.paths; kinds = field_kinds (items fields) })

abbrev pub kept_unread : MetadataError → Data → Result ReadColumns MetadataError
kept_unread refusal d = unread_reading refusal d >>= λ unread. Ok (Err unread)

-- A fault of the grammar is told at once, and any other refusal is kept.
abbrev pub refused_columns : MetadataError → Data → Result ReadColumns MetadataError
refused_columns Malformed d = Err Malformed
refused_columns Memory d = Err Memory
refused_columns FormatVersion d = kept_unread FormatVersion d
refused_columns SchemaType d = kept_unread SchemaType d
refused_columns Transform d = kept_unread Transform d
refused_columns Renamed d = kept_unread Renamed d
refused_columns PartitionType d = kept_unread PartitionType d
refused_columns (Limit which) d = kept_unread (Limit which) d

abbrev pub columns_by : Data → Result (ColumnTrees × List ℤ) MetadataError → Result ReadColumns MetadataError
columns_by d (Ok s) = Ok (Ok s)
columns_by d (Err refusal) = refused_columns refusal d

-- the columns of a schema with their field ids
abbrev pub columns_reading : Data → Result ReadColumns MetadataError
columns_reading d = columns_by d (with_fault refusal_of (iceberg_schema d))

unfoldable pub schema_reading : Data → Result SchemaReading MetadataError
schema_reading d = do
  id ← int_in (codes "schema-id") d
  columns ← columns_reading d
  Ok (id, columns)

abbrev pub held_as : ℤ → ReadColumns → List HeldSchema
held_as id (Ok s) = (id, s.0, s.1) ∷ []
held_as id (Err u) = []

-- the schemas that can be taken over
abbrev pub readable : List SchemaReading → List HeldSchema
readable [] = []
readable (r ∷ rs) = held_as r.0 r.1 ++ readable rs

-- a held schema that can't be taken over, with its id
abbrev pub HeldUnread : Type 0
HeldUnread = ℤ × Unread

abbrev pub unread_as : ℤ → ReadColumns → List HeldUnread
unread_as id (Ok s) = []
unread_as id (Err u) = (id, u) ∷ []

-- the others
abbrev pub unread : List SchemaReading → List HeldUnread
unread [] = []
unread (r ∷ rs) = unread_as r.0 r.1 ++ unread rs

-- why they can't
abbrev pub refusals : List HeldUnread → List MetadataError
refusals unread = map (λ u. u.1.refusal) unread

abbrev pub schema_ids : List SchemaReading → List ℤ
schema_ids readings = map (λ r. r.0) readings
