-- What is kept of the schemas that a table holds.
use Rattle.std.specs.Prelude.{List, [], ◌∷◌, ◌++◌, Result, Ok}
use Rattle.serde_json.specs.Data.{Data}
use Rattle.lake_basics.specs.Outcome.{◌>>=◌, each}
use Rattle.iceberg_metadata.specs.declared.error.MetadataError.{MetadataError}
use Rattle.iceberg_schemas.specs.declared.schemas.HeldSchemas.{HeldSchemas}
use Rattle.iceberg_metadata.specs.Schemas.{SchemaReading, schema_reading, held_as, readable, unread_as, unread, schema_ids}

-- these, and one more
abbrev pub with_reading : HeldSchemas → SchemaReading → HeldSchemas
with_reading h r = record { read = h.read ++ held_as r.0 r.1; ids = h.ids ++ r.0 ∷ []; unread = h.unread ++ unread_as r.0 r.1 }

-- these, and more
abbrev pub with_readings : HeldSchemas → List SchemaReading → HeldSchemas
with_readings h rs = record { read = h.read ++ readable rs; ids = h.ids ++ schema_ids rs; unread = h.unread ++ unread rs }

abbrev pub held_schemas : List SchemaReading → HeldSchemas
held_schemas rs = record { read = readable rs; ids = schema_ids rs; unread = unread rs }

-- what is kept of the schemas that these values are
abbrev pub each_schema : List Data → Result HeldSchemas MetadataError
each_schema ds = each schema_reading ds >>= λ rs. Ok (held_schemas rs)

-- these, and what is kept of more
abbrev pub each_beside : HeldSchemas → List Data → Result HeldSchemas MetadataError
each_beside h ds = each schema_reading ds >>= λ rs. Ok (with_readings h rs)
