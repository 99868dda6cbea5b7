-- The members of table metadata by their kinds (Iceberg specification, "Table Metadata Fields", "Snapshots", "Partition Specs").
use Rattle.std.specs.Prelude.{ℕ, ℤ, pos, negsuc, List, [], Bool, true, Option, Some, None, is_some, option_and_then, Result, Ok, if◌then◌else◌, codes}
use Rattle.std.specs.Ordering.{int_eq}
use Rattle.serde_json.specs.Data.{Data, Items}
use Rattle.serde_json.specs.Find.{get, as_number, as_integer, as_array, as_object}
use Rattle.lake_basics.specs.Outcome.{◌>>=◌, required, each}
use Rattle.json_reading.specs.Json.{whole, int, text, text_member, bool_member, whole_member, int_member, list_member, items, pairs, present}
use Rattle.iceberg_metadata.specs.declared.error.MetadataError.{MetadataError}
use Rattle.iceberg_metadata.specs.declared.error.MetadataError.TheVariants.{Malformed}
use Rattle.iceberg_metadata.specs.declared.metadata.Snapshot.{Snapshot}
use Rattle.iceberg_metadata.specs.declared.metadata.Spec.{Spec}
use Rattle.iceberg_metadata.specs.declared.metadata.SpecField.{SpecField}

-- ---- the version of the format

-- a number that JSON spells with neither fraction nor exponent, of 64 bits, with a sign or without
abbrev pub integer : Data → Option ℤ
integer d = option_and_then as_integer (as_number d)

abbrev pub format_version : Data → Option ℤ
format_version d = option_and_then integer (get (codes "format-version") d)

-- ---- members that must be there

abbrev pub text_in : List ℕ → Data → Result (List ℕ) MetadataError
text_in name d = required Malformed (text_member name d)

abbrev pub whole_in : List ℕ → Data → Result ℤ MetadataError
whole_in name d = required Malformed (whole_member name d)

-- a whole number of 32 bits
abbrev pub int_in : List ℕ → Data → Result ℤ MetadataError
int_in name d = required Malformed (int_member name d)

abbrev pub list_in : List ℕ → Data → Result Items MetadataError
list_in name d = required Malformed (list_member name d)

abbrev pub bool_in : List ℕ → Data → Result Bool MetadataError
bool_in name d = required Malformed (bool_member name d)

-- of any kind
abbrev pub member_in : List ℕ → Data → Result Data MetadataError
member_in name d = required Malformed (get name d)

-- ---- members that may be absent or null, which is the same, and else are of their kind

abbrev pub whole_if_any : Option Data → Result (Option ℤ) MetadataError
whole_if_any None = Ok None
whole_if_any (Some d) = required Malformed (whole d) >>= λ n. Ok (Some n)

abbrev pub int_if_any : Option Data → Result (Option ℤ) MetadataError
int_if_any None = Ok None
int_if_any (Some d) = required Malformed (int d) >>= λ n. Ok (Some n)

abbrev pub text_if_any : Option Data → Result (Option (List ℕ)) MetadataError
text_if_any None = Ok None
text_if_any (Some d) = text Malformed d >>= λ t. Ok (Some t)

-- A snapshot of a table that was raised from format version 1 may lack its sequence number, which is 0.
abbrev pub sequence : Option Data → Result ℤ MetadataError
sequence None = Ok (pos 0)
sequence (Some d) = required Malformed (whole d)

-- the operation that a summary states, where there is one
abbrev pub operation : Option Data → Result (Option (List ℕ)) MetadataError
operation None = Ok None
operation (Some summary) = required Malformed (as_object summary) >>= λ members. text_if_any (present (codes "operation") summary)

abbrev pub unless_minus_one : ℤ → Option ℤ
unless_minus_one id = if int_eq id (negsuc 0) then None else Some id

-- Absent, null and -1 say that there is no current snapshot.
abbrev pub current_snapshot : Option Data → Result (Option ℤ) MetadataError
current_snapshot None = Ok None
current_snapshot (Some d) = required Malformed (whole d) >>= λ id. Ok (unless_minus_one id)

-- ---- partition specs

unfoldable pub spec_field : Data → Result SpecField MetadataError
spec_field d = do
  field_id ← int_in (codes "field-id") d
  source_id ← int_in (codes "source-id") d
  name ← text_in (codes "name") d
  transform ← text_in (codes "transform") d
  Ok (record { field_id = field_id; source_id = source_id; name = name; transform = transform })

unfoldable pub spec : Data → Result Spec MetadataError
spec d = do
  id ← int_in (codes "spec-id") d
  listed ← list_in (codes "fields") d
  fields ← each spec_field (items listed)
  Ok (record { id = id; fields = fields })

-- ---- snapshots

unfoldable pub snapshot : Data → Result Snapshot MetadataError
snapshot d = do
  id ← whole_in (codes "snapshot-id") d
  parent ← whole_if_any (present (codes "parent-snapshot-id") d)
  order ← sequence (present (codes "sequence-number") d)
  timestamp ← whole_in (codes "timestamp-ms") d
  manifests ← text_in (codes "manifest-list") d
  schema_id ← int_if_any (present (codes "schema-id") d)
  stated ← operation (present (codes "summary") d)
  Ok (record { id = id; parent = parent; sequence = order; timestamp = timestamp; list = manifests; schema_id = schema_id; operation = stated })

abbrev pub snapshots : Option Data → Result (List Snapshot) MetadataError
snapshots None = Ok []
snapshots (Some d) = required Malformed (as_array d) >>= λ listed. each snapshot (items listed)

-- ---- properties

abbrev pub property : List ℕ × Data → Result (List ℕ × List ℕ) MetadataError
property p = text Malformed p.1 >>= λ t. Ok (p.0, t)

abbrev pub properties : Option Data → Result (List (List ℕ × List ℕ)) MetadataError
properties None = Ok []
properties (Some d) = required Malformed (as_object d) >>= λ members. each property (pairs members)

-- ---- branches and tags, which aren't kept

-- an object, or absent
abbrev pub refs_fit : Option Data → Bool
refs_fit None = true
refs_fit (Some d) = is_some (as_object d)
