-- The rows of a manifest list as its Avro values say them (Iceberg specification, "Manifest Lists").
-- The numbers are the ids of the fields there.
use Rattle.std.specs.Prelude.{ℕ, ◌+◌, ℤ, pos, List, [], ◌∷◌, Option, Some, None, Ok, Err, if◌then◌else◌}
use Rattle.std.specs.Ordering.{int_eq}
use Rattle.lake_basics.specs.Outcome.{◌>>=◌, required}
use Rattle.avro_schema.specs.Tree.{SchemaTree, FieldTrees}
use Rattle.avro_value.specs.ValueTree.{ValueTree, ValueTrees}
use Rattle.iceberg_manifest.specs.Fields.{Reading, record_fields, place_of, required_place}
use Rattle.iceberg_manifest.specs.Values.{whole_if_any, required_whole, required_int, whole_or_zero, int_of, required_text, record_value}
use Rattle.iceberg_manifest.specs.declared.error.Flaw.TheVariants.{Malformed}
use Rattle.iceberg_manifest.specs.declared.field.FieldKind.TheVariants.{Whole, Text}
use Rattle.iceberg_manifest.specs.declared.info.ManifestInfo.{ManifestInfo}
use Rattle.iceberg_manifest.specs.declared.list.CountPlaces.{CountPlaces}
use Rattle.iceberg_manifest.specs.declared.list.ListPlan.{ListPlan}
use Rattle.iceberg_manifest.specs.declared.list.Counts.{Counts}
use Rattle.iceberg_manifest.specs.declared.list.RowNumbers.{RowNumbers}

-- ---- where the fields are

unfoldable pub count_places : FieldTrees → Reading CountPlaces
count_places fields = do
  added_files ← place_of Whole (pos 504) fields
  existing_files ← place_of Whole (pos 505) fields
  deleted_files ← place_of Whole (pos 506) fields
  added_rows ← place_of Whole (pos 512) fields
  existing_rows ← place_of Whole (pos 513) fields
  deleted_rows ← place_of Whole (pos 514) fields
  Ok (record { added_files = added_files; existing_files = existing_files; deleted_files = deleted_files; added_rows = added_rows; existing_rows = existing_rows; deleted_rows = deleted_rows })

-- the fields of `manifest_file`
unfoldable pub list_plan : SchemaTree → Reading ListPlan
list_plan t = do
  fields ← required Malformed (record_fields t)
  path ← required_place Text (pos 500) fields
  manifest_length ← required_place Whole (pos 501) fields
  spec ← required_place Whole (pos 502) fields
  content ← place_of Whole (pos 517) fields
  sequence ← place_of Whole (pos 515) fields
  least ← place_of Whole (pos 516) fields
  snapshot ← required_place Whole (pos 503) fields
  counts ← count_places fields
  Ok (record { path = path; size = manifest_length; spec = spec; content = content; sequence = sequence; least = least; snapshot = snapshot; counts = counts })

-- ---- what is there

-- data or deletes
abbrev pub content_of : ℤ → Reading ℤ
content_of n = if int_eq n (pos 0) then Ok (pos 0) else (if int_eq n (pos 1) then Ok (pos 1) else Err Malformed)

abbrev pub count_or : ℤ → Option ℤ → Reading ℤ
count_or content (Some n) = Ok n
count_or content None = if int_eq content (pos 0) then Ok (pos 0) else Err Malformed

-- a count, which may be absent in a row of data, and then is 0
unfoldable pub count_at : ℤ → ValueTrees → Option ℕ → Reading ℤ
count_at content vs place = whole_if_any vs place >>= count_or content

unfoldable pub counts_at : ℤ → CountPlaces → ValueTrees → Reading Counts
counts_at content places vs = do
  added ← count_at content vs places.added_files
  added_files ← int_of added
  existing ← count_at content vs places.existing_files
  existing_files ← int_of existing
  deleted ← count_at content vs places.deleted_files
  deleted_files ← int_of deleted
  added_rows ← count_at content vs places.added_rows
  existing_rows ← count_at content vs places.existing_rows
  deleted_rows ← count_at content vs places.deleted_rows
  Ok (record { added_files = added_files; existing_files = existing_files; deleted_files = deleted_files; added_rows = added_rows; existing_rows = existing_rows; deleted_rows = deleted_rows })

-- the content of a row
unfoldable pub content_at : ListPlan → ValueTrees → Reading ℤ
content_at plan vs = whole_or_zero vs plan.content >>= content_of

-- the numbers of a row other than its counts
unfoldable pub numbers_at : ListPlan → ValueTrees → Reading RowNumbers
numbers_at plan vs = do
  size ← required_whole vs plan.size
  spec ← required_int vs plan.spec
  sequence ← whole_or_zero vs plan.sequence
  least ← whole_or_zero vs plan.least
  snapshot ← required_whole vs plan.snapshot
  Ok (record { size = size; spec = spec; sequence = sequence; least = least; snapshot = snapshot })

unfoldable pub info_of : List ℕ → ℤ → RowNumbers → Counts → ℕ → ManifestInfo
info_of path content numbers counts place = record { manifest_path = path; manifest_length = numbers.size; partition_spec_id = numbers.spec; content = content; sequence_number = numbers.sequence; min_sequence_number = numbers.least; added_snapshot_id = numbers.snapshot; added_files_count = counts.added_files; existing_files_count = counts.existing_files; deleted_files_count = counts.deleted_files; added_rows_count = counts.added_rows; existing_rows_count = counts.existing_rows; deleted_rows_count = counts.deleted_rows; place = place }

-- a row, with its place in the list
unfoldable pub list_row : ListPlan → ℕ → ValueTree → Reading ManifestInfo
list_row plan place v = do
  vs ← record_value v
  path ← required_text vs plan.path
  content ← content_at plan vs
  numbers ← numbers_at plan vs
  counts ← counts_at content plan.counts vs
  Ok (info_of path content numbers counts place)

-- the rows, the first of which has that place
abbrev pub list_rows : ListPlan → ℕ → List ValueTree → Reading (List ManifestInfo)
list_rows plan place [] = Ok []
list_rows plan place (v ∷ vs) = do
  first ← list_row plan place v
  others ← list_rows plan (place + 1) vs
  Ok (first ∷ others)

-- the rows that these values of the schema stand for
unfoldable pub infos_in : SchemaTree → List ValueTree → Reading (List ManifestInfo)
infos_in t vs = list_plan t >>= λ plan. list_rows plan 0 vs
