-- The entries of a manifest as its Avro values say them (Iceberg specification, "Manifest Entry Fields").
-- The numbers are the ids of the fields there.
use Rattle.std.specs.Prelude.{ℕ, ℤ, pos, negsuc, nat_lt, Bool, List, Result, Ok, Err, codes, if◌then◌else◌}
use Rattle.std.specs.Ordering.{int_eq}
use Rattle.std.specs.Str.{str_eq_ignore_ascii_case}
use Rattle.lake_basics.specs.Outcome.{◌>>=◌, each, required, with_fault}
use Rattle.avro_schema.specs.Tree.{SchemaTree, FieldTrees}
use Rattle.avro_value.specs.ValueTree.{ValueTree, ValueTrees}
use Rattle.iceberg_manifest.specs.Entry.{EntryData}
use Rattle.iceberg_manifest.specs.Fields.{Reading, record_fields, place_of, required_place, record_place}
use Rattle.iceberg_manifest.specs.Values.{whole_if_any, required_whole, whole_or_zero, sequence_at, int_of, required_natural, required_text, record_value, required_record}
use Rattle.iceberg_manifest.specs.Partition.{column_place, parts_in}
use Rattle.iceberg_manifest.specs.Entry.{is_live}
use Rattle.iceberg_manifest.specs.declared.error.Flaw.{Flaw}
use Rattle.iceberg_manifest.specs.declared.error.Flaw.TheVariants.{Malformed}
use Rattle.iceberg_manifest.specs.declared.error.EntryFault.{EntryFault}
use Rattle.iceberg_manifest.specs.declared.error.EntryFault.TheVariants as fault
use Rattle.iceberg_manifest.specs.declared.field.FieldKind.TheVariants.{Whole, Text}
use Rattle.iceberg_manifest.specs.declared.partition.PartColumn.{PartColumn}
use Rattle.iceberg_manifest.specs.declared.plan.FilePlan.{FilePlan}
use Rattle.iceberg_manifest.specs.declared.plan.EntryPlan.{EntryPlan}
use Rattle.iceberg_manifest.specs.declared.data_file.DataFile.{DataFile}
use Rattle.iceberg_manifest.specs.declared.data_file.EntryRecord.{EntryRecord}

-- ---- where the fields are

-- the fields of `data_file`
unfoldable pub file_plan : List PartColumn → FieldTrees → Reading FilePlan
file_plan columns fields = do
  content ← place_of Whole (pos 134) fields
  path ← required_place Text (pos 100) fields
  format ← required_place Text (pos 101) fields
  partition ← record_place (pos 102) fields
  count ← required_place Whole (pos 103) fields
  size ← required_place Whole (pos 104) fields
  places ← each (column_place partition.1) columns
  Ok (record { content = content; path = path; format = format; partition = partition.0; count = count; size = size; columns = places })

-- the fields of `manifest_entry`
unfoldable pub entry_plan : List PartColumn → SchemaTree → Reading EntryPlan
entry_plan columns t = do
  fields ← required Malformed (record_fields t)
  status ← required_place Whole (pos 0) fields
  snapshot ← place_of Whole (pos 1) fields
  sequence ← place_of Whole (pos 3) fields
  file_sequence ← place_of Whole (pos 4) fields
  file ← record_place (pos 2) fields
  fields_in_file ← file_plan columns file.1
  Ok (record { status = status; snapshot = snapshot; sequence = sequence; file_sequence = file_sequence; file = file.0; fields = fields_in_file })

-- ---- what is there

-- existing, added or deleted
abbrev pub status_of : ℤ → Reading ℕ
status_of (pos n) = if nat_lt n 3 then Ok n else Err Malformed
status_of (negsuc n) = Err Malformed

-- Parquet, in any letter case
abbrev pub is_parquet : List ℕ → Bool
is_parquet format = str_eq_ignore_ascii_case format (codes "parquet")

-- the file of an entry: content 0 where it has none
unfoldable pub data_file : FilePlan → ValueTrees → Reading DataFile
data_file plan vs = do
  content ← whole_or_zero vs plan.content
  kind ← int_of content
  path ← required_text vs plan.path
  format ← required_text vs plan.format
  partition ← required_record vs plan.partition
  values ← parts_in partition plan.columns
  count ← required_natural vs plan.count
  size ← required_natural vs plan.size
  Ok (record { content = kind; is_parquet = is_parquet format; path = path; values = values; count = count; size = size })

-- an entry, live or not
unfoldable pub entry_record : EntryPlan → ValueTree → Reading EntryRecord
entry_record plan v = do
  vs ← record_value v
  word ← required_whole vs plan.status
  status ← status_of word
  snapshot ← whole_if_any vs plan.snapshot
  sequence ← sequence_at vs plan.sequence
  file_sequence ← sequence_at vs plan.file_sequence
  within ← required_record vs plan.file
  file ← data_file plan.fields within
  Ok (record { content = file.content; is_parquet = file.is_parquet; entry = record { status = status; snapshot = snapshot; sequence = sequence; file_sequence = file_sequence; path = file.path; values = file.values; count = file.count; size = file.size } })

-- ---- the entries

abbrev pub fault_of : Flaw → EntryFault
fault_of Malformed = fault.Malformed

-- A live entry is a data file, and its format is Parquet.
abbrev pub judged : EntryRecord → Result EntryData EntryFault
judged r = if is_live r.entry then (if int_eq r.content (pos 0) then (if r.is_parquet then Ok r.entry else Err fault.FileFormat) else Err fault.RowDeletes) else Ok r.entry

unfoldable pub entry_by : EntryPlan → ValueTree → Result EntryData EntryFault
entry_by plan v = with_fault fault_of (entry_record plan v) >>= judged

-- the entries that these values of the schema stand for
unfoldable pub entries_in : List PartColumn → SchemaTree → List ValueTree → Result (List EntryData) EntryFault
entries_in columns t vs = with_fault fault_of (entry_plan columns t) >>= λ plan. each (entry_by plan) vs
