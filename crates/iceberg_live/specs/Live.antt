-- The rows of a manifest that are live (Iceberg specification, "Scan Planning" and "Sequence Number Inheritance").
use Rattle.std.specs.Prelude.{◌≡◌, ℕ, ℤ, ◌<◌, ◌⊎◌, ◌==◌, nat_le, List, ◌++◌, length, Option, None, Some, Result, Ok, Err, if◌then◌else◌}
use Rattle.std.specs.List.{filter}
use Rattle.lake_basics.specs.Outcome.{◌>>=◌, each}
use Rattle.lake_basics.specs.declared.limits.TheConstants.{MAX_PATH_BYTES}
use Rattle.table_history.specs.Path.{IsPath, is_path_of_any_length}
use Rattle.iceberg_manifest.specs.Entry.{EntryData, is_live}
use Rattle.iceberg_metadata.specs.Location.{front_of, behind}
use Rattle.iceberg_manifest.specs.declared.error.Fault.{Fault}
use Rattle.iceberg_manifest.specs.declared.error.Fault.TheVariants.{Malformed, OutsideTable, LongPath}
use Rattle.iceberg_manifest.specs.declared.info.ManifestInfo.{ManifestInfo}
use Rattle.iceberg_live.specs.declared.live.LiveRow.{LiveRow}

-- ---- what it means

-- The number of an entry. That of an added entry may be null, and is then taken from the manifest's row in its list.
abbrev pub IsInherited : ℕ → Option ℤ → ℤ → ℤ → Type 0
IsInherited status number from n = (number ≡ Some n) ⊎ ((number ≡ None) × (status ≡ 1) × (n ≡ from))

-- The entry is live, and this is its row: its file lies in the table's location.
pub record IsRowOf (location : List ℕ) (info : ManifestInfo) (e : EntryData) (r : LiveRow) : Type 0 where
  pub live : e.status < 2
  pub place : e.path ≡ front_of location ++ r.row.path
  pub path : IsPath r.row.path
  pub values : r.row.values ≡ e.values
  pub count : r.row.count ≡ e.count
  pub size : r.row.size ≡ e.size
  pub snapshot : IsInherited e.status e.snapshot info.added_snapshot_id r.snapshot
  pub sequence : IsInherited e.status e.sequence info.sequence_number r.sequence
  pub file_sequence : (n : ℤ) × IsInherited e.status e.file_sequence info.sequence_number n

-- ---- the same as a function, with the first fault

abbrev pub path_in_table : List ℕ → Result (List ℕ) Fault
path_in_table rest = if is_path_of_any_length rest then (if nat_le (length rest) MAX_PATH_BYTES then Ok rest else Err LongPath) else Err Malformed

abbrev pub path_within : Option (List ℕ) → Result (List ℕ) Fault
path_within None = Err OutsideTable
path_within (Some rest) = path_in_table rest

abbrev pub row_path : List ℕ → List ℕ → Result (List ℕ) Fault
row_path front path = path_within (behind front path)

abbrev pub inherited : ℕ → Option ℤ → ℤ → Result ℤ Fault
inherited status (Some n) from = Ok n
inherited status None from = if status == 0 then Err Malformed else Ok from

-- the row of a live entry
unfoldable pub live_row : List ℕ → ManifestInfo → EntryData → Result LiveRow Fault
live_row front info e = do
  snapshot ← inherited e.status e.snapshot info.added_snapshot_id
  sequence ← inherited e.status e.sequence info.sequence_number
  file_sequence ← inherited e.status e.file_sequence info.sequence_number
  path ← row_path front e.path
  Ok (record { row = record { path = path; values = e.values; count = e.count; size = e.size }; snapshot = snapshot; sequence = sequence })

abbrev pub rows_in : List ℕ → ManifestInfo → List EntryData → Result (List LiveRow) Fault
rows_in front info entries = each (live_row front info) (filter is_live entries)
