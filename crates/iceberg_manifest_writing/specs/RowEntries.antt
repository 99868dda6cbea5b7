-- What the entries that are written stand for (Iceberg specification, "Manifest Entry Fields").
use Rattle.std.specs.Prelude.{ℕ, List, ◌++◌}
use Rattle.iceberg_manifest.specs.Entry.{EntryData}
use Rattle.iceberg_manifest_writing.specs.declared.row_entry.EntryStatus.{EntryStatus}
use Rattle.iceberg_manifest_writing.specs.declared.row_entry.EntryStatus.TheVariants.{Added, Deleted, Existing}
use Rattle.iceberg_manifest_writing.specs.declared.row_entry.RowEntry.{RowEntry}

abbrev pub status_number : EntryStatus → ℕ
status_number Existing = 0
status_number Added = 1
status_number Deleted = 2

-- The entry of a row, where the paths of the table's files are written with this before them. One sequence number is that of its data and of its file.
abbrev pub entry_in : List ℕ → RowEntry → EntryData
entry_in front e = record {
  status = status_number e.status;
  snapshot = e.snapshot;
  sequence = e.sequence;
  file_sequence = e.sequence;
  path = front ++ e.row.now.path;
  values = e.row.now.values;
  count = e.row.now.count;
  size = e.row.now.size;
}
