-- The history of an Iceberg table that its newest metadata still holds (Iceberg specification, "Snapshots" and "Scan Planning").
use Rattle.std.specs.Prelude.{◌≡◌, ℕ, List, [], ◌∷◌, ◌++◌, reverse}
use Rattle.std.specs.Fmt.{signed_decimal}
use Rattle.lake_store.specs.Disk.{Files}
use Rattle.table_history.specs.History.{History}
use Rattle.table_history.specs.declared.table.Table.{Table}
use Rattle.iceberg_ancestry.specs.Ancestry.{IsAncestry}
use Rattle.iceberg_metadata.specs.declared.metadata.Metadata.{Metadata}
use Rattle.iceberg_metadata.specs.declared.metadata.Snapshot.{Snapshot}
use Rattle.iceberg_table.specs.Snapshots.{IsReadAs, IsTableOfSnapshot}
use Rattle.iceberg_table.specs.declared.snapshot.SnapshotTable.{SnapshotTable}
use Rattle.source_iceberg.specs.Heads.{StatesMetadata}

-- The entry is the snapshot's: its position is the snapshot's id in decimal, and where the snapshot can be read, its table is the one that the snapshot
-- stands for. Where its list or a manifest isn't in its grammar, shows a feature, or has too many values or entries to be read, nothing is said of the table.
pub record IsEntryOf (files : Files) (m : Metadata) (s : Snapshot) (entry : List ℕ × Table) : Type 0 where
  pub position : entry.0 ≡ signed_decimal s.id
  pub table : (read : SnapshotTable) → IsReadAs files m s read → IsTableOfSnapshot files m s entry.1

-- one entry for each snapshot
abbrev pub AreEntriesOf : Files → Metadata → List Snapshot → History → Type 0
AreEntriesOf files m [] entries = entries ≡ []
AreEntriesOf files m (s ∷ ss) entries = (entry : List ℕ × Table) × (rest : History) × (entries ≡ entry ∷ rest) × IsEntryOf files m s entry × AreEntriesOf files m ss rest

-- The last entries of the history are those of the ancestors of the current snapshot that the newest metadata holds, the oldest first. Of those before them
-- nothing is said. So it is too where the metadata shows a feature or passes a number, for which its table isn't read. It has such ancestors where its
-- parents form no cycle.
pub record HoldsHistory (files : Files) (history : History) : Type 0 where
  pub version : ℕ
  pub metadata : Metadata
  pub newest : StatesMetadata files version metadata
  pub ancestors : List Snapshot
  pub are : IsAncestry metadata ancestors
  pub earlier : History
  pub kept : History
  pub split : history ≡ earlier ++ kept
  pub entries : AreEntriesOf files metadata (reverse ancestors) kept
