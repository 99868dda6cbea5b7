-- A snapshot's own table behind the one before it (Iceberg specification, "Scan Planning").
use Rattle.std.specs.Prelude.{◌≡◌, Some}
use Rattle.lake_store.specs.Disk.{Files}
use Rattle.table_history.specs.Tables.{CanApply, IsDiff, LeadsTo}
use Rattle.table_history.specs.declared.table.Table.{Table}
use Rattle.iceberg_metadata.specs.Writing.{IsWritable}
use Rattle.iceberg_metadata.specs.declared.metadata.Metadata.{Metadata}
use Rattle.iceberg_metadata.specs.declared.metadata.Snapshot.{Snapshot}
use Rattle.iceberg_table.specs.Snapshots.{HasColumnsOf, IsReadAs, IsTableOfSnapshot}
use Rattle.iceberg_table.specs.Tables.{IsTableOfSnapshots}
use Rattle.iceberg_table.specs.declared.snapshot.SnapshotTable.{SnapshotTable}
use Rattle.iceberg_change.specs.declared.behind.Listed.{Listed}
use Rattle.iceberg_change.specs.declared.own.Own.{Own}
use Rattle.iceberg_change.specs.Behind.{GoesOn, IsListed}

-- a snapshot's own table, with what was read of its manifests
abbrev pub own_table : Own → SnapshotTable
own_table o = record { table = o.table; manifests = o.listed.manifests }

-- The change is what differs between the rows before and the snapshot's own, with its schema. It fits the table before, and leads to its own.
pub record IsOwn (tells : Type 0) (files : Files) (m : Metadata) (s : Snapshot) (before : Table) (was : Listed) (o : Own) : Type 0 where
  pub columns : HasColumnsOf m s o.table
  pub diff : IsDiff before.rows o.table.rows o.change.removed o.change.added
  pub schema : o.change.schema ≡ Some o.table.schema
  pub fits : CanApply before o.change
  pub leads : LeadsTo before.rows o.change.removed o.change.added o.table.rows
  pub sound : IsWritable m → IsTableOfSnapshots o.table
  pub goes_on : GoesOn o.table o.listed
  pub read : tells → IsListed files m.location was → IsReadAs files m s (own_table o)
  pub is : tells → IsListed files m.location was → IsTableOfSnapshot files m s o.table
  pub listed : tells → IsListed files m.location was → IsListed files m.location o.listed

-- The partition columns that the metadata gives the snapshot are those of the table before it.
abbrev pub KeepsPartition : Metadata → Snapshot → Table → Type 0
KeepsPartition m s before = (own : Table) → HasColumnsOf m s own → own.partition ≡ before.partition
