-- What is kept of the manifests that are read, for the contracts of the parts.
use Rattle.std.specs.Prelude.{◌≡◌, Bool, true, List}
use Rattle.table_history.specs.declared.table.Table.{Table}
use Rattle.iceberg_manifest.specs.declared.partition.PartColumn.{PartColumn}
use Rattle.iceberg_table.specs.Kinds.{FitRows}
use Rattle.iceberg_table.specs.Tables.{AreOfContents, IsTableOfRows, TakeNoDeletes, rows_of}
use Rattle.iceberg_table.specs.declared.manifest.Manifest.{Manifest}
use Rattle.iceberg_table.specs.declared.snapshot.SnapshotTable.{SnapshotTable}

-- The rows of these manifests are in the table, which was this empty one, and where the manifests are kept, they stand beside it.
pub record IsMadeOf (keep : Bool) (columns : List PartColumn) (empty : Table) (manifests : List Manifest) (t : SnapshotTable) : Type 0 where
  pub table : IsTableOfRows empty.schema empty.partition (rows_of manifests) t.table
  pub fit : FitRows columns (rows_of manifests)
  pub no_deletes : TakeNoDeletes manifests
  pub contents : AreOfContents manifests
  pub kept : keep ≡ true → t.manifests ≡ manifests

-- This is the table of all that was read, and where the manifests are kept, it is all.
pub record IsKeptOf (keep : Bool) (whole : SnapshotTable) (t : SnapshotTable) : Type 0 where
  pub table : whole.table ≡ t.table
  pub same : keep ≡ true → whole ≡ t
