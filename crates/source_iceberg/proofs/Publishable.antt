-- The table that a snapshot stands for may be published.
use Rattle.table_history.specs.declared.table.Table.{Table}
use Rattle.partition_map.proofs.KindLemmas.{kind_exactly}
use Rattle.iceberg_table.specs.Tables.{IsTableOfSnapshots}
use Rattle.target_core.specs.Conditions.{IsPublishable}

pub publishable_of_snapshot : (t : Table) → IsTableOfSnapshots t → IsPublishable t
publishable_of_snapshot t is = record {
  sound = is.sound;
  paths = is.paths;
  live_files = is.live_files;
  partition_columns = is.partition_columns;
  partition_distinct = is.partition_distinct;
  partition_kinds = λ name there. (kind_exactly t.schema name).0 (is.partition_kinds name there);
  schema = is.schema;
  size = is.size;
}

-- ---- and the other way round

pub snapshot_of_publishable : (t : Table) → IsPublishable t → IsTableOfSnapshots t
snapshot_of_publishable t is = record {
  partition_distinct = is.partition_distinct;
  partition_kinds = λ name there. (kind_exactly t.schema name).1 (is.partition_kinds name there);
  sound = is.sound;
  paths = is.paths;
  partition_columns = is.partition_columns;
  live_files = is.live_files;
  schema = is.schema;
  size = is.size;
}
