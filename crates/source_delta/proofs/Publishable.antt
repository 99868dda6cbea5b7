-- A table that a Delta log makes may be published, and one that may be published is one that commits may leave.
use Rattle.table_history.specs.declared.table.Table.{Table}
use Rattle.delta_change.specs.Change.{IsTableOfLog}
use Rattle.partition_map.proofs.KindLemmas.{kind_exactly}
use Rattle.target_core.specs.Conditions.{IsPublishable}

pub publishable_of_log : (t : Table) → IsTableOfLog t → IsPublishable t
publishable_of_log t is = record {
  sound = is.sound;
  paths = is.paths;
  live_files = is.live_files;
  partition_columns = is.partition_columns;
  partition_distinct = is.partition_distinct;
  partition_kinds = λ name there. (kind_exactly t.schema name).0 (is.partition_kinds name there);
  schema = is.schema;
  size = is.size;
}

pub log_of_publishable : (t : Table) → IsPublishable t → IsTableOfLog t
log_of_publishable t is = record {
  partition_distinct = is.partition_distinct;
  partition_kinds = λ name there. (kind_exactly t.schema name).1 (is.partition_kinds name there);
  sound = is.sound;
  paths = is.paths;
  partition_columns = is.partition_columns;
  live_files = is.live_files;
  schema = is.schema;
  size = is.size;
}
