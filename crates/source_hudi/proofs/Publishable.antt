-- A table that instants make may be published, and one that may be published is one that instants may leave.
use Rattle.std.proofs.Common.{◌≡◌, sym}
use Rattle.table_history.specs.declared.table.Table.{Table}
use Rattle.partition_map.proofs.KindLemmas.{kind_exactly}
use Rattle.hudi_timeline.specs.Change.{IsTableOf}
use Rattle.hudi_properties.specs.declared.table.HudiTable.{HudiTable}
use Rattle.target_core.specs.Conditions.{IsPublishable}

pub publishable_of : (table : HudiTable) (t : Table) → IsTableOf table t → IsPublishable t
publishable_of table t is = record {
  sound = is.sound;
  paths = is.paths;
  live_files = is.live_files;
  partition_columns = is.partition_columns;
  partition_distinct = is.partition_distinct;
  partition_kinds = λ name there. (kind_exactly t.schema name).0 (is.partition_kinds name there);
  schema = is.schema;
  size = is.size;
}

pub table_of_publishable : (table : HudiTable) (t : Table) → table.partition ≡ t.partition → IsPublishable t → IsTableOf table t
table_of_publishable table t partition is = record {
  partition = sym partition;
  partition_distinct = is.partition_distinct;
  partition_kinds = λ name there. (kind_exactly t.schema name).1 (is.partition_kinds name there);
  sound = is.sound;
  paths = is.paths;
  partition_columns = is.partition_columns;
  live_files = is.live_files;
  schema = is.schema;
  size = is.size;
}
