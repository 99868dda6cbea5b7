use Rattle.std.proofs.Common.{◌≡◌, drop}
use Rattle.table_history.specs.SchemaView.{columns_view}
use Rattle.schema_avro.specs.AvroWriting.{name_fault}
use Rattle.schema_avro.proofs.names.name_fault.Given as goal

abbrev pub invariant-loop-column : goal.invariant-loop-column
invariant-loop-column l = name_fault (columns_view (drop l.column-index l.columns)) ≡ name_fault (columns_view l.columns)
