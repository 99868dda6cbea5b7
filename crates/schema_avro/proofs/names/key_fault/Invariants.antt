use Rattle.std.proofs.Common.{◌≡◌, drop}
use Rattle.table_history.specs.SchemaView.{columns_view}
use Rattle.schema_avro.specs.AvroWriting.{key_fault}
use Rattle.schema_avro.proofs.names.key_fault.Given as goal

abbrev pub invariant-loop-column : goal.invariant-loop-column
invariant-loop-column l = key_fault (columns_view (drop l.column-index l.columns)) ≡ key_fault (columns_view l.columns)
