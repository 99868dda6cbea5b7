use Rattle.std.proofs.Common.{◌≡◌, drop}
use Rattle.table_history.specs.SchemaView.{columns_view}
use Rattle.schema_map.specs.Image.{have_avro_names}
use Rattle.schema_avro.proofs.names.+avro_names.Given as goal

abbrev pub invariant-have_avro_names-loop-column : goal.invariant-have_avro_names-loop-column
invariant-have_avro_names-loop-column l = have_avro_names (columns_view (drop l.column-index l.columns)) ≡ have_avro_names (columns_view l.columns)
