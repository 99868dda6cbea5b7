use Rattle.std.proofs.Common.{◌≡◌, drop, map}
use Rattle.serde_json.specs.View.{view}
use Rattle.table_history.specs.SchemaView.{columns_view}
use Rattle.schema_avro.specs.AvroWriting.{avro_fields}
use Rattle.schema_map.proofs.Entries.{written_before}
use Rattle.schema_avro.proofs.writing.+avro_write.Given as goal

abbrev pub invariant-fields_json-loop-column : goal.invariant-fields_json-loop-column
invariant-fields_json-loop-column l = written_before (map view l.fields.items) (avro_fields (columns_view (drop l.column-index l.columns)) l.before) ≡ avro_fields (columns_view l.columns) l.records
