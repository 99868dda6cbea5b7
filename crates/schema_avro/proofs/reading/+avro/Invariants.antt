use Rattle.std.proofs.Common.{◌≡◌, drop, map}
use Rattle.lake_basics.specs.Outcome.{with_front}
use Rattle.avro_schema.specs.Tree.{field_of, fields_of}
use Rattle.table_history.specs.SchemaView.{column_view}
use Rattle.schema_avro.specs.Avro.{avro_columns}
use Rattle.schema_avro.proofs.reading.+avro.Given as goal

abbrev pub invariant-columns_of-loop-field : goal.invariant-columns_of-loop-field
invariant-columns_of-loop-field l = with_front (map column_view l.columns.items) (avro_columns (fields_of (map field_of (drop l.field-index l.fields.items)))) ≡ avro_columns (fields_of (map field_of l.fields.items))
