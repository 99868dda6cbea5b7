use Rattle.std.proofs.Common.{◌≡◌, drop, map}
use Rattle.lake_basics.specs.Outcome.{with_front}
use Rattle.avro_schema.specs.Tree.{field_of, fields_of}
use Rattle.table_history.specs.SchemaView.{column_view}
use Rattle.schema_avro.specs.Avro.{avro_top_columns}
use Rattle.schema_avro.proofs.reading.top_columns_of.Given as goal

abbrev pub invariant-loop-field : goal.invariant-loop-field
invariant-loop-field l = with_front (map column_view l.columns.items) (avro_top_columns (fields_of (map field_of (drop l.field-index l.fields.items)))) ≡ avro_top_columns (fields_of (map field_of l.fields.items))
