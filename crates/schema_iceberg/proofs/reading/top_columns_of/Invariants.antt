use Rattle.std.proofs.Common.{◌≡◌, drop, map}
use Rattle.serde_json.specs.View.{items_view}
use Rattle.table_history.specs.SchemaView.{column_view}
use Rattle.json_reading.specs.Json.{items}
use Rattle.schema_iceberg.specs.Iceberg.{iceberg_top_column, each_with_ids}
use Rattle.schema_iceberg.proofs.Gather.{with_both}
use Rattle.schema_iceberg.proofs.reading.top_columns_of.Given as goal

abbrev pub invariant-loop-field : goal.invariant-loop-field
invariant-loop-field l = with_both (map column_view l.columns.items) l.ids.items (each_with_ids iceberg_top_column (items (items_view (drop l.field-index l.fields.items)))) ≡ each_with_ids iceberg_top_column (items (items_view l.fields.items))
