use Rattle.std.proofs.Common.{◌≡◌, drop, map}
use Rattle.serde_json.specs.View.{items_view}
use Rattle.table_history.specs.SchemaView.{column_view}
use Rattle.lake_basics.specs.Outcome.{each}
use Rattle.json_reading.specs.Json.{items}
use Rattle.schema_delta.specs.Delta.{delta_top_column}
use Rattle.lake_basics.specs.Outcome.{with_front}
use Rattle.schema_delta.proofs.reading.top_columns_of.Given as goal

abbrev pub invariant-loop-field : goal.invariant-loop-field
invariant-loop-field l = with_front (map column_view l.columns.items) (each delta_top_column (items (items_view (drop l.field-index l.fields.items)))) ≡ each delta_top_column (items (items_view l.fields.items))
