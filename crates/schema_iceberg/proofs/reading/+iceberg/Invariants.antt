use Rattle.std.proofs.Common.{◌≡◌, ◌+◌, ◌*◌, drop, map}
use Rattle.serde_json.specs.View.{items_view}
use Rattle.table_history.specs.SchemaView.{column_view}
use Rattle.json_reading.specs.Json.{items}
use Rattle.schema_iceberg.specs.Iceberg.{iceberg_type, iceberg_column, each_with_ids}
use Rattle.schema_iceberg.proofs.Gather.{with_both}
use Rattle.schema_iceberg.proofs.reading.+iceberg.Given as goal

abbrev pub decreases-type_of : goal.decreases-type_of
decreases-type_of l = 6 * l.levels

abbrev pub decreases-shape_of : goal.decreases-shape_of
decreases-shape_of l = 6 * l.below + 5

abbrev pub decreases-nested_of : goal.decreases-nested_of
decreases-nested_of l = 6 * l.below + 4

abbrev pub decreases-struct_of : goal.decreases-struct_of
decreases-struct_of l = 6 * l.below + 3

abbrev pub decreases-list_of : goal.decreases-list_of
decreases-list_of l = 6 * l.below + 3

abbrev pub decreases-map_of : goal.decreases-map_of
decreases-map_of l = 6 * l.below + 3

abbrev pub decreases-columns_of : goal.decreases-columns_of
decreases-columns_of l = 6 * l.below + 2

abbrev pub decreases-column_of : goal.decreases-column_of
decreases-column_of l = 6 * l.below + 1

abbrev pub invariant-columns_of-loop-field : goal.invariant-columns_of-loop-field
invariant-columns_of-loop-field l = with_both (map column_view l.columns.items) l.ids.items (each_with_ids (iceberg_column (iceberg_type l.below)) (items (items_view (drop l.field-index l.fields.items)))) ≡ each_with_ids (iceberg_column (iceberg_type l.below)) (items (items_view l.fields.items))
