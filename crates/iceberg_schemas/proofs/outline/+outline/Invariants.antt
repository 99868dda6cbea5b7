use Rattle.std.proofs.Common.{◌≡◌, ◌+◌, ◌*◌, drop}
use Rattle.serde_json.specs.View.{items_view}
use Rattle.json_reading.specs.Json.{items}
use Rattle.iceberg_metadata.specs.Outlines.{type_outline, field_outline, fields_outline}
use Rattle.iceberg_schemas.proofs.outline.+outline.Given as goal

abbrev pub decreases-type_outline : goal.decreases-type_outline
decreases-type_outline l = 7 * l.levels

abbrev pub decreases-shape_outline : goal.decreases-shape_outline
decreases-shape_outline l = 7 * l.below + 6

abbrev pub decreases-nested_outline : goal.decreases-nested_outline
decreases-nested_outline l = 7 * l.below + 5

abbrev pub decreases-struct_outline : goal.decreases-struct_outline
decreases-struct_outline l = 7 * l.below + 4

abbrev pub decreases-list_outline : goal.decreases-list_outline
decreases-list_outline l = 7 * l.below + 4

abbrev pub decreases-map_outline : goal.decreases-map_outline
decreases-map_outline l = 7 * l.below + 4

abbrev pub decreases-fields_outline : goal.decreases-fields_outline
decreases-fields_outline l = 7 * l.below + 3

abbrev pub decreases-field_outline : goal.decreases-field_outline
decreases-field_outline l = 7 * l.below + 2

abbrev pub decreases-part_outline : goal.decreases-part_outline
decreases-part_outline l = 7 * l.below + 1

abbrev pub invariant-fields_outline-loop-field : goal.invariant-fields_outline-loop-field
invariant-fields_outline-loop-field l = fields_outline (field_outline (type_outline l.below) l.prefix) (items (items_view (drop l.field-index l.fields.items))) l.met ≡ fields_outline (field_outline (type_outline l.below) l.prefix) (items (items_view l.fields.items)) l.fn.outline
