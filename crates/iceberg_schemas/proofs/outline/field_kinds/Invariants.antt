use Rattle.std.proofs.Common.{◌≡◌, ◌++◌, drop}
use Rattle.serde_json.specs.View.{items_view}
use Rattle.json_reading.specs.Json.{items}
use Rattle.iceberg_metadata.specs.Outlines.{field_kinds}
use Rattle.iceberg_schemas.proofs.outline.field_kinds.Given as goal

abbrev pub invariant-loop-field : goal.invariant-loop-field
invariant-loop-field l = l.kinds ++ field_kinds (items (items_view (drop l.field-index l.fields.items))) ≡ field_kinds (items (items_view l.fields.items))
