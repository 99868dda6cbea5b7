use Rattle.std.proofs.Common.{◌≡◌, drop}
use Rattle.serde_json.specs.View.{items_view}
use Rattle.json_reading.specs.Json.{items}
use Rattle.iceberg_schemas.specs.SchemaLists.{each_schema, each_beside}
use Rattle.iceberg_schemas.proofs.schemas.each_schema.Given as goal

abbrev pub invariant-loop-value : goal.invariant-loop-value
invariant-loop-value l = each_beside l.held (items (items_view (drop l.value-index l.value-items))) ≡ each_schema (items (items_view l.values.items))
