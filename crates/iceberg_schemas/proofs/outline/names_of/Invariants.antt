use Rattle.std.proofs.Common.{◌≡◌, drop, codes}
use Rattle.serde_json.specs.View.{items_view}
use Rattle.lake_basics.specs.Outcome.{each, with_front}
use Rattle.json_reading.specs.Json.{items}
use Rattle.iceberg_metadata.specs.Members.{text_in}
use Rattle.iceberg_schemas.proofs.outline.names_of.Given as goal

abbrev pub invariant-loop-field : goal.invariant-loop-field
invariant-loop-field l = with_front l.names (each (text_in (codes "name")) (items (items_view (drop l.field-index l.fields.items)))) ≡ each (text_in (codes "name")) (items (items_view l.fields.items))
