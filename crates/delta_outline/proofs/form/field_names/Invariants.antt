use Rattle.std.proofs.Common.{◌≡◌, drop}
use Rattle.serde_json.specs.View.{items_view}
use Rattle.lake_basics.specs.Outcome.{each, with_front}
use Rattle.json_reading.specs.Json.{items}
use Rattle.delta_outline.specs.Forms.{field_name}
use Rattle.delta_outline.proofs.form.field_names.Given as goal

abbrev pub invariant-loop-field : goal.invariant-loop-field
invariant-loop-field l = with_front l.names (each field_name (items (items_view (drop l.field-index l.fields.items)))) ≡ each field_name (items (items_view l.fields.items))
