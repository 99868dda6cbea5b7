use Rattle.std.proofs.Common.{◌≡◌, drop}
use Rattle.serde_json.specs.View.{items_view}
use Rattle.lake_basics.specs.Outcome.{each, with_front}
use Rattle.json_reading.specs.Json.{items}
use Rattle.iceberg_metadata.specs.Members as read
use Rattle.iceberg_metadata_reading.proofs.members.spec_fields_of.Given as goal

abbrev pub invariant-loop-value : goal.invariant-loop-value
invariant-loop-value l = with_front l.fields (each read.spec_field (items (items_view (drop l.value-index l.values.items)))) ≡ each read.spec_field (items (items_view l.values.items))
