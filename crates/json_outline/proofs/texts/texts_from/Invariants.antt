use Rattle.std.proofs.Common.{◌≡◌, drop}
use Rattle.json_outline.specs.View.{items_view}
use Rattle.lake_basics.specs.Outcome.{each, with_front}
use Rattle.json_reading.specs.Json.{text, items}
use Rattle.json_outline.proofs.texts.texts_from.Given as goal

abbrev pub invariant-loop-value : goal.invariant-loop-value
invariant-loop-value g l = with_front l.texts (each (text l.fault) (items (items_view (drop l.value-index l.values.items)))) ≡ each (text l.fault) (items (items_view l.values.items))
