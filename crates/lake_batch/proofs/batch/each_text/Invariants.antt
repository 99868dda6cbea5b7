use Rattle.std.proofs.Common.{◌≡◌, drop}
use Rattle.toml.specs.View.{items_view}
use Rattle.lake_basics.specs.Outcome.{each, with_front}
use Rattle.lake_batch.specs.Reading.{list_of, text_in}
use Rattle.lake_batch.proofs.batch.each_text.Given as goal

abbrev pub invariant-loop-value : goal.invariant-loop-value
invariant-loop-value l = with_front l.texts (each text_in (list_of (items_view (drop l.value-index l.values.items)))) ≡ each text_in (list_of (items_view l.values.items))
