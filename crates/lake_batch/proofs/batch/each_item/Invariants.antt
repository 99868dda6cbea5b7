use Rattle.std.proofs.Common.{◌≡◌, drop}
use Rattle.toml.specs.View.{items_view}
use Rattle.lake_basics.specs.Outcome.{each, with_front}
use Rattle.lake_batch.specs.Reading.{list_of, item_in}
use Rattle.lake_batch.proofs.batch.each_item.Given as goal

abbrev pub invariant-loop-value : goal.invariant-loop-value
invariant-loop-value l = with_front l.items (each item_in (list_of (items_view (drop l.value-index l.values.items)))) ≡ each item_in (list_of (items_view l.values.items))
