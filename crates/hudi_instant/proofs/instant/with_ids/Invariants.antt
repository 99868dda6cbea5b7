use Rattle.std.proofs.Common.{◌≡◌, drop}
use Rattle.json_outline.specs.View.{items_view}
use Rattle.json_reading.specs.Json.{items}
use Rattle.hudi_instant.specs.Instants.{with_ids}
use Rattle.hudi_instant.proofs.instant.with_ids.Given as goal

abbrev pub invariant-loop-value : goal.invariant-loop-value
invariant-loop-value l = with_ids l.found l.partition (items (items_view (drop l.value-index l.list.items))) ≡ with_ids l.fn.replaced l.fn.partition (items (items_view l.list.items))
