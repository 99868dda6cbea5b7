use Rattle.std.proofs.Common.{◌≡◌, drop}
use Rattle.json_outline.specs.View.{items_view}
use Rattle.json_reading.specs.Json.{items}
use Rattle.hudi_instant.specs.Instants.{with_stats}
use Rattle.hudi_instant.proofs.instant.with_stats.Given as goal

abbrev pub invariant-loop-value : goal.invariant-loop-value
invariant-loop-value l = with_stats l.found (items (items_view (drop l.value-index l.list.items))) ≡ with_stats l.fn.stats (items (items_view l.list.items))
