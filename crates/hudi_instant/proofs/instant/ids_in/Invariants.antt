use Rattle.std.proofs.Common.{◌≡◌, []}
use Rattle.json_outline.specs.View.{sorted_view}
use Rattle.json_reading.specs.Json.{pairs}
use Rattle.hudi_instant.specs.Instants.{with_replaced}
use Rattle.hudi_instant.proofs.instant.ids_in.Given as goal

abbrev pub invariant-loop-partition : goal.invariant-loop-partition
invariant-loop-partition l = with_replaced l.found (pairs (sorted_view l.partition-iterator)) ≡ with_replaced [] (pairs (sorted_view l.sorted.entries))
