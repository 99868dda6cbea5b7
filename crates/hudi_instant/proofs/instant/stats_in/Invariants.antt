use Rattle.std.proofs.Common.{◌≡◌, []}
use Rattle.json_outline.specs.View.{sorted_view}
use Rattle.json_reading.specs.Json.{pairs}
use Rattle.hudi_instant.specs.Instants.{with_partitions}
use Rattle.hudi_instant.proofs.instant.stats_in.Given as goal

abbrev pub invariant-loop-value : goal.invariant-loop-value
invariant-loop-value l = with_partitions l.found (pairs (sorted_view l.value-iterator)) ≡ with_partitions [] (pairs (sorted_view l.sorted.entries))
