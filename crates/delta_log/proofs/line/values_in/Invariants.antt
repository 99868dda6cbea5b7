use Rattle.std.proofs.Common.{◌≡◌}
use Rattle.json_outline.specs.View.{sorted_view}
use Rattle.lake_basics.specs.Outcome.{each, with_front}
use Rattle.json_reading.specs.Json.{pairs}
use Rattle.delta_log.specs.Grammar.{partition_value}
use Rattle.delta_log.proofs.line.values_in.Given as goal

abbrev pub invariant-loop-name : goal.invariant-loop-name
invariant-loop-name l = with_front l.values (each partition_value (pairs (sorted_view l.name-iterator))) ≡ each partition_value (pairs (sorted_view l.sorted.entries))
