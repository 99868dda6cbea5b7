use Rattle.std.proofs.Common.{◌≡◌}
use Rattle.json_outline.specs.View.{sorted_view}
use Rattle.lake_basics.specs.Outcome.{each, with_front}
use Rattle.json_reading.specs.Json.{pairs}
use Rattle.delta_log.specs.Grammar.{setting}
use Rattle.delta_log.proofs.line.settings_in.Given as goal

abbrev pub invariant-loop-name : goal.invariant-loop-name
invariant-loop-name l = with_front l.values (each setting (pairs (sorted_view l.name-iterator))) ≡ each setting (pairs (sorted_view l.sorted.entries))
