use Rattle.std.proofs.Common.{◌≡◌, false}
use Rattle.serde_json.specs.View.{members_view}
use Rattle.json_reading.specs.Json.{pairs}
use Rattle.delta_compaction.specs.Kinds.{has_stray}
use Rattle.delta_compaction.proofs.kind.has_stray.Given as goal

abbrev pub invariant-loop-name : goal.invariant-loop-name
invariant-loop-name l = has_stray l.seen (pairs (members_view l.name-iterator)) ≡ has_stray false (pairs (members_view l.members.entries))
