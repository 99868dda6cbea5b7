use Rattle.std.proofs.Common.{◌≡◌}
use Rattle.serde_json.specs.View.{members_view}
use Rattle.lake_basics.specs.Outcome.{each, with_front}
use Rattle.json_reading.specs.Json.{pairs}
use Rattle.iceberg_metadata.specs.Members as read
use Rattle.iceberg_metadata_reading.proofs.members.properties_in.Given as goal

abbrev pub invariant-loop-name : goal.invariant-loop-name
invariant-loop-name l = with_front l.properties (each read.property (pairs (members_view l.name-iterator))) ≡ each read.property (pairs (members_view l.members.entries))
