use Rattle.std.proofs.Common.{◌≡◌, drop}
use Rattle.serde_json.specs.Data.{string, no_members}
use Rattle.serde_json.specs.View.{members_view}
use Rattle.json_reading.specs.Json.{members_with}
use Rattle.json_reading.proofs.writing.texts_map.Given as goal

abbrev pub invariant-loop-name : goal.invariant-loop-name
invariant-loop-name l = members_with string (drop l.name-index l.pairs) (members_view l.map.entries) ≡ members_with string l.pairs no_members
