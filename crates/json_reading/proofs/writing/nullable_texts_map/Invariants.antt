use Rattle.std.proofs.Common.{◌≡◌, drop}
use Rattle.serde_json.specs.Data.{no_members}
use Rattle.serde_json.specs.View.{members_view}
use Rattle.json_reading.specs.Json.{members_with, text_or_null_data}
use Rattle.json_reading.proofs.writing.nullable_texts_map.Given as goal

abbrev pub invariant-loop-name : goal.invariant-loop-name
invariant-loop-name l = members_with text_or_null_data (drop l.name-index l.pairs) (members_view l.map.entries) ≡ members_with text_or_null_data l.pairs no_members
