use Rattle.std.proofs.Common.{◌≡◌, drop}
use Rattle.serde_json.specs.Data.{no_members}
use Rattle.json_reading.specs.Json.{members_with, text_or_null_data}
use Rattle.delta_text.specs.Tokens.{values_members}
use Rattle.delta_text.proofs.file_text.sorted_values.Given as goal

-- those behind, put in over those before, are all
abbrev pub invariant-loop-name : goal.invariant-loop-name
invariant-loop-name l = members_with text_or_null_data (drop l.name-index l.values) (values_members l.sorted.entries) ≡ members_with text_or_null_data l.values no_members
