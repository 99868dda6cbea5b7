-- The count that the text of a JSON object states under a name.
use Rattle.std.specs.Prelude.{ℕ, ℤ, pos, negsuc, List, Option, Some, None, option_map, is_some, Result, Ok, Err, if◌then◌else◌}
use Rattle.json.specs.declared.reader.Invalid.{Invalid}
use Rattle.serde_json.specs.Find.{get, as_object}
use Rattle.serde_json.specs.Read.{read}
use Rattle.lake_basics.specs.Outcome.{◌>>=◌, required}
use Rattle.json_reading.specs.Json.{count_member}

-- None where the object has no such member. A text that is no object, and a member that is no count, are this fault.
abbrev pub stated_count : {E : Type 0} → E → List ℕ → List ℕ → Result (Option ℕ) E
stated_count fault name text = do
  d ← required fault (read text)
  members ← required fault (as_object d)
  if is_some (get name d) then required fault (option_map Some (count_member name d)) else Ok None

-- what is told of an object: whether it has the member, and the whole number that this is
abbrev pub told : {E : Type 0} → E → Result (Option (Option ℤ)) Invalid → Result (Option ℕ) E
told fault (Ok None) = Ok None
told fault (Ok (Some None)) = Err fault
told fault (Ok (Some (Some (pos n)))) = Ok (Some n)
told fault (Ok (Some (Some (negsuc n)))) = Err fault
told fault (Err e) = Err fault
