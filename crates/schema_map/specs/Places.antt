-- Places in the JSON of a schema.
use Rattle.std.specs.Prelude.{◌≡◌, ℕ, zero, suc, List, map, Some, codes}
use Rattle.serde_json.specs.Data.{Data, Items}
use Rattle.json_reading.specs.Json.{text_member, items}
use Rattle.schema_map.specs.Shared.{column_name}

-- The second stands so many levels inside the first, where IsPart says what stands one level inside.
unfoldable pub IsWithin : (Data → Data → Type 0) → ℕ → Data → Data → Type 0
IsWithin IsPart zero whole place = whole ≡ place
IsWithin IsPart (suc n) whole place = (part : Data) × IsPart whole part × IsWithin IsPart n part place

-- The value is the JSON of a type of this word, which has parts.
abbrev pub IsNamed : List ℕ → Data → Type 0
IsNamed word d = text_member (codes "type") d ≡ Some word

abbrev pub field_names : Items → List (List ℕ)
field_names ds = map column_name (items ds)
