-- The JSON of values that stand by their names.
use Rattle.std.specs.Prelude.{ℕ, List, [], ◌∷◌, Option}
use Rattle.std.specs.Borrow.{Bor}
use Rattle.serde_json.specs.Data.{Members, no_members, member}
use Rattle.json_reading.specs.Json.{text_or_null_data}

-- a member for each entry, in their order
abbrev pub values_members : List (Bor (List ℕ) × Bor (Option (List ℕ))) → Members
values_members [] = no_members
values_members (e ∷ es) = member e.0.now (text_or_null_data e.1.now) (values_members es)
