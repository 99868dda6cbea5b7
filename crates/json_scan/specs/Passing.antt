-- The value that comes first in a text's tokens, and the tokens behind it.
use Rattle.std.specs.Prelude.{ℕ, ℤ, List, [], ◌∷◌, length, Bool, true, false, Option, option_map, option_and_then}
use Rattle.json.specs.Token.{Token}
use Rattle.json.specs.Json.{value, items, members, if_last}
use Rattle.serde_json.specs.Data.{Data, Items, Members, no_members}
use Rattle.serde_json.specs.Find.{get_member, as_object}
use Rattle.serde_json.specs.Read.{of_json, of_items, of_members, converted, max_depth}
use Rattle.json_reading.specs.Json.{whole}

-- arrays and objects nested no deeper than the number
abbrev pub passed : ℕ → List Token → Option (Data × List Token)
passed depth ts = converted of_json (value depth ts)

-- the items of an array that was opened, and its closing bracket
abbrev pub passed_items : ℕ → List Token → Option (Items × List Token)
passed_items depth ts = converted of_items (items (value depth) (length ts) ts)

-- the members of an object that was opened, and its closing bracket
abbrev pub passed_members : ℕ → List Token → Option (Members × List Token)
passed_members depth ts = converted (λ ms. of_members ms no_members) (members (value depth) (length ts) ts)

-- whether an object opens
abbrev pub begins_object : List Token → Bool
begins_object [] = false
begins_object (Token.begin_object ∷ ts) = true
begins_object (Token.end_object ∷ ts) = false
begins_object (Token.begin_array ∷ ts) = false
begins_object (Token.end_array ∷ ts) = false
begins_object (Token.key s ∷ ts) = false
begins_object (Token.string s ∷ ts) = false
begins_object (Token.number s ∷ ts) = false
begins_object (Token.boolean b ∷ ts) = false
begins_object (Token.null ∷ ts) = false
begins_object (Token.bad ∷ ts) = false

-- the object that all the tokens are
abbrev pub whole_object : List Token → Option Members
whole_object ts = option_and_then as_object (option_and_then of_json (option_and_then (λ p. if_last p.0 p.1) (value max_depth ts)))

-- the whole number that the member of that name is, if there is that member, and if it is one
abbrev pub named_whole : List ℕ → Members → Option (Option ℤ)
named_whole name ms = option_map whole (get_member name ms)

-- what is kept of a value, and the tokens behind it
abbrev pub kept : {A B : Type 0} → (A → B) → Option (A × List Token) → Option (B × List Token)
kept f read = option_map (λ p. (f p.0, p.1)) read

-- the tokens behind a value
abbrev pub behind : {A : Type 0} → Option (A × List Token) → Option (List Token)
behind read = option_map (λ p. p.1) read
