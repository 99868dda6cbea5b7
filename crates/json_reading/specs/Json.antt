-- JSON values as the table formats use them (RFC 8259): members by kind, whole numbers, objects from pairs.
use Rattle.std.specs.Prelude.{◌≡◌, ℕ, ℤ, pos, negsuc, nat_le, List, [], ◌∷◌, map, Bool, Option, Some, None, option_and_then, Result, if◌then◌else◌}
use Rattle.std.specs.Str.{is_utf8}
use Rattle.serde_json.specs.Data.{Data, null, boolean, number, string, array, object, Items, no_items, item, Members, no_members, member, put}
use Rattle.serde_json.specs.Find.{get, as_str, as_bool, as_number, as_i64, as_array, as_object}
use Rattle.serde_json.specs.Read.{read}
use Rattle.serde_json.specs.View.{items_of}
use Rattle.serde_json.specs.Written.{compact_text}
use Rattle.lake_basics.specs.Outcome.{required}

-- the JSON that bytes are
abbrev pub json : List ℕ → Option Data
json bytes = if is_utf8 bytes then read bytes else None

-- ---- numbers

-- a number that JSON spells with neither fraction nor exponent, of 64 bits with a sign
abbrev pub whole : Data → Option ℤ
whole d = option_and_then as_i64 (as_number d)

abbrev from_zero : ℤ → Option ℕ
from_zero (pos n) = Some n
from_zero (negsuc n) = None

-- a whole number from 0 to 2 ^ 63 - 1
abbrev pub count : Data → Option ℕ
count d = option_and_then from_zero (whole d)

abbrev within_32 : ℤ → Option ℤ
within_32 (pos n) = if nat_le n 2147483647 then Some (pos n) else None
within_32 (negsuc n) = if nat_le n 2147483647 then Some (negsuc n) else None

-- a whole number of 32 bits with a sign
abbrev pub int : Data → Option ℤ
int d = option_and_then within_32 (whole d)

-- ---- members

abbrev pub text_member : List ℕ → Data → Option (List ℕ)
text_member name d = option_and_then as_str (get name d)

abbrev pub bool_member : List ℕ → Data → Option Bool
bool_member name d = option_and_then as_bool (get name d)

abbrev pub whole_member : List ℕ → Data → Option ℤ
whole_member name d = option_and_then whole (get name d)

abbrev pub count_member : List ℕ → Data → Option ℕ
count_member name d = option_and_then count (get name d)

abbrev pub int_member : List ℕ → Data → Option ℤ
int_member name d = option_and_then int (get name d)

abbrev pub list_member : List ℕ → Data → Option Items
list_member name d = option_and_then as_array (get name d)

abbrev pub object_member : List ℕ → Data → Option Members
object_member name d = option_and_then as_object (get name d)

abbrev unless_null : Data → Option Data
unless_null null = None
unless_null (boolean b) = Some (boolean b)
unless_null (number n) = Some (number n)
unless_null (string s) = Some (string s)
unless_null (array ds) = Some (array ds)
unless_null (object ms) = Some (object ms)

-- a member that is there and isn't null
abbrev pub present : List ℕ → Data → Option Data
present name d = option_and_then unless_null (get name d)

-- ---- arrays and objects as lists

abbrev pub items : Items → List Data
items no_items = []
items (item d ds) = d ∷ items ds

-- the members in byte order of their names
abbrev pub pairs : Members → List (List ℕ × Data)
pairs no_members = []
pairs (member k d ms) = (k, d) ∷ pairs ms

-- what is a text, or this fault
abbrev pub text : {E : Type 0} → E → Data → Result (List ℕ) E
text fault d = required fault (as_str d)

-- ---- writing

abbrev pub text_or_null_data : Option (List ℕ) → Data
text_or_null_data None = null
text_or_null_data (Some t) = string t

abbrev pub texts_data : List (List ℕ) → Items
texts_data texts = items_of (map string texts)

-- members with these put in, one after another
abbrev pub members_with : {A : Type 0} → (A → Data) → List (List ℕ × A) → Members → Members
members_with shown [] ms = ms
members_with shown (p ∷ ps) ms = members_with shown ps (put p.0 (shown p.1) ms)

-- the compact text of this value is read as it
abbrev pub IsReadAgain : Data → Type 0
IsReadAgain d = json (compact_text d) ≡ Some d
