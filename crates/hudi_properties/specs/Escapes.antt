-- Escapes in the keys and values of properties.
use Rattle.std.specs.Prelude.{ℕ, ◌+◌, ◌*◌, ◌^◌, ◌<◌, ◌==◌, List, [], ◌∷◌, ◌++◌, Option, Some, None, option_map, option_and_then, option_to_list, if◌then◌else◌}
use Rattle.std.specs.Char.{is_digit, digit_value}
use Rattle.std.specs.Char.Utf16.{has_unpaired_surrogate, utf16_lossy_chars}
use Rattle.std.specs.Str.{encode_utf8_all}
use Rattle.hudi_properties.specs.declared.escape.Escape.{Escape}
use Rattle.hudi_properties.specs.declared.escape.Escape.TheVariants.{Outside, Backslash, Hex}

-- `\t`, `\n`, `\r` and `\f`; a backslash before another character is dropped
abbrev pub named : ℕ → ℕ
named b = if b == 116 then 9 else (if b == 110 then 10 else (if b == 114 then 13 else (if b == 102 then 12 else b)))

abbrev pub with_digit : ℕ → ℕ → Option (Escape × Option ℕ)
with_digit digits value = if digits == 3 then Some (Outside, Some value) else Some (Hex (digits + 1) value, None)

-- one more byte: the place behind it, and the UTF-16 unit that is whole then
abbrev pub step : Escape → ℕ → Option (Escape × Option ℕ)
step Outside b = if b == 92 then Some (Backslash, None) else Some (Outside, Some b)
step Backslash b = if b == 117 then Some (Hex 0 0, None) else Some (Outside, Some (named b))
step (Hex digits value) b = if is_digit b 16 then with_digit digits (value * 16 + digit_value b) else None

-- the units that the bytes spell, where `\u` has four hex digits behind it
unfoldable pub units_from : Escape → List ℕ → Option (List ℕ)
units_from (Hex digits value) [] = None
units_from Outside [] = Some []
units_from Backslash [] = Some []
units_from state (b ∷ bs) = option_and_then (λ r. option_map (λ units. option_to_list r.1 ++ units) (units_from r.0 bs)) (step state b)

-- the text of UTF-16 units, each surrogate in a pair
abbrev pub utf16_text : List ℕ → Option (List ℕ)
utf16_text units = if has_unpaired_surrogate units then None else Some (encode_utf8_all (utf16_lossy_chars units))

unfoldable pub unescaped : List ℕ → Option (List ℕ)
unescaped bytes = option_and_then utf16_text (units_from Outside bytes)

-- the hex digits so far
abbrev pub IsEscape : Escape → Type 0
IsEscape Outside = Unit {0}
IsEscape Backslash = Unit {0}
IsEscape (Hex digits value) = (digits < 4) × (value < 16 ^ digits)
