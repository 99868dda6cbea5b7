-- The pairs of a properties text.
use Rattle.std.specs.Prelude.{ℕ, ◌+◌, ◌==◌, ◌&&◌, ◌||◌, not, List, [], ◌∷◌, length, take, drop, filter, Bool, false, Option, Some, None, option_map, option_and_then, Result, Ok, Err, if◌then◌else◌}
use Rattle.std.specs.BTreeMap.{insert_entry}
use Rattle.std.specs.Cmp.Lexicographic.{slice_cmp}
use Rattle.std.specs.Ordering.{nat_cmp}
use Rattle.hudi_names.specs.declared.error.HudiError.{HudiError}
use Rattle.hudi_names.specs.declared.error.HudiError.TheVariants.{Malformed}
use Rattle.hudi_properties.specs.declared.line.LogicalLine.{LogicalLine}
use Rattle.hudi_properties.specs.Escapes.{unescaped}
use Rattle.hudi_properties.specs.Lines.{escapes, is_white, trimmed, logical_lines}
use Rattle.lake_basics.specs.Outcome.{◌>>=◌, each}

abbrev pub is_separator : ℕ → Bool
is_separator b = (b == 61) || (b == 58)

abbrev pub is_key_end : ℕ → Bool
is_key_end b = is_separator b || is_white b

-- The key ends at the first unescaped separator or white space. The flag says that a backslash escapes the first byte.
abbrev pub key_len : Bool → List ℕ → ℕ
key_len is_escaped [] = 0
key_len is_escaped (b ∷ bs) = if not is_escaped && is_key_end b then 0 else 1 + key_len (escapes is_escaped b) bs

abbrev pub behind_separator : List ℕ → List ℕ
behind_separator [] = []
behind_separator (b ∷ bs) = if is_separator b then trimmed bs else b ∷ bs

-- Behind the key white space, then one separator, then white space are dropped.
abbrev pub value_of : List ℕ → List ℕ
value_of behind = behind_separator (trimmed behind)

-- the key and the value of a line, if their escapes are whole
unfoldable pub pair_of : List ℕ → Option (List ℕ × List ℕ)
pair_of line =
    let len = key_len false line in
    option_and_then (λ key. option_map (λ value. (key, value)) (unescaped (value_of (drop len line)))) (unescaped (take len line))

abbrev pub required_at : {A : Type 0} → ℕ → Option A → Result A HudiError
required_at line None = Err (Malformed line)
required_at line (Some x) = Ok x

abbrev pub pair_at : LogicalLine → Result (List ℕ × List ℕ) HudiError
pair_at line = required_at line.number (pair_of line.content)

-- the pairs in the byte order of their keys, of two with one key the later
abbrev pub pairs_with : List (List ℕ × List ℕ) → List (List ℕ × List ℕ) → List (List ℕ × List ℕ)
pairs_with [] found = found
pairs_with (p ∷ ps) found = pairs_with ps (insert_entry (slice_cmp nat_cmp) found p.0 p.1)

abbrev pub in_order : List (List ℕ × List ℕ) → List (List ℕ × List ℕ)
in_order ps = pairs_with ps []

-- A line with nothing left gives no pair.
abbrev pub is_filled : LogicalLine → Bool
is_filled line = not (length line.content == 0)

abbrev pub pairs_of_lines : List LogicalLine → Result (List (List ℕ × List ℕ)) HudiError
pairs_of_lines lines = each pair_at (filter is_filled lines) >>= λ ps. Ok (in_order ps)

unfoldable pub properties_of : List ℕ → Result (List (List ℕ × List ℕ)) HudiError
properties_of bytes = pairs_of_lines (logical_lines bytes)
