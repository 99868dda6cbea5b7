-- The lines of a properties text. It is ISO 8859-1: each byte is the character of its number.
use Rattle.std.specs.Prelude.{ℕ, ◌+◌, ◌-◌, ◌==◌, ◌&&◌, ◌||◌, not, List, [], ◌∷◌, ◌++◌, length, take, drop, take_while, Bool, false, Option, Some, None, option_to_list, if◌then◌else◌}
use Rattle.hudi_properties.specs.declared.line.LogicalLine.{LogicalLine}
use Rattle.hudi_properties.specs.declared.line.LineStep.{LineStep}

-- space, tab and form feed
abbrev pub is_white : ℕ → Bool
is_white b = (b == 32) || (b == 9) || (b == 12)

abbrev pub is_line_end : ℕ → Bool
is_line_end b = (b == 10) || (b == 13)

abbrev pub is_ordinary : ℕ → Bool
is_ordinary b = not (is_line_end b)

abbrev pub onto_first : ℕ → List (List ℕ) → List (List ℕ)
onto_first b [] = (b ∷ []) ∷ []
onto_first b (line ∷ lines) = (b ∷ line) ∷ lines

-- Lines end at `\n`, at `\r`, or at both in this order. The flag says that the byte before is `\r`.
abbrev pub lines_after : Bool → List ℕ → List (List ℕ)
lines_after behind_return [] = [] ∷ []
lines_after behind_return (b ∷ bs) =
    if behind_return && (b == 10) then lines_after false bs
    else (if is_line_end b then [] ∷ lines_after (b == 13) bs else onto_first b (lines_after false bs))

unfoldable pub natural_lines : List ℕ → List (List ℕ)
natural_lines bytes = lines_after false bytes

-- the lines in what is left, if something is left
abbrev pub lines_in : Option (List ℕ) → List (List ℕ)
lines_in None = []
lines_in (Some bytes) = natural_lines bytes

abbrev pub trimmed : List ℕ → List ℕ
trimmed bytes = drop (length (take_while is_white bytes)) bytes

abbrev pub is_comment : List ℕ → Bool
is_comment [] = false
is_comment (b ∷ bs) = (b == 35) || (b == 33)

-- A backslash that isn't escaped itself escapes the next character.
abbrev pub escapes : Bool → ℕ → Bool
escapes is_escaped b = not is_escaped && (b == 92)

-- Where the end is escaped, the backslashes before it are odd in number, and the next line continues this one.
abbrev pub ends_escaped : Bool → List ℕ → Bool
ends_escaped is_escaped [] = is_escaped
ends_escaped is_escaped (b ∷ bs) = ends_escaped (escapes is_escaped b) bs

abbrev pub is_continued : List ℕ → Bool
is_continued line = ends_escaped false line

-- a line with one more behind it, whose last backslash goes where the next line continues it
abbrev pub extended : LogicalLine → List ℕ → LineStep
extended front line =
    if is_continued line then record { whole = None; front = Some (record { number = front.number; content = front.content ++ take (length line - 1) line }) }
    else record { whole = Some (record { number = front.number; content = front.content ++ line }); front = None }

-- White space at the start of a line is dropped. A comment is a line of its own.
abbrev pub stepped : ℕ → Option LogicalLine → List ℕ → LineStep
stepped n (Some front) line = extended front (trimmed line)
stepped n None line =
    if is_comment (trimmed line) then record { whole = None; front = None } else extended (record { number = n; content = [] }) (trimmed line)

-- the logical lines of these lines, of which the first has number n and continues the front
unfoldable pub logical_from : ℕ → Option LogicalLine → List (List ℕ) → List LogicalLine
logical_from n front [] = option_to_list front
logical_from n front (line ∷ lines) =
    let step = stepped n front line in option_to_list step.whole ++ logical_from (n + 1) step.front lines

unfoldable pub logical_lines : List ℕ → List LogicalLine
logical_lines bytes = logical_from 1 None (natural_lines bytes)
