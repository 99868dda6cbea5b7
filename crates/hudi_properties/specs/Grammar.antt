-- What a properties text is, in the terms of java.util.Properties ("load"): natural lines, logical lines, keys, elements and escapes. It is ISO 8859-1: each byte is the character of its number.
use Rattle.std.specs.Prelude.{◌≡◌, ◌≢◌, ◌⊎◌, ◌↔◌, ℕ, zero, suc, ◌+◌, ◌*◌, List, [], ◌∷◌, ◌++◌, length, map, filter, flat_map, All, Contains, Some, true}
use Rattle.std.specs.Char.{is_digit, digit_value}
use Rattle.std.specs.Char.Utf16.{utf16_chars}
use Rattle.std.specs.Cmp.Lexicographic.{slice_cmp}
use Rattle.std.specs.List.{AllZip, concat}
use Rattle.std.specs.List.Sorted.{IsStrictlySortedBy}
use Rattle.std.specs.Map.{keys_of}
use Rattle.std.specs.Ordering.{nat_cmp}
use Rattle.std.specs.Str.{encode_utf8_all}
use Rattle.hudi_names.specs.declared.error.HudiError.{HudiError}
use Rattle.hudi_names.specs.declared.error.HudiError.TheVariants as errors
use Rattle.hudi_properties.specs.declared.line.LogicalLine.{LogicalLine}
use Rattle.hudi_properties.specs.Escapes.{named}
use Rattle.hudi_properties.specs.Pairs.{is_filled}

-- ---- natural lines

-- The first byte is one of these.
abbrev pub Begins : (ℕ → Type 0) → List ℕ → Type 0
Begins P [] = ⊥
Begins P (b ∷ bs) = P b

-- `\n`, `\r`, or both in this order
abbrev pub IsTerminator : List ℕ → Type 0
IsTerminator t = (t ≡ 10 ∷ []) ⊎ ((t ≡ 13 ∷ []) ⊎ (t ≡ 13 ∷ 10 ∷ []))

abbrev pub IsInLine : ℕ → Type 0
IsInLine b = (b ≢ 10) × (b ≢ 13)

-- The first natural line of a text, its terminator, and what stands behind. `\r` before `\n` is no terminator by itself.
pub record IsFirstLine (bytes line behind : List ℕ) : Type 0 where
  pub terminator : List ℕ
  pub split : bytes ≡ line ++ (terminator ++ behind)
  pub inside : All IsInLine line
  pub ends : IsTerminator terminator
  pub whole : terminator ≡ 13 ∷ [] → ¬ Begins (λ b. b ≡ 10) behind

-- The text is these natural lines: behind each but the last stands a terminator.
abbrev pub AreNaturalLines : List ℕ → List (List ℕ) → Type 0
AreNaturalLines bytes [] = ⊥
AreNaturalLines bytes (line ∷ []) = (bytes ≡ line) × All IsInLine line
AreNaturalLines bytes (line ∷ next ∷ lines) = (behind : List ℕ) × IsFirstLine bytes line behind × AreNaturalLines behind (next ∷ lines)

-- ---- white space, comments and backslashes

-- space, tab and form feed
abbrev pub IsWhite : ℕ → Type 0
IsWhite b = ((b ≡ 32) ⊎ (b ≡ 9)) ⊎ (b ≡ 12)

-- The rest is what stands behind all white space at the start.
pub record IsBehindWhite (bytes rest : List ℕ) : Type 0 where
  pub white : List ℕ
  pub split : bytes ≡ white ++ rest
  pub skipped : All IsWhite white
  pub ends : ¬ Begins IsWhite rest

-- The first character of the natural line that isn't white space is `#` or `!`.
abbrev pub IsComment : List ℕ → Type 0
IsComment line = (rest : List ℕ) × IsBehindWhite line rest × Begins (λ b. (b ≡ 35) ⊎ (b ≡ 33)) rest

-- two backslashes, so often
abbrev pub backslash_pairs : ℕ → List ℕ
backslash_pairs zero = []
backslash_pairs (suc n) = 92 ∷ 92 ∷ backslash_pairs n

-- What comes behind these bytes is escaped: the contiguous backslashes at their end are odd in number, one and some pairs.
pub record EscapesNext (bytes : List ℕ) : Type 0 where
  pub front : List ℕ
  pub pairs : ℕ
  pub split : bytes ≡ front ++ 92 ∷ backslash_pairs pairs
  pub all : (start : List ℕ) → front ≢ start ++ 92 ∷ []

-- ---- logical lines

-- The natural line ends a logical line, and brings this to it.
abbrev pub EndsWith : List ℕ → List ℕ → Type 0
EndsWith line part = IsBehindWhite line part × ¬ EscapesNext part

-- The end of the natural line is escaped. It brings this to a logical line, which goes on.
abbrev pub GoesOnWith : List ℕ → List ℕ → Type 0
GoesOnWith line part = IsBehindWhite line (part ++ 92 ∷ []) × EscapesNext (part ++ 92 ∷ [])

-- The natural lines bring this content to a logical line, each but the last one going on with the next. At the end of the text nothing comes.
abbrev pub Bring : List (List ℕ) → List ℕ → List (List ℕ) → Type 0
Bring behind content [] = (behind ≡ []) × (content ≡ [])
Bring behind content (line ∷ lines) =
    (EndsWith line content × (lines ≡ [])) ⊎ ((part : List ℕ) × (rest : List ℕ) × (content ≡ part ++ rest) × GoesOnWith line part × Bring behind rest lines)

-- what natural lines make: a comment, or a logical line that begins with the first of these and has this content
pub data Block : Type 0 where
  comment : List ℕ → Block
  logical : List ℕ → List (List ℕ) → List ℕ → Block

abbrev pub lines_of : Block → List (List ℕ)
lines_of (comment line) = line ∷ []
lines_of (logical line lines content) = line ∷ lines

-- The block is a comment, or a logical line; behind it come these natural lines. What continues a line is no comment.
abbrev pub IsBlock : List (List ℕ) → Block → Type 0
IsBlock behind (comment line) = IsComment line
IsBlock behind (logical line lines content) = ¬ IsComment line × Bring behind content (line ∷ lines)

abbrev pub AreBlocks : List Block → Type 0
AreBlocks [] = Unit {0}
AreBlocks (block ∷ blocks) = IsBlock (flat_map lines_of blocks) block × AreBlocks blocks

-- the logical lines of blocks of which the first begins with natural line n
abbrev pub numbered : ℕ → List Block → List LogicalLine
numbered n [] = []
numbered n (comment line ∷ blocks) = numbered (n + 1) blocks
numbered n (logical line lines content ∷ blocks) = record { number = n; content = content } ∷ numbered (n + length (line ∷ lines)) blocks

-- These are the logical lines of the natural lines, each with the number of its first natural line.
pub record AreLogicalLines (natural : List (List ℕ)) (lines : List LogicalLine) : Type 0 where
  pub blocks : List Block
  pub whole : natural ≡ flat_map lines_of blocks
  pub each : AreBlocks blocks
  pub are : lines ≡ numbered 1 blocks

-- ---- keys and elements

abbrev pub IsSeparator : ℕ → Type 0
IsSeparator b = (b ≡ 61) ⊎ (b ≡ 58)

abbrev pub EndsKey : ℕ → Type 0
EndsKey b = IsSeparator b ⊎ IsWhite b

-- The key reaches up to the first `=`, `:` or white space that isn't escaped, or to the end of the line.
pub record IsKey (line key behind : List ℕ) : Type 0 where
  pub split : line ≡ key ++ behind
  pub ends : (behind ≡ []) ⊎ (Begins EndsKey behind × ¬ EscapesNext key)
  pub first : (front : List ℕ) (b : ℕ) (more : List ℕ) → key ≡ front ++ b ∷ more → EndsKey b → EscapesNext front

-- The element is what stands behind a key, without white space, one separator and white space at its start.
abbrev pub IsElement : List ℕ → List ℕ → Type 0
IsElement behind element =
    (rest : List ℕ) × IsBehindWhite behind rest
    × (((¬ Begins IsSeparator rest) × (element ≡ rest)) ⊎ ((b : ℕ) × (more : List ℕ) × (rest ≡ b ∷ more) × IsSeparator b × IsBehindWhite more element))

-- ---- escapes

abbrev pub IsHexDigit : ℕ → Type 0
IsHexDigit b = is_digit b 16 ≡ true

-- `\u` and four hex digits
pub record SpellsInHex (piece : List ℕ) (unit : ℕ) : Type 0 where
  pub a : ℕ
  pub b : ℕ
  pub c : ℕ
  pub d : ℕ
  pub spelled : piece ≡ 92 ∷ 117 ∷ a ∷ b ∷ c ∷ d ∷ []
  pub digits : IsHexDigit a × IsHexDigit b × IsHexDigit c × IsHexDigit d
  pub value : unit ≡ ((digit_value a * 16 + digit_value b) * 16 + digit_value c) * 16 + digit_value d

-- The bytes spell one UTF-16 unit: by a character that stands for itself, by a backslash and another character than `u`, or in hex.
abbrev pub Spells : List ℕ → ℕ → Type 0
Spells piece unit =
    ((piece ≡ unit ∷ []) × (unit ≢ 92)) ⊎ (((c : ℕ) × (piece ≡ 92 ∷ c ∷ []) × (c ≢ 117) × (unit ≡ named c)) ⊎ SpellsInHex piece unit)

-- The bytes spell these units, one behind another. A single backslash at the end spells none.
pub record SpellUnits (bytes units : List ℕ) : Type 0 where
  pub pieces : List (List ℕ)
  pub end : List ℕ
  pub split : bytes ≡ concat pieces ++ end
  pub each : AllZip Spells pieces units
  pub lone : (end ≡ []) ⊎ (end ≡ 92 ∷ [])

-- The units are these characters in UTF-16, each surrogate in a pair, and the text is the same characters in UTF-8.
pub record AreUnitsOf (units text : List ℕ) : Type 0 where
  pub chars : List ℕ
  pub utf16 : utf16_chars units ≡ map Some chars
  pub utf8 : text ≡ encode_utf8_all chars

abbrev pub SpellsText : List ℕ → List ℕ → Type 0
SpellsText bytes text = (units : List ℕ) × SpellUnits bytes units × AreUnitsOf units text

-- ---- properties

-- The logical line gives this key and element.
pub record GivesPair (line : List ℕ) (pair : List ℕ × List ℕ) : Type 0 where
  pub key : List ℕ
  pub behind : List ℕ
  pub element : List ℕ
  pub ends : IsKey line key behind
  pub follows : IsElement behind element
  pub key_text : SpellsText key pair.0
  pub element_text : SpellsText element pair.1

abbrev pub LineGives : LogicalLine → List ℕ × List ℕ → Type 0
LineGives line pair = GivesPair line.content pair

-- These are the logical lines of the bytes that have a character left; the others give no pair.
pub record AreFilledLines (bytes : List ℕ) (filled : List LogicalLine) : Type 0 where
  pub natural : List (List ℕ)
  pub logical : List LogicalLine
  pub cut : AreNaturalLines bytes natural
  pub joined : AreLogicalLines natural logical
  pub are : filled ≡ filter is_filled logical

-- Of pairs that are given one after another, this is the last with its key.
pub record IsLastOfKey (given : List (List ℕ × List ℕ)) (pair : List ℕ × List ℕ) : Type 0 where
  pub front : List (List ℕ × List ℕ)
  pub rest : List (List ℕ × List ℕ)
  pub split : given ≡ front ++ pair ∷ rest
  pub last : (value : List ℕ) → ¬ Contains rest (pair.0, value)

-- The pairs are the last of each key, in the byte order of keys.
pub record AreLastOfKeys (given pairs : List (List ℕ × List ℕ)) : Type 0 where
  pub order : IsStrictlySortedBy (slice_cmp nat_cmp) (keys_of pairs)
  pub are : (pair : List ℕ × List ℕ) → Contains pairs pair ↔ IsLastOfKey given pair

-- The bytes are a properties text that gives these pairs, in the byte order of keys; of those with one key the last stands.
pub record AreProperties (bytes : List ℕ) (pairs : List (List ℕ × List ℕ)) : Type 0 where
  pub lines : List LogicalLine
  pub given : List (List ℕ × List ℕ)
  pub filled : AreFilledLines bytes lines
  pub each : AllZip LineGives lines given
  pub kept : AreLastOfKeys given pairs

-- The lines before one give pairs, and that line, which begins with natural line n, gives none.
pub record IsFirstFault (bytes : List ℕ) (n : ℕ) : Type 0 where
  pub front : List LogicalLine
  pub line : LogicalLine
  pub rest : List LogicalLine
  pub before : List (List ℕ × List ℕ)
  pub filled : AreFilledLines bytes (front ++ line ∷ rest)
  pub each : AllZip LineGives front before
  pub none : (pair : List ℕ × List ℕ) → ¬ LineGives line pair
  pub number : n ≡ line.number

-- Memory ran out, or the text has a line that gives no pair, and the error names the first.
abbrev pub IsRefusal : List ℕ → HudiError → Type 0
IsRefusal bytes errors.Memory = Unit {0}
IsRefusal bytes (errors.Malformed n) = IsFirstFault bytes n
IsRefusal bytes (errors.Unsupported feature) = ⊥
IsRefusal bytes (errors.Limit which) = ⊥
