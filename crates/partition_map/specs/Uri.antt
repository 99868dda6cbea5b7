-- Paths as relative URIs (Delta protocol, "Add File and Remove File"; RFC 3986).
use Rattle.std.specs.Prelude.{◌≡◌, ◌≢◌, ◌⊎◌, ℕ, ◌+◌, ◌<◌, Bool, ◌||◌, ◌==◌, if◌then◌else◌, List, [], ◌∷◌, ◌++◌, length, slice_index, IsTrue}
use Rattle.std.specs.List.{flat_map, AllPass}
use Rattle.std.specs.Char.{is_digit, is_ascii_alphabetic, is_ascii_alphanumeric}
use Rattle.percent_encoding.specs.Percent.{percent_sign, percent_encode_byte, percent_decode}
use Rattle.table_history.specs.Path.{IsPath, IsPathOfAnyLength}
use Rattle.partition_map.specs.declared.error.PartError.{PartError}
use Rattle.partition_map.specs.declared.error.PartError.TheVariants.{Memory, OutsideTable, BadPath, TooLong, BadValue, ValueForm}

-- Letters, digits and `-._~/=` stand for themselves.
abbrev pub is_plain : ℕ → Bool
is_plain b =
    is_ascii_alphanumeric b || (b == 45) || (b == 46) || (b == 95) || (b == 126) || (b == 47) || (b == 61)

-- A byte, escaped by two upper-case hex digits where it isn't plain.
abbrev pub escaped_byte : ℕ → List ℕ
escaped_byte b = if is_plain b then b ∷ [] else percent_encode_byte b

abbrev pub escaped_path : List ℕ → List ℕ
escaped_path path = flat_map escaped_byte path

-- `/`, `:`, `?` and `#`
abbrev pub slash : ℕ
slash = 47

abbrev pub colon : ℕ
colon = 58

abbrev pub question_mark : ℕ
question_mark = 63

abbrev pub number_sign : ℕ
number_sign = 35

-- Letters, digits and `+-.` may stand in a scheme (RFC 3986, section 3.1).
abbrev pub is_scheme_byte : ℕ → Bool
is_scheme_byte b = is_ascii_alphanumeric b || (b == 43) || (b == 45) || (b == 46)

-- The text begins with a scheme, which begins with a letter, and `:`.
pub record HasScheme (uri : List ℕ) : Type 0 where
  pub scheme : List ℕ
  pub rest : List ℕ
  pub split : uri ≡ scheme ++ colon ∷ rest
  pub letter : IsTrue (is_ascii_alphabetic (slice_index scheme 0))
  pub bytes : AllPass is_scheme_byte scheme

-- The text leads out of the table's folder: it begins with `/`, or with a scheme and `:`.
abbrev pub IsOutside : List ℕ → Type 0
IsOutside uri = (slice_index uri 0 ≡ slash) ⊎ HasScheme uri

-- Two hex digits stand behind this place.
pub record HasHexPair (uri : List ℕ) (i : ℕ) : Type 0 where
  pub room : i + 2 < length uri
  pub high : IsTrue (is_digit (slice_index uri (i + 1)) 16)
  pub low : IsTrue (is_digit (slice_index uri (i + 2)) 16)

-- At this place is no `?` and no `#`, and a `%` has two hex digits behind it.
pub record IsPathByte (uri : List ℕ) (i : ℕ) : Type 0 where
  pub no_query : slice_index uri i ≢ question_mark
  pub no_fragment : slice_index uri i ≢ number_sign
  pub escape : slice_index uri i ≡ percent_sign → HasHexPair uri i

abbrev pub IsWellEscaped : List ℕ → Type 0
IsWellEscaped uri = (i : ℕ) → i < length uri → IsPathByte uri i

-- The relative URI names the path.
pub record NamesPath (uri path : List ℕ) : Type 0 where
  pub relative : ¬ IsOutside uri
  pub well_escaped : IsWellEscaped uri
  pub decodes : path ≡ percent_decode uri
  pub is_path : IsPath path

-- What the relative URI unescapes to breaks the rule on a path's length alone.
pub record BreaksLengthAlone (uri path : List ℕ) : Type 0 where
  pub relative : ¬ IsOutside uri
  pub well_escaped : IsWellEscaped uri
  pub decodes : path ≡ percent_decode uri
  pub any_length : IsPathOfAnyLength path
  pub long : ¬ IsPath path

-- The text stays in the table's folder, and names no path of any length.
pub record NamesNoPath (uri : List ℕ) : Type 0 where
  pub relative : ¬ IsOutside uri
  pub none : IsWellEscaped uri → ¬ IsPathOfAnyLength (percent_decode uri)

-- Why no path was read.
abbrev pub ExplainsRefusal : List ℕ → PartError → Type 0
ExplainsRefusal uri Memory = Unit {0}
ExplainsRefusal uri OutsideTable = IsOutside uri
ExplainsRefusal uri BadPath = NamesNoPath uri
ExplainsRefusal uri TooLong = (path : List ℕ) × BreaksLengthAlone uri path
ExplainsRefusal uri BadValue = ⊥
ExplainsRefusal uri ValueForm = ⊥
