-- What a relative URI names, as one function.
use Rattle.std.specs.Prelude.{◌≡◌, ℕ, Bool, true, not, ◌&&◌, ◌||◌, ◌==◌, nat_lt, if◌then◌else◌, List, [], ◌∷◌, length, slice_index, take_while, Result, Ok, Err}
use Rattle.std.specs.Char.{is_digit, is_ascii_alphabetic}
use Rattle.percent_encoding.specs.Percent.{percent_sign, percent_decode}
use Rattle.table_history.specs.Path.{is_path, is_path_of_any_length}
use Rattle.partition_map.specs.Uri.{slash, colon, question_mark, number_sign, is_scheme_byte}
use Rattle.partition_map.specs.declared.error.PartError.{PartError}
use Rattle.partition_map.specs.declared.error.PartError.TheVariants.{Memory, OutsideTable, BadPath, TooLong, BadValue, ValueForm}

-- A path within the table's folder, one that is too long alone, a place outside of the folder, or no
-- path.
pub data UriPath : Type 0 where
  inside_table : List ℕ → UriPath
  too_long : List ℕ → UriPath
  outside_table : UriPath
  no_path : UriPath

-- The first byte that can't stand in a scheme is `:`, and the first of all is a letter.
abbrev pub has_scheme : List ℕ → Bool
has_scheme uri =
    is_ascii_alphabetic (slice_index uri 0)
    && (slice_index uri (length (take_while is_scheme_byte uri)) == colon)

abbrev pub is_outside : List ℕ → Bool
is_outside uri = (slice_index uri 0 == slash) || has_scheme uri

-- The first two are hex digits.
abbrev pub begins_hex : List ℕ → Bool
begins_hex bytes =
    nat_lt 1 (length bytes)
    && (is_digit (slice_index bytes 0) 16 && is_digit (slice_index bytes 1) 16)

-- The byte is no `?` and no `#`, and as a `%` it has two hex digits behind it.
abbrev pub is_path_byte : ℕ → List ℕ → Bool
is_path_byte b rest =
    not ((b == question_mark) || (b == number_sign))
    && (not (b == percent_sign) || begins_hex rest)

-- There is no `?` and no `#`, and two hex digits stand behind each `%`.
abbrev pub is_well_escaped : List ℕ → Bool
is_well_escaped [] = true
is_well_escaped (b ∷ rest) = is_path_byte b rest && is_well_escaped rest

-- A text without escapes, of the table's folder.
abbrev pub path_place : List ℕ → UriPath
path_place path =
    if is_path path then inside_table path
    else (if is_path_of_any_length path then too_long path else no_path)

abbrev pub uri_path : List ℕ → UriPath
uri_path uri =
    if is_outside uri then outside_table
    else (if is_well_escaped uri then path_place (percent_decode uri) else no_path)

-- What a reader answers at a URI that names this, unless memory runs out.
abbrev pub RefusesPath : UriPath → PartError → Type 0
RefusesPath place Memory = Unit {0}
RefusesPath place OutsideTable = place ≡ outside_table
RefusesPath place BadPath = place ≡ no_path
RefusesPath place TooLong = (path : List ℕ) × (place ≡ too_long path)
RefusesPath place BadValue = ⊥
RefusesPath place ValueForm = ⊥

abbrev pub GivesPath : UriPath → Result (List ℕ) PartError → Type 0
GivesPath place (Ok path) = place ≡ inside_table path
GivesPath place (Err error) = RefusesPath place error
