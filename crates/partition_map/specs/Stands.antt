-- When a text stands for a partition value (Delta protocol, "Partition Value Serialization"; the folders of Hive).
use Rattle.std.specs.Prelude.{◌≡◌, ◌≢◌, ◌⊎◌, ℕ, ℤ, pos, List, [], ◌∷◌, length, take, drop, slice_index, codes, true, false, Option, None, Some, FitsSigned}
use Rattle.std.specs.Int.{w32, w64}
use Rattle.std.specs.Str.Parse.{IsNumeral, digits_value, signed_digits_value, without_leading_sign}
use Rattle.jiff_core.specs.Calendar.{IsCivilDate, days_from_civil}
use Rattle.table_history.specs.declared.row.PartValue.{PartValue}
use Rattle.table_history.specs.declared.row.PartValue.TheVariants as value
use Rattle.partition_map.specs.declared.kind.PartKind.{PartKind}
use Rattle.partition_map.specs.declared.kind.PartKind.TheVariants.{Boolean, Int, Long, Text, Date}

-- `+`
abbrev pub plus_sign : ℕ
plus_sign = 43

-- `-`
abbrev pub dash : ℕ
dash = 45

-- Decimal digits, with `-` before them or nothing, write the number.
pub record IsDecimal (text : List ℕ) (z : ℤ) : Type 0 where
  pub no_plus : slice_index text 0 ≢ plus_sign
  pub numeral : IsNumeral 10 (without_leading_sign text)
  pub value : z ≡ signed_digits_value 10 text

abbrev pub year_part : List ℕ → ℕ
year_part text = digits_value 10 (take 4 text)

abbrev pub month_part : List ℕ → ℕ
month_part text = digits_value 10 (take 2 (drop 5 text))

abbrev pub day_part : List ℕ → ℕ
day_part text = digits_value 10 (drop 8 text)

-- `YYYY-MM-DD`, a day of the calendar, is this many days after 1970-01-01.
pub record IsDateText (text : List ℕ) (days : ℤ) : Type 0 where
  pub len : length text ≡ 10
  pub first_dash : slice_index text 4 ≡ dash
  pub second_dash : slice_index text 7 ≡ dash
  pub year : IsNumeral 10 (take 4 text)
  pub month : IsNumeral 10 (take 2 (drop 5 text))
  pub day : IsNumeral 10 (drop 8 text)
  pub civil : IsCivilDate (pos (year_part text)) (month_part text) (day_part text)
  pub value : days ≡ days_from_civil (pos (year_part text)) (month_part text) (day_part text)

-- The text spells the value, where no rule on null and the empty text applies.
abbrev pub IsTextOf : PartKind → List ℕ → PartValue → Type 0
IsTextOf Boolean text v =
    ((text ≡ codes "true") × (v ≡ value.Boolean true))
    ⊎ ((text ≡ codes "false") × (v ≡ value.Boolean false))
IsTextOf Int text v = (z : ℤ) × IsDecimal text z × FitsSigned w32 z × (v ≡ value.Int z)
IsTextOf Long text v = (z : ℤ) × IsDecimal text z × FitsSigned w64 z × (v ≡ value.Long z)
IsTextOf Text text v = v ≡ value.Text text
IsTextOf Date text v = (z : ℤ) × IsDateText text z × (v ≡ value.Date z)

-- The text spells the value, which is of one kind.
abbrev pub IsTextOfSome : List ℕ → PartValue → Type 0
IsTextOfSome text v = (kind : PartKind) × IsTextOf kind text v

-- In a Delta commit, null and the empty text stand for null.
abbrev pub DeltaStands : PartKind → Option (List ℕ) → PartValue → Type 0
DeltaStands kind None v = v ≡ value.Null
DeltaStands kind (Some []) v = v ≡ value.Null
DeltaStands kind (Some (c ∷ text)) v = IsTextOf kind (c ∷ text) v

-- What a hive folder has for null.
abbrev pub hive_null : List ℕ
hive_null = codes "__HIVE_DEFAULT_PARTITION__"

-- In a hive folder one text stands for null, whatever the kind, and the empty text for nothing.
abbrev pub HiveStands : PartKind → List ℕ → PartValue → Type 0
HiveStands kind text v =
    ((text ≡ hive_null) × (v ≡ value.Null))
    ⊎ ((text ≢ hive_null) × (text ≢ []) × IsTextOf kind text v)

-- In a hive folder the text stands for the value, which is of one kind or null.
abbrev pub StandsInFolder : List ℕ → PartValue → Type 0
StandsInFolder text v = (kind : PartKind) × HiveStands kind text v
