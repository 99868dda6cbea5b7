-- The text of a partition value in a Delta commit.
use Rattle.std.specs.Prelude.{◌≡◌, ◌≢◌, ℕ, ◌+◌, ◌/◌, ◌%◌, ℤ, pos, neg_ℤ, ◌≤ℤ◌, if◌then◌else◌, List, [], ◌∷◌, codes, Option, None, Some}
use Rattle.std.specs.Fmt.{signed_decimal}
use Rattle.jiff_core.specs.Calendar.{IsCivilDate, days_from_civil}
use Rattle.table_history.specs.declared.row.PartValue.{PartValue}
use Rattle.table_history.specs.declared.row.PartValue.TheVariants as value
use Rattle.partition_map.specs.declared.kind.PartKind.{PartKind}
use Rattle.partition_map.specs.Kind.{IsOfKind}
use Rattle.partition_map.specs.Stands.{dash, DeltaStands}

-- the decimal digit of a number under ten
abbrev digit : ℕ → ℕ
digit n = 48 + n

-- `YYYY-MM-DD`
abbrev pub date_text : ℕ → ℕ → ℕ → List ℕ
date_text year month day =
    digit (year / 10 / 10 / 10) ∷ digit (year / 10 / 10 % 10)
    ∷ digit (year / 10 % 10) ∷ digit (year % 10)
    ∷ dash ∷ digit (month / 10) ∷ digit (month % 10)
    ∷ dash ∷ digit (day / 10) ∷ digit (day % 10) ∷ []

-- The text is that of the day of the calendar, of the years 0000 to 9999, that is this many days after 1970-01-01.
pub record WritesDay (days : ℤ) (text : List ℕ) : Type 0 where
  pub year : ℕ
  pub month : ℕ
  pub day : ℕ
  pub civil : IsCivilDate (pos year) month day
  pub number : days_from_civil (pos year) month day ≡ days
  pub digits : text ≡ date_text year month day

-- The text that is written for a value, or null. Decimals have no leading zeros and no `-0`, and the empty
-- text, which would be read as null, isn't written.
abbrev pub WritesDelta : PartValue → Option (List ℕ) → Type 0
WritesDelta value.Null text = text ≡ None
WritesDelta (value.Boolean b) text = text ≡ Some (if b then codes "true" else codes "false")
WritesDelta (value.Int z) text = text ≡ Some (signed_decimal z)
WritesDelta (value.Long z) text = text ≡ Some (signed_decimal z)
WritesDelta (value.Text t) text = (t ≢ []) × (text ≡ Some t)
WritesDelta (value.Date days) None = ⊥
WritesDelta (value.Date days) (Some text) = WritesDay days text

-- The one text that is written for the value, or null. It stands for the value again.
pub record IsDeltaText (value : PartValue) (text : Option (List ℕ)) : Type 0 where
  pub writes : WritesDelta value text
  pub sole : (other : Option (List ℕ)) → WritesDelta value other → other ≡ text
  pub stands : (kind : PartKind) → IsOfKind kind value → DeltaStands kind text value

-- 0000-01-01 and 9999-12-31, in days after 1970-01-01
abbrev pub first_day : ℤ
first_day = neg_ℤ (pos 719_528)

abbrev pub last_day : ℤ
last_day = pos 2_932_896

-- The day is of a year from 0000 to 9999.
pub record HasFourDigitYear (days : ℤ) : Type 0 where
  pub from_first : first_day ≤ℤ days
  pub to_last : days ≤ℤ last_day

-- The value has no text in a Delta commit that stands for it: it is the empty text, or a day of another year.
abbrev pub HasNoDeltaText : PartValue → Type 0
HasNoDeltaText (value.Text text) = text ≡ []
HasNoDeltaText (value.Date days) = ¬ HasFourDigitYear days
HasNoDeltaText _ = ⊥
