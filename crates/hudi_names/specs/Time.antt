-- The times of instants: 17 digits of a day and a time in UTC.
use Rattle.std.specs.Prelude.{◌≡◌, ℕ, ◌+◌, ◌*◌, ◌/◌, ◌%◌, ◌<◌, ◌<ℤ◌, ◌+ℤ◌, ◌*ℤ◌, ℤ, pos, List, length}
use Rattle.std.specs.Str.Parse.{IsNumeral, digits_value}
use Rattle.jiff_core.specs.Calendar.{IsCivilDate, days_from_civil}

-- `hhmmssSSS` is this many milliseconds after the start of the day
pub record IsTimeOfDay (time ms : ℕ) : Type 0 where
  pub hour : time / 10000000 < 24
  pub minute : time / 100000 % 100 < 60
  pub second : time / 1000 % 100 < 60
  pub value : ms ≡ ((time / 10000000 * 60 + time / 100000 % 100) * 60 + time / 1000 % 100) * 1000 + time % 1000

-- `YYYYMMDD` is a day of the calendar, this many days after 1970-01-01
pub record IsDay (date : ℕ) (days : ℤ) : Type 0 where
  pub civil : IsCivilDate (pos (date / 10000)) (date / 100 % 100) (date % 100)
  pub value : days ≡ days_from_civil (pos (date / 10000)) (date / 100 % 100) (date % 100)

-- `YYYYMMDDhhmmssSSS` is this many milliseconds after the start of 1970
pub record IsTimeNumber (number : ℕ) (ms : ℤ) : Type 0 where
  pub days : ℤ
  pub in_day : ℕ
  pub day : IsDay (number / 1000000000) days
  pub time : IsTimeOfDay (number % 1000000000) in_day
  pub value : ms ≡ (days *ℤ pos 86400000) +ℤ pos in_day

pub record IsDigits (text : List ℕ) : Type 0 where
  pub len : length text ≡ 17
  pub numeral : IsNumeral 10 text

-- 17 digits spell a real day and time, this many milliseconds after the start of 1970
pub record IsTime (text : List ℕ) (ms : ℤ) : Type 0 where
  pub digits : IsDigits text
  pub number : IsTimeNumber (digits_value 10 text) ms

abbrev pub IsSomeTime : List ℕ → Type 0
IsSomeTime text = (ms : ℤ) × IsTime text ms

-- there are 17 digits that spell this time
abbrev pub IsSomeTimeAt : ℤ → Type 0
IsSomeTimeAt ms = (text : List ℕ) × IsTime text ms

-- after the last millisecond of the year 9999
abbrev pub IsPast9999 : ℤ → Type 0
IsPast9999 ms = pos 253402300799999 <ℤ ms
