-- Days of the calendar by natural numbers.
use Rattle.std.proofs.Common.{◌≡◌, ℕ, ℤ, pos, ◌/◌, ◌%◌, ◌<◌, ◌<ℤ◌, refl, sym, ap, subst, ◌∙◌, inl, inr, arith}
use Rattle.std.proofs.lemmas.Int.{ints}
use Rattle.jiff_core.proofs.DateLemmas.{epoch_day_range, epoch_day_injective, epoch_day-lt, epoch_day_same, cases_date, IsEarlier}
use Rattle.jiff_core.specs.Calendar.{IsCivilDate, IsEpochDay, IsDate, days_from_civil}
use Rattle.jiff_core.specs.Date.{epoch_day}
use Rattle.jiff_core.specs.declared.civil.date.Date.{Date}
use Rattle.hudi_names.specs.Time.{IsDay}

pub day_of_date : (date : Date) (y m d : ℕ) → date.year ≡ pos y → pos date.month ≡ pos m → pos date.day ≡ pos d
    → IsCivilDate (pos y) m d × (epoch_day date ≡ days_from_civil (pos y) m d)
day_of_date date y m d is_y is_m is_d =
    let month : date.month ≡ m = cc in
    let day : date.day ≡ d = cc in (
      subst (λ k. IsCivilDate (pos y) m k) day (subst (λ k. IsCivilDate (pos y) k date.day) month (subst (λ k. IsCivilDate k date.month date.day) is_y (date.year_in, date.month_in, date.day_in))),
      (λ i. days_from_civil (is_y i) (month i) (day i)),
    )

pub date_of_civil : (y m d : ℕ) → IsCivilDate (pos y) m d → IsDate (pos y) (pos m) (pos d)
date_of_civil y m d h = (h.0, (omega (arith, ints, h.1), omega (arith, ints, h.1)), (omega (arith, ints, h.2), omega (arith, ints, h.2)))

-- the date that eight digits name
pub date_of_day : (n : ℕ) (days : ℤ) → IsDay n days → (date : Date) × (epoch_day date ≡ days) × (date.year ≡ pos (n / 10000)) × (date.month ≡ n / 100 % 100) × (date.day ≡ n % 100)
date_of_day n days h = (
  record { year = pos (n / 10000); month = n / 100 % 100; day = n % 100; year_in = h.civil.0; month_in = h.civil.1; day_in = h.civil.2 },
  sym h.value,
  refl,
  refl,
  refl,
)

pub no_day_outside : (n : ℕ) (days : ℤ) → (IsEpochDay days → ⊥) → IsDay n days → ⊥
no_day_outside n days outside h =
    let named = date_of_day n days h in outside (subst IsEpochDay named.1 (epoch_day_range named.0))

pub no_day_before : (date : Date) (n : ℕ) (days : ℤ) → epoch_day date ≡ days → date.year <ℤ pos 0 → IsDay n days → ⊥
no_day_before date n days is early h =
    let named = date_of_day n days h in
    let same = epoch_day_injective date named.0 (is ∙ sym named.1) in
    let year : date.year ≡ pos (n / 10000) = same.0 ∙ named.2 in absurd (omega (arith, ints, early, year))

-- the day of a date, by its digits
pub day_of_digits : (date : Date) (n y : ℕ) (days : ℤ) → epoch_day date ≡ days → date.year ≡ pos y → n / 10000 ≡ y → n / 100 % 100 ≡ date.month → n % 100 ≡ date.day → IsDay n days
day_of_digits date n y days is is_y year month day =
    let first : date.year ≡ pos (n / 10000) = is_y ∙ ap pos (sym year) in
    let civil : IsCivilDate date.year date.month date.day = (date.year_in, date.month_in, date.day_in) in
    record {
      civil = subst (λ k. IsCivilDate (pos (n / 10000)) (n / 100 % 100) k) (sym day) (subst (λ k. IsCivilDate (pos (n / 10000)) k date.day) (sym month) (subst (λ k. IsCivilDate k date.month date.day) first civil));
      value = sym is ∙ (λ i. days_from_civil (first i) (sym month i) (sym day i));
    }

digits-lt : (x y : Date) (n m : ℕ) → x.year ≡ pos (n / 10000) → x.month ≡ n / 100 % 100 → x.day ≡ n % 100 → y.year ≡ pos (m / 10000) → y.month ≡ m / 100 % 100 → y.day ≡ m % 100 → IsEarlier x y → n < m
digits-lt x y n m a b c d e f (inl year) = omega (arith, ints)
digits-lt x y n m a b c d e f (inr (year, inl month)) = omega (arith, ints)
digits-lt x y n m a b c d e f (inr (year, inr day)) = omega (arith, ints)

-- of two days the later has the greater digits
pub later_day : (n m : ℕ) (a b : ℤ) → IsDay n a → IsDay m b → a <ℤ b → n < m
later_day n m a b first second h =
    let x = date_of_day n a first in
    let y = date_of_day m b second in
    elim (cases_date x.0 y.0) [
      | inl early ↦ digits-lt x.0 y.0 n m x.2 x.3 x.4 y.2 y.3 y.4 early
      | inr (inl late) ↦ absurd (omega (arith, ints, epoch_day-lt y.0 x.0 late, x.1, y.1, h))
      | inr (inr same) ↦ absurd (omega (arith, ints, epoch_day_same x.0 y.0 same.0 same.1 same.2, x.1, y.1, h))
    ]

-- one day has one spelling in digits
pub same_day : (n m : ℕ) (a b : ℤ) → IsDay n a → IsDay m b → a ≡ b → n ≡ m
same_day n m a b first second e =
    let x = date_of_day n a first in
    let y = date_of_day m b second in
    let same = epoch_day_injective x.0 y.0 (x.1 ∙ e ∙ sym y.1) in
    let year : n / 10000 ≡ m / 10000 = omega (arith, ints, same.0, x.2, y.2) in
    let month : n / 100 % 100 ≡ m / 100 % 100 = sym x.3 ∙ same.1 ∙ y.3 in
    let day : n % 100 ≡ m % 100 = sym x.4 ∙ same.2 ∙ y.4 in omega (arith, year, month, day)
