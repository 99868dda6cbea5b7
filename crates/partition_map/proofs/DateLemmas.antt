-- Days of the calendar by natural numbers.
use Rattle.std.specs.List.{AllByRecursion}
use Rattle.std.specs.Str.{IsAscii}
use Rattle.std.proofs.lemmas.Str.Ascii.{IsAscii-cons, IsAscii-nil}
use Rattle.std.proofs.Common.{[], ◌∷◌, suc, negsuc, neg_ℤ, cond, false, ◌^◌, ◌<ℤ◌, ◌≤ℤ◌, inl, inr, slice_index, List, length, take, drop, get_or, Option, None, Some, MatchOption, ◌≡◌, ℕ, ℤ, pos, ◌<◌, ◌≤◌, refl, sym, ap, subst, ◌∙◌, arith, rules, lit≤}
use Rattle.std.proofs.lemmas.Int.{ints}
use Rattle.std.proofs.lemmas.Grind.{common_steps}
use Rattle.std.specs.Str.Parse.{IsNumeral, digits_value, without_leading_sign}
use Rattle.std.specs.Prelude.{◌==◌}
use Rattle.std.specs.Fmt.{decimal, signed_decimal}
use Rattle.std.specs.Int.{IsInRange}
use Rattle.std.proofs.lemmas.Bool.{cond-false}
use Rattle.std.proofs.lemmas.Bool.Decides.{nat_tests}
use Rattle.std.proofs.lemmas.Fmt.{decimal_is_IsNumeral}
use Rattle.std.proofs.lemmas.Str.Parse.{digit_at}
use lib.Signed.{mag}
use Rattle.jiff_core.proofs.MarchLemmas.{day_count-early}
use Rattle.jiff_core.proofs.CalendarLemmas.{days_from_civil-day_count, days_in_month_bounds}
use Rattle.jiff_core.proofs.DateLemmas.{IsEarlier, cases_date, epoch_day-lt, epoch_day_same, epoch_day_range, epoch_day_injective}
use Rattle.jiff_core.proofs.SignedLemmas.{signed_arith}
use Rattle.partition_map.specs.DeltaText.{date_text, WritesDay, HasFourDigitYear}
use Rattle.partition_map.specs.Stands.{IsDecimal, IsDateText, year_part, month_part, day_part}
use Rattle.jiff_core.specs.Calendar.{day_count, IsCivilDate, IsEpochDay, IsDate, days_in_month, days_from_civil}
use Rattle.jiff_core.specs.Date.{epoch_day}
use Rattle.jiff_core.specs.declared.civil.date.Date.{Date}

pub day_of_date : (date : Date) (y m d : ℕ) → date.year ≡ pos y → pos date.month ≡ pos m → pos date.day ≡ pos d
    → IsCivilDate (pos y) m d × (epoch_day date ≡ days_from_civil (pos y) m d)
day_of_date date y m d is_y is_m is_d =
    let month : date.month ≡ m = cc in
    let day : date.day ≡ d = cc in (
      subst (λ k. IsCivilDate (pos y) m k) day (subst (λ k. IsCivilDate (pos y) k date.day) month (subst (λ k. IsCivilDate k date.month date.day) is_y (date.year_in, date.month_in, date.day_in))),
      (λ i. days_from_civil (is_y i) (month i) (day i)),
    )

pub date_of_civil : (y m d : ℕ) → IsCivilDate (pos y) m d → IsDate (pos y) (pos m) (pos d)
date_of_civil y m d h = (h.0, (omega (arith, ints, h.1), omega (arith, ints, h.1)), (omega (arith, ints, h.2), omega (arith, ints, h.2)))

-- the parts of a date text, with the day that they name
pub read_day : (text : List ℕ) (y m d : ℕ) → length text ≡ 10 → get_or text 4 0 ≡ 45 → get_or text 7 0 ≡ 45
    → IsNumeral 10 (take 4 text) → IsNumeral 10 (take 2 (drop 5 text)) → IsNumeral 10 (drop 8 text)
    → y ≡ year_part text → m ≡ month_part text → d ≡ day_part text
    → (r : Option ℤ) → MatchOption r (IsCivilDate (pos y) m d → ⊥) (λ z. IsCivilDate (pos y) m d × (z ≡ days_from_civil (pos y) m d))
    → MatchOption r ((z : ℤ) → IsDateText text z → ⊥) (λ z. IsDateText text z)
read_day text y m d len dash dash' n n' n'' is_y is_m is_d None h = λ z t.
    h (subst (λ k. IsCivilDate (pos y) m k) (sym is_d) (subst (λ k. IsCivilDate (pos y) k (day_part text)) (sym is_m) (subst (λ k. IsCivilDate (pos k) (month_part text) (day_part text)) (sym is_y) t.civil)))
read_day text y m d len dash dash' n n' n'' is_y is_m is_d (Some z) h = record {
  len = len;
  first_dash = dash;
  second_dash = dash';
  year = n;
  month = n';
  day = n'';
  civil = subst (λ k. IsCivilDate (pos (year_part text)) (month_part text) k) is_d (subst (λ k. IsCivilDate (pos (year_part text)) k d) is_m (subst (λ k. IsCivilDate (pos k) m d) is_y h.0));
  value = h.1 ∙ (λ i. days_from_civil (pos (is_y i)) (is_m i) (is_d i));
}

-- the date that a text names
pub date_of_text : (text : List ℕ) (z : ℤ) → IsDateText text z → (date : Date) × (epoch_day date ≡ z) × (date.year ≡ pos (year_part text))
date_of_text text z t = (
  record { year = pos (year_part text); month = month_part text; day = day_part text; year_in = t.civil.0; month_in = t.civil.1; day_in = t.civil.2 },
  sym t.value,
  refl,
)

pub day_range : (text : List ℕ) (z : ℤ) → IsDateText text z → IsEpochDay z
day_range text z t = let named = date_of_text text z t in subst IsEpochDay named.1 (epoch_day_range named.0)

-- the ten bytes of a date write its numbers
pub record WritesDate (year month day : ℕ) (text : List ℕ) : Type 0 where
  pub len : length text ≡ 10
  pub first_dash : slice_index text 4 ≡ 45
  pub second_dash : slice_index text 7 ≡ 45
  pub year_digits : IsNumeral 10 (take 4 text)
  pub month_digits : IsNumeral 10 (take 2 (drop 5 text))
  pub day_digits : IsNumeral 10 (drop 8 text)
  pub year_is : year_part text ≡ year
  pub month_is : month_part text ≡ month
  pub day_is : day_part text ≡ day

pub date_text-writes : (y m d : ℕ) → y < 10000 → m < 100 → d < 100 → WritesDate y m d (date_text y m d)
date_text-writes y m d small small' small'' = record {
  len = refl;
  first_dash = refl;
  second_dash = refl;
  year_digits = search rules;
  month_digits = search rules;
  day_digits = search rules;
  year_is = grind (arith, common_steps);
  month_is = grind (arith, common_steps);
  day_is = grind (arith, common_steps);
}

civil_small : (y m d : ℕ) → IsCivilDate (pos y) m d → (y < 10000) × (m < 100) × (d < 100)
civil_small y m d h =
    let bound : days_in_month (pos y) m ≤ 31 = (days_in_month_bounds (pos y) m).0 in
    (omega (arith, ints, h.0), omega (arith, h.1), omega (arith, bound, h.2))

pub day_written : (z : ℤ) (text : List ℕ) → WritesDay z text → IsDateText text z
day_written z text w =
    let small = civil_small w.year w.month w.day w.civil in
    subst (λ t. IsDateText t z) (sym w.digits) (is (date_text-writes w.year w.month w.day small.0 small.1 small.2))
  where
    is : WritesDate w.year w.month w.day (date_text w.year w.month w.day) → IsDateText (date_text w.year w.month w.day) z
    is t = record {
      len = t.len;
      first_dash = t.first_dash;
      second_dash = t.second_dash;
      year = t.year_digits;
      month = t.month_digits;
      day = t.day_digits;
      civil = subst (λ k. IsCivilDate (pos (year_part (date_text w.year w.month w.day))) (month_part (date_text w.year w.month w.day)) k) (sym t.day_is)
          (subst (λ k. IsCivilDate (pos (year_part (date_text w.year w.month w.day))) k w.day) (sym t.month_is) (subst (λ k. IsCivilDate (pos k) w.month w.day) (sym t.year_is) w.civil));
      value = sym w.number ∙ (λ i. days_from_civil (pos (sym t.year_is i)) (sym t.month_is i) (sym t.day_is i));
    }

-- a day has one text
pub WritesDay-sole : (z : ℤ) (a b : List ℕ) → WritesDay z a → WritesDay z b → a ≡ b
WritesDay-sole z a b v w =
    let one : Date = record { year = pos v.year; month = v.month; day = v.day; year_in = v.civil.0; month_in = v.civil.1; day_in = v.civil.2 } in
    let two : Date = record { year = pos w.year; month = w.month; day = w.day; year_in = w.civil.0; month_in = w.civil.1; day_in = w.civil.2 } in
    let same = epoch_day_injective one two (v.number ∙ sym w.number) in
    let year : v.year ≡ w.year = let e : pos v.year ≡ pos w.year = same.0 in cc in
    v.digits ∙ (λ i. date_text (year i) (same.1 i) (same.2 i)) ∙ sym w.digits

-- ---- the years from 0000 to 9999
abbrev first_date : Date
first_date = record { year = pos 0; month = 1; day = 1; year_in = (omega (arith, ints), omega (arith, ints)); month_in = (lit≤ tt, lit≤ tt); day_in = (lit≤ tt, lit≤ tt) }

day_count-first : day_count (pos 0) 1 1 ≡ 3_652_425
day_count-first = day_count-early (pos 0) 9999 1 1 refl (omega arith) (omega arith) (omega arith)

days_from_civil-first : days_from_civil (pos 0) 1 1 ≡ neg_ℤ (pos 719_528)
days_from_civil-first = omega (arith, signed_arith, days_from_civil-day_count, day_count-first)

pub early_year : (date : Date) (z : ℤ) → epoch_day date ≡ z → date.year <ℤ pos 0 → HasFourDigitYear z → ⊥
early_year date z is early inside =
    let before : epoch_day date <ℤ epoch_day first_date = epoch_day-lt date first_date (inl early) in
    absurd (omega (arith, signed_arith, is, before, days_from_civil-first, inside.from_first))

first_is_first : (date : Date) → pos 0 ≤ℤ date.year → IsEarlier date first_date → ⊥
first_is_first date late (inl year) = absurd (omega (arith, signed_arith, late, year))
first_is_first date late (inr (year, inl month)) = absurd (omega (arith, month, date.month_in.0))
first_is_first date late (inr (year, inr (month, day))) = absurd (omega (arith, day, date.day_in.0))

pub later_year : (date : Date) (z : ℤ) → epoch_day date ≡ z → pos 0 ≤ℤ date.year → HasFourDigitYear z
later_year date z is late = record {
  from_first = elim (cases_date first_date date) [
    | inl lt ↦ let after : epoch_day first_date <ℤ epoch_day date = epoch_day-lt first_date date lt in
        omega (arith, signed_arith, is, after, days_from_civil-first)
    | inr (inl gt) ↦ absurd (first_is_first date late gt)
    | inr (inr same) ↦ let e : epoch_day first_date ≡ epoch_day date = epoch_day_same first_date date same.0 same.1 same.2 in
        omega (arith, signed_arith, is, e, days_from_civil-first)
  ];
  to_last = let range : IsEpochDay (epoch_day date) = epoch_day_range date in omega (arith, signed_arith, is, range.1);
}

pub outside_calendar : (z : ℤ) → (IsEpochDay z → ⊥) → HasFourDigitYear z → ⊥
outside_calendar z outside inside = outside (omega (arith, ints, inside.from_first), inside.to_last)

-- the text of a date, in the years 0000 to 9999
pub date_written : (date : Date) (z : ℤ) (y : ℕ) (text : List ℕ) → epoch_day date ≡ z → date.year ≡ pos y → text ≡ date_text y date.month date.day → HasFourDigitYear z × WritesDay z text
date_written date z y text is year digits = (
  later_year date z is (omega (arith, ints, year)),
  record {
    year = y;
    month = date.month;
    day = date.day;
    civil = subst (λ k. IsCivilDate k date.month date.day) year (date.year_in, date.month_in, date.day_in);
    number = ap (λ k. days_from_civil k date.month date.day) (sym year) ∙ is;
    digits = digits;
  },
)

-- ---- a number as decimal text
decimal_start : (n : ℕ) → n < 2 ^ 64 → IsInRange 48 57 (get_or (decimal n) 0 0)
decimal_start n small = let is = decimal_is_IsNumeral n small in digit_at (decimal n) 0 is.0.1 is.0.0

pub decimal_written : (z : ℤ) → mag z < 2 ^ 63 → IsDecimal (signed_decimal z) z
decimal_written (pos n) small =
    let is = decimal_is_IsNumeral n (omega arith) in
    let start = decimal_start n (omega arith) in
    let no_minus : (slice_index (decimal n) 0 == 45) ≡ false = grind (arith, nat_tests, start) in
    let no_plus : (slice_index (decimal n) 0 == 43) ≡ false = grind (arith, nat_tests, start) in
    let same : without_leading_sign (decimal n) ≡ decimal n =
    cond-false (slice_index (decimal n) 0 == 45) _ _ no_minus ∙ ap (λ b. drop (cond b 1 0) (decimal n)) no_plus in
    record {
      no_plus = λ e. omega (arith, start, e);
      numeral = subst (IsNumeral 10) (sym same) is.0;
      value = sym (cond-false (slice_index (decimal n) 0 == 45) _ _ no_minus ∙ ap (λ ds. pos (digits_value 10 ds)) same ∙ ap pos is.1);
    }
decimal_written (negsuc n) small =
    let is = decimal_is_IsNumeral (suc n) (omega arith) in
    record {
      no_plus = λ e. omega (arith, e);
      numeral = is.0;
      value = sym (ap (λ k. neg_ℤ (pos k)) is.1);
    }

pub ascii_from : (xs : List ℕ) → AllByRecursion (λ b. b < 128) xs → IsAscii xs
ascii_from [] h = IsAscii-nil
ascii_from (x ∷ xs) h = IsAscii-cons x xs h.0 (ascii_from xs h.1)
