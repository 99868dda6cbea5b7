-- Times as digits.
use Rattle.std.proofs.Common.{◌≡◌, ◌≢◌, ℕ, suc, ℤ, pos, negsuc, ◌+◌, ◌-◌, ◌*◌, ◌/◌, ◌%◌, ◌^◌, ◌<◌, ◌≤◌, ◌<ℤ◌, ◌≤ℤ◌, ◌+ℤ◌, ◌*ℤ◌, List, [], ◌∷◌, ◌++◌, length, get_or, replicate, MatchOption, IfSome, Result, Ok, Err, false, refl, sym, ap, subst, ◌∙◌, neg_ℤ, inl, inr, codes, arith, rules}
use Rattle.std.specs.Int.{int_div_euclid, int_rem_euclid}
use Rattle.std.specs.Char.{digit_value}
use Rattle.std.specs.Result.{result_ok}
use Rattle.std.specs.Fmt.{char_count}
use Rattle.std.specs.Fmt.{decimal, padded_integral, format_spec}
use Rattle.std.specs.Str.Parse.{IsNumeral, AllDigits, digits_value, digits_value_after, ParsesUnsigned}
use Rattle.std.specs.Ordering.{nat_cmp}
use Rattle.std.specs.declared.cmp.Ordering.TheVariants.{Less, Equal}
use Rattle.std.specs.Cmp.Lexicographic.{slice_cmp}
use Rattle.std.proofs.Math.Nat.{pow-suc, mul-le-mul_right}
use Rattle.std.proofs.lemmas.Bool.{cases_order}
use Rattle.jiff_core.proofs.DateLemmas.{epoch_day_range, epoch_day-lt}
use Rattle.jiff_core.specs.Calendar.{IsEpochDay, days_from_civil}
use Rattle.jiff_core.specs.Date.{epoch_day}
use Rattle.jiff_core.specs.declared.civil.date.Date.{Date}
use Rattle.std.proofs.lemmas.Bool.Decides.{nat_tests}
use Rattle.std.proofs.lemmas.Fmt.{decimal_is_IsNumeral, length-decimal-le}
use Rattle.std.proofs.lemmas.List.{append-nil}
use Rattle.std.proofs.lemmas.Int.{ints, by_lt_z}
use Rattle.hudi_names.proofs.DateLemmas.{date_of_day, later_day, same_day}
use Rattle.std.proofs.lemmas.Int.Digits.{digits_value-lt}
use Rattle.std.proofs.lemmas.Str.{digit_value_digit}
use Rattle.std.proofs.lemmas.Str.Parse.{digit_at, without_leading_plus_none}
use Rattle.hudi_names.specs.Time.{IsDigits, IsTimeOfDay, IsDay, IsTimeNumber, IsSomeTimeAt, IsTime, IsPast9999}
use Rattle.lake_basics.proofs.Texts.{AllDigits-zeros, digits_value-zeros, length-zeros}

-- ---- a time is a day and a time of the day

pub in_day_small : (time ms : ℕ) → IsTimeOfDay time ms → ms < 86400000
in_day_small time ms h = omega (arith, h.hour, h.minute, h.second, h.value)

pub whole_days : (ms : ℤ) → ms ≡ (int_div_euclid ms (pos 86400000) *ℤ pos 86400000) +ℤ int_rem_euclid ms (pos 86400000)
whole_days (pos a) = omega (arith, ints)
whole_days (negsuc a) = omega (arith, ints)

pub only_days : (ms days : ℤ) (in_day : ℕ) → in_day < 86400000 → ms ≡ (days *ℤ pos 86400000) +ℤ pos in_day → days ≡ int_div_euclid ms (pos 86400000)
only_days (pos a) (pos d) in_day small is = omega (arith, ints)
only_days (pos a) (negsuc d) in_day small is = absurd (omega (arith, ints))
only_days (negsuc a) (pos d) in_day small is = absurd (omega (arith, ints))
only_days (negsuc a) (negsuc d) in_day small is = omega (arith, ints)

-- ---- digits with zeros before them

pub padded_digits : (n : ℕ) (text : List ℕ) → n < 10 ^ 17 → text ≡ replicate (17 - length (decimal n)) 48 ++ decimal n → IsDigits text × (digits_value 10 text ≡ n)
padded_digits n text small is =
    let short : length (decimal n) ≤ 17 = length-decimal-le 17 n (omega arith) small (omega arith) in
    let numeral = decimal_is_IsNumeral n (omega arith) in
    let len : length text ≡ 17 = ap length is ∙ length-zeros (17 - length (decimal n)) (decimal n) ∙ omega arith in (
      record {
        len = len;
        numeral = (omega arith, subst (AllDigits 10) (sym is) (AllDigits-zeros (17 - length (decimal n)) (decimal n) numeral.0.1));
      },
      ap (digits_value 10) is ∙ digits_value-zeros (17 - length (decimal n)) (decimal n) ∙ numeral.1,
    )

-- ---- a numeral begins with no `+`

pub parsed : {E : Type 0} (text : List ℕ) (r : Result ℕ E) → length text ≡ 17 → get_or text 0 0 ≢ 43 → ParsesUnsigned 64 10 text r
    → MatchOption (result_ok r) (IsDigits text → ⊥) (λ n. IsDigits text × (n ≡ digits_value 10 text)) × IfSome (result_ok r) (λ n. n < 10 ^ 17)
parsed text (Ok n) len first h =
    let same = without_leading_plus_none text first in
    let numeral : IsNumeral 10 text = subst (IsNumeral 10) same h.0.0 in
    let value : n ≡ digits_value 10 text = h.1 ∙ ap (digits_value 10) same in
    let small : digits_value 10 text < 10 ^ length text = digits_value-lt 10 text numeral.1 in
    let power : 10 ^ length text ≡ 10 ^ 17 = ap (λ k. 10 ^ k) len in
    ((record { len = len; numeral = numeral }, value), omega arith)
parsed text (Err e) len first h =
    let same = without_leading_plus_none text first in (
      λ d.
          let small : digits_value 10 text < 10 ^ length text = digits_value-lt 10 text d.numeral.1 in
          let power : 10 ^ length text ≡ 10 ^ 17 = ap (λ k. 10 ^ k) len in
          let fits : digits_value 10 text < 2 ^ 64 = omega arith in
          h (subst (λ bs. IsNumeral 10 bs × (digits_value 10 bs < 2 ^ 64)) (sym same) (d.numeral, fits)),
      tt,
    )

-- what `{:017}` writes
pub padded_text : (n : ℕ) → padded_integral (format_spec 32 0 4 17 (2 ^ 64 - 1)) false [] (decimal n) ≡ replicate (17 - length (decimal n)) 48 ++ decimal n
unfolding padded_integral char_count
padded_text n =
    let none : 17 - length (decimal n) - 0 - 0 ≡ 17 - length (decimal n) = omega arith in rw (append-nil (decimal n), none)

-- ---- which times have digits

pub digits_small : (text : List ℕ) → IsDigits text → digits_value 10 text < 10 ^ 17
digits_small text d =
    let small : digits_value 10 text < 10 ^ length text = digits_value-lt 10 text d.numeral.1 in
    let power : 10 ^ length text ≡ 10 ^ 17 = ap (λ k. 10 ^ k) d.len in omega arith

pub no_time_of_day : (text : List ℕ) (n : ℕ) → n ≡ digits_value 10 text → ((in_day : ℕ) → IsTimeOfDay (n % 1000000000) in_day → ⊥) → (ms : ℤ) → IsTime text ms → ⊥
no_time_of_day text n is none ms t = none t.number.in_day (subst (λ k. IsTimeOfDay (k % 1000000000) t.number.in_day) (sym is) t.number.time)

pub day_in_range : (n : ℕ) (ms : ℤ) (h : IsTimeNumber n ms) → h.days ≡ int_div_euclid ms (pos 86400000)
day_in_range n ms h = only_days ms h.days h.in_day (in_day_small _ _ h.time) h.value

pub number_of_parts : (day time : ℕ) (days ms : ℤ) (in_day : ℕ) → time < 1000000000 → IsDay day days → IsTimeOfDay time in_day → ms ≡ (days *ℤ pos 86400000) +ℤ pos in_day → IsTimeNumber (day * 1000000000 + time) ms
number_of_parts day time days ms in_day small is_day is_time value =
    let first : (day * 1000000000 + time) / 1000000000 ≡ day = omega arith in
    let second : (day * 1000000000 + time) % 1000000000 ≡ time = omega arith in
    record {
      days = days;
      in_day = in_day;
      day = subst (λ k. IsDay k days) (sym first) is_day;
      time = subst (λ k. IsTimeOfDay k in_day) (sym second) is_time;
      value = value;
    }

-- ---- times past the last

le_days : (a b : ℤ) → a ≤ℤ b → int_div_euclid a (pos 86400000) ≤ℤ int_div_euclid b (pos 86400000)
le_days (pos a) (pos b) h = omega (arith, ints)
le_days (pos a) (negsuc b) h = absurd (omega (arith, ints))
le_days (negsuc a) (pos b) h = omega (arith, ints)
le_days (negsuc a) (negsuc b) h = omega (arith, ints)

past_days : (a : ℤ) → pos 2932896 <ℤ int_div_euclid a (pos 86400000) → pos 253402300799999 <ℤ a
past_days (pos a) h = omega (arith, ints)
past_days (negsuc a) h = absurd (omega (arith, ints))

pub past_outside : (n : ℕ) (earlier ms : ℤ) → IsTimeNumber n earlier → earlier ≤ℤ ms → (IsEpochDay (int_div_euclid ms (pos 86400000)) → ⊥) → IsPast9999 ms
past_outside n earlier ms t before outside =
    let named = date_of_day (n / 1000000000) t.days t.day in
    let range = epoch_day_range named.0 in
    let first : neg_ℤ (pos 4371587) ≤ℤ t.days = subst (λ z. neg_ℤ (pos 4371587) ≤ℤ z) named.1 range.0 in
    let days = day_in_range n earlier t in
    let order = le_days earlier ms before in
    by_lt_z (pos 2932896) (int_div_euclid ms (pos 86400000)) (past_days ms) (λ early. absurd (outside (omega (arith, ints, first, days, order), early)))

pub not_before : (date : Date) (n : ℕ) (earlier ms : ℤ) → IsTimeNumber n earlier → earlier ≤ℤ ms → epoch_day date ≡ int_div_euclid ms (pos 86400000) → date.year <ℤ pos 0 → ⊥
not_before date n earlier ms t before is early =
    let named = date_of_day (n / 1000000000) t.days t.day in
    let days = day_in_range n earlier t in
    let order = le_days earlier ms before in
    let year : date.year <ℤ named.0.year = omega (arith, ints, early, named.2) in
    let less = epoch_day-lt date named.0 (inl year) in omega (arith, ints, less, is, order, days, named.1)

-- ---- the order of times is that of their digits

time_lt : (a b x y : ℕ) → IsTimeOfDay a x → IsTimeOfDay b y → x < y → a < b
time_lt a b x y first second h = omega (arith, first.hour, first.minute, first.second, first.value, second.hour, second.minute, second.second, second.value)

pub number-lt : (n m : ℕ) (a b : ℤ) → IsTimeNumber n a → IsTimeNumber m b → a <ℤ b → n < m
number-lt n m a b first second h =
    let small = in_day_small _ _ first.time in
    let small' = in_day_small _ _ second.time in
    let value = first.value in
    let value' = second.value in
    by_lt_z first.days second.days
    (λ early. let days = later_day (n / 1000000000) (m / 1000000000) first.days second.days first.day second.day early in omega (arith, days))
    (λ late. by_lt_z second.days first.days (λ later. absurd (omega (arith, ints)))
    (λ same.
    let equal : first.days ≡ second.days = omega (arith, ints) in
    let date = same_day (n / 1000000000) (m / 1000000000) first.days second.days first.day second.day equal in
    let time = time_lt (n % 1000000000) (m % 1000000000) first.in_day second.in_day first.time second.time (omega (arith, ints)) in omega (arith, date, time)))

-- digits of one length
value-from : (acc : ℕ) (ds : List ℕ) → digits_value_after 10 acc ds ≡ acc * 10 ^ length ds + digits_value_after 10 0 ds
value-from acc [] = omega arith
value-from acc (c ∷ cs) =
    let first = value-from (acc * 10 + digit_value c) cs in
    let second = value-from (0 * 10 + digit_value c) cs in
    let power : 10 ^ suc (length cs) ≡ 10 ^ length cs * 10 = pow-suc 10 (length cs) in
    first ∙ (let e : (acc * 10 + digit_value c) * 10 ^ length cs + digits_value_after 10 0 cs ≡ acc * (10 ^ length cs * 10) + ((0 * 10 + digit_value c) * 10 ^ length cs + digits_value_after 10 0 cs) = omega arith in e)
    ∙ (let f : acc * (10 ^ length cs * 10) + ((0 * 10 + digit_value c) * 10 ^ length cs + digits_value_after 10 0 cs) ≡ acc * 10 ^ suc (length cs) + digits_value_after 10 (0 * 10 + digit_value c) cs = rw (power, second) in f)

digits_step : (x y : ℕ) (xs ys : List ℕ) (d e p v w : ℕ) → d + 48 ≡ x → e + 48 ≡ y → (d * p + v) < (e * p + w) → w < p → (v < w → slice_cmp nat_cmp xs ys ≡ Less) → slice_cmp nat_cmp (x ∷ xs) (y ∷ ys) ≡ Less
digits_step x y xs ys d e p v w is is' less small rest =
    elim (cases_order x y) [
      | inl same ↦
          let same_digit : d ≡ e = omega arith in
          let tail = rest (let e : v < w = omega (arith, ap (λ k. k * p) same_digit) in e) in
          let tie : nat_cmp x y ≡ Equal = grind (arith, nat_tests) in rw (tie, tail)
      | inr (inl lt) ↦ let first : nat_cmp x y ≡ Less = grind (arith, nat_tests) in rw first
      | inr (inr gt) ↦ let more : (e + 1) * p ≤ d * p = mul-le-mul_right p (omega arith) in absurd (omega (arith, more, less, small))
    ]

pub digits-lt : (xs ys : List ℕ) → length xs ≡ length ys → AllDigits 10 xs → AllDigits 10 ys → digits_value 10 xs < digits_value 10 ys → slice_cmp nat_cmp xs ys ≡ Less
digits-lt [] [] len h h' less = absurd (omega (arith, less))
digits-lt [] (y ∷ ys) len h h' less = refl
digits-lt (x ∷ xs) [] len h h' less = absurd (omega (arith, len))
digits-lt (x ∷ xs) (y ∷ ys) len h h' less =
    let first = digit_at (x ∷ xs) 0 h (omega arith) in
    let second = digit_at (y ∷ ys) 0 h' (omega arith) in
    let value = digit_value_digit x first in
    let value' = digit_value_digit y second in
    let tails : length xs ≡ length ys = omega (arith, len) in
    let power : 10 ^ length xs ≡ 10 ^ length ys = ap (λ n. 10 ^ n) tails in
    let front = value-from (0 * 10 + digit_value x) xs in
    let front' = value-from (0 * 10 + digit_value y) ys in
    let zero_x : 0 * 10 + digit_value x ≡ digit_value x = omega arith in
    let zero_y : 0 * 10 + digit_value y ≡ digit_value y = omega arith in
    let above : digits_value_after 10 (0 * 10 + digit_value x) xs ≡ digit_value x * 10 ^ length ys + digits_value 10 xs = front ∙ rw (zero_x, power) in
    let above' : digits_value_after 10 (0 * 10 + digit_value y) ys ≡ digit_value y * 10 ^ length ys + digits_value 10 ys = front' ∙ rw zero_y in
    let small : digits_value 10 ys < 10 ^ length ys = digits_value-lt 10 ys h'.1 in
    let small' : digits_value 10 xs < 10 ^ length xs = digits_value-lt 10 xs h.1 in
    digits_step x y xs ys (digit_value x) (digit_value y) (10 ^ length ys) (digits_value 10 xs) (digits_value 10 ys) value value'
    (omega (arith, above, above', less)) small (digits-lt xs ys tails h.1 h'.1)

pub later_text : (first second : List ℕ) (a b : ℤ) → IsTime first a → IsTime second b → a <ℤ b → slice_cmp nat_cmp first second ≡ Less
later_text first second a b is is' h =
    digits-lt first second (is.digits.len ∙ sym is'.digits.len) is.digits.numeral.1 is'.digits.numeral.1 (number-lt _ _ a b is.number is'.number h)

pub time_bounds : (n : ℕ) (ms : ℤ) → IsTimeNumber n ms → (neg_ℤ (pos 400000000000000) <ℤ ms) × (ms ≤ℤ pos 253402300799999)
time_bounds n ms t =
    let named = date_of_day (n / 1000000000) t.days t.day in
    let range = epoch_day_range named.0 in
    let first : neg_ℤ (pos 4371587) ≤ℤ t.days = subst (λ z. neg_ℤ (pos 4371587) ≤ℤ z) named.1 range.0 in
    let second : t.days ≤ℤ pos 2932896 = subst (λ z. z ≤ℤ pos 2932896) named.1 range.1 in
    let small = in_day_small _ _ t.time in
    let value = t.value in (omega (arith, ints), omega (arith, ints))

pub time_same : (text : List ℕ) (a b : ℤ) → IsTime text a → IsTime text b → a ≡ b
time_same text a b first second =
    let days : first.number.days ≡ second.number.days = first.number.day.value ∙ sym second.number.day.value in
    let in_day : first.number.in_day ≡ second.number.in_day = first.number.time.value ∙ sym second.number.time.value in
    first.number.value ∙ rw (days, in_day) (sym second.number.value)

-- the start of 1970
epoch_start : IsTimeNumber 19700101000000000 (pos 0)
unfolding days_from_civil
epoch_start = record {
  days = pos 0;
  in_day = 0;
  day = record { civil = search rules; value = omega (arith, ints) };
  time = record { hour = omega arith; minute = omega arith; second = omega arith; value = refl };
  value = refl;
}

pub epoch : IsTime (codes "19700101000000000") (pos 0)
epoch = record { digits = record { len = refl; numeral = search rules }; number = epoch_start }

-- a number has its digits
pub some_time : (n : ℕ) (ms : ℤ) → n < 10 ^ 17 → IsTimeNumber n ms → IsSomeTimeAt ms
some_time n ms small number =
    let text = replicate (17 - length (decimal n)) 48 ++ decimal n in
    let digits = padded_digits n text small refl in
    (text, record { digits = digits.0; number = subst (λ k. IsTimeNumber k ms) (sym digits.1) number })
