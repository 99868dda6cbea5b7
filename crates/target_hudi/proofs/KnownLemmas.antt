-- Whether a text stands for a value can be told.
use Rattle.std.proofs.Common.{◌≡◌, ◌⊎◌, inl, inr, ⊎_elim, ℕ, ◌<◌, ◌≤◌, ℤ, pos, negsuc, true, false, List, [], ◌∷◌, length, slice_index, take, drop, refl, sym, ap, subst, ◌∙◌, arith}
use Rattle.std.specs.Prelude.{◌≢◌, ◌^◌, codes, FitsSigned}
use Rattle.std.specs.Int.{IsInRange, Width, w32, w64}
use Rattle.std.specs.Char.{digit_value}
use lib.Signed.{mag}
use mir.Val.{hbits}
use Rattle.std.specs.Str.{bytes_eq}
use Rattle.std.specs.Str.Parse.{AllDigits, IsNumeral, signed_digits_value, without_leading_sign}
use Rattle.std.proofs.lemmas.Bool.{cases_Bool, cases_lt, false≢true}
use Rattle.std.proofs.lemmas.Int.{ints}
use Rattle.std.proofs.lemmas.Slice.Eq.{bytes_eq-Decides}
use Rattle.jiff_core.specs.Calendar.{IsCivilDate, IsYear, days_from_civil, days_in_month}
use Rattle.table_history.specs.declared.row.PartValue.{PartValue}
use Rattle.table_history.specs.declared.row.PartValue.TheVariants as value
use Rattle.partition_map.proofs.Laws.{hive_of_kind}
use Rattle.partition_map.specs.Kind.{IsOfKind}
use Rattle.partition_map.specs.Stands.{HiveStands, IsDateText, IsDecimal, IsTextOf, dash, day_part, hive_null, month_part, plus_sign, year_part}
use Rattle.partition_map.specs.declared.kind.PartKind.{PartKind}
use Rattle.partition_map.specs.declared.kind.PartKind.TheVariants as kind

-- it is known whether the fact holds
abbrev pub Known : Type 0 → Type 0
Known P = P ⊎ (P → ⊥)

pub known_both : {P Q : Type 0} → Known P → Known Q → Known (P × Q)
known_both (inl p) (inl q) = inl (p, q)
known_both (inl p) (inr never) = inr (λ both. never both.1)
known_both (inr never) q = inr (λ both. never both.0)

pub known_as : {P Q : Type 0} → (P → Q) → (Q → P) → Known P → Known Q
known_as there back (inl p) = inl (there p)
known_as there back (inr never) = inr (λ q. never (back q))

-- what can't fail to hold holds
pub not_false : {P : Type 0} → Known P → ((P → ⊥) → ⊥) → P
not_false (inl p) h = p
not_false (inr never) h = absurd (h never)

-- ---- numbers and texts

number : (a b : ℕ) → Known (a ≡ b)
number a b = ⊎_elim (λ less. inr (λ e. absurd (omega (arith, less, e)))) (λ ge. ⊎_elim (λ less. inr (λ e. absurd (omega (arith, less, e)))) (λ le. inl (omega (arith, ge, le))) (cases_lt b a)) (cases_lt a b)

below : (a b : ℕ) → Known (a < b)
below a b = ⊎_elim (λ less. inl less) (λ ge. inr (λ less. absurd (omega (arith, less, ge)))) (cases_lt a b)

at_most : (a b : ℕ) → Known (a ≤ b)
at_most a b = ⊎_elim (λ less. inr (λ le. absurd (omega (arith, less, le)))) (λ le. inl le) (cases_lt b a)

whole : (x y : ℤ) → Known (x ≡ y)
whole (pos a) (pos b) = known_as (λ (e : a ≡ b). ap pos e) (λ (e : pos a ≡ pos b). let same : a ≡ b = cc in same) (number a b)
whole (pos a) (negsuc b) = inr (λ (e : pos a ≡ negsuc b). absurd (cc))
whole (negsuc a) (pos b) = inr (λ (e : negsuc a ≡ pos b). absurd (cc))
whole (negsuc a) (negsuc b) = known_as (λ (e : a ≡ b). ap negsuc e) (λ (e : negsuc a ≡ negsuc b). let same : a ≡ b = cc in same) (number a b)

pub text : (s t : List ℕ) → Known (s ≡ t)
text s t =
    ⊎_elim
    (λ same. inl ((bytes_eq-Decides s t).0 same))
    (λ apart. inr (λ e. false≢true (sym apart ∙ (bytes_eq-Decides s t).1 e)))
    (cases_Bool (bytes_eq s t))

other : {P : Type 0} → Known P → Known (P → ⊥)
other (inl p) = inr (λ never. never p)
other (inr never) = inl never

-- ---- digits

digits : (ds : List ℕ) → Known (AllDigits 10 ds)
digits [] = inl tt
digits (c ∷ cs) = known_both (below (digit_value c) 10) (digits cs)

numeral : (ds : List ℕ) → Known (IsNumeral 10 ds)
numeral ds = known_both (below 0 (length ds)) (digits ds)

decimal : (s : List ℕ) (z : ℤ) → Known (IsDecimal s z)
decimal s z =
    known_as
    (λ (h : (slice_index s 0 ≢ plus_sign) × (IsNumeral 10 (without_leading_sign s) × (z ≡ signed_digits_value 10 s))). record { no_plus = h.0; numeral = h.1.0; value = h.1.1 })
    (λ (h : IsDecimal s z). (h.no_plus, (h.numeral, h.value)))
    (known_both (other (number (slice_index s 0) plus_sign)) (known_both (numeral (without_leading_sign s)) (whole z (signed_digits_value 10 s))))

fits : (w : Width) (z : ℤ) → Known (FitsSigned w z)
fits w z = known_as (λ (h : mag z < 2 ^ hbits w). record { sfits = h }) (λ (h : FitsSigned w z). h.sfits) (below (mag z) (2 ^ hbits w))

-- ---- dates

year : (y : ℕ) → Known (IsYear (pos y))
year y = known_as (λ (h : y ≤ 9999). (omega (arith, ints), omega (arith, ints, h))) (λ (h : IsYear (pos y)). omega (arith, ints, h.1)) (at_most y 9999)

between : (low high n : ℕ) → Known (IsInRange low high n)
between low high n = known_both (at_most low n) (at_most n high)

civil : (y : ℕ) (m d : ℕ) → Known (IsCivilDate (pos y) m d)
civil y m d =
    known_as
    (λ (h : IsYear (pos y) × (IsInRange 1 12 m × IsInRange 1 (days_in_month (pos y) m) d)). (h.0, h.1.0, h.1.1))
    (λ (h : IsCivilDate (pos y) m d). (h.0, (h.1, h.2)))
    (known_both (year y) (known_both (between 1 12 m) (between 1 (days_in_month (pos y) m) d)))

abbrev HasDashes : List ℕ → Type 0
HasDashes s = (length s ≡ 10) × ((slice_index s 4 ≡ dash) × (slice_index s 7 ≡ dash))

abbrev HasDigits : List ℕ → Type 0
HasDigits s = IsNumeral 10 (take 4 s) × (IsNumeral 10 (take 2 (drop 5 s)) × IsNumeral 10 (drop 8 s))

abbrev IsThatDay : List ℕ → ℤ → Type 0
IsThatDay s z = IsCivilDate (pos (year_part s)) (month_part s) (day_part s) × (z ≡ days_from_civil (pos (year_part s)) (month_part s) (day_part s))

date : (s : List ℕ) (z : ℤ) → Known (IsDateText s z)
date s z =
    known_as
    (λ (h : HasDashes s × (HasDigits s × IsThatDay s z)).
    record { len = h.0.0; first_dash = h.0.1.0; second_dash = h.0.1.1; year = h.1.0.0; month = h.1.0.1.0; day = h.1.0.1.1; civil = h.1.1.0; value = h.1.1.1 })
    (λ (h : IsDateText s z). ((h.len, (h.first_dash, h.second_dash)), ((h.year, (h.month, h.day)), (h.civil, h.value))))
    (known_both
    (known_both (number (length s) 10) (known_both (number (slice_index s 4) dash) (number (slice_index s 7) dash)))
    (known_both
    (known_both (numeral (take 4 s)) (known_both (numeral (take 2 (drop 5 s))) (numeral (drop 8 s))))
    (known_both (civil (year_part s) (month_part s) (day_part s)) (whole z (days_from_civil (pos (year_part s)) (month_part s) (day_part s))))))

-- ---- texts of values

no_null : (k : PartKind) (s : List ℕ) → IsTextOf k s value.Null → ⊥
no_null kind.Boolean s h = ⊎_elim (λ is. let wrong : value.Null ≡ value.Boolean true = is.1 in absurd (cc)) (λ is. let wrong : value.Null ≡ value.Boolean false = is.1 in absurd (cc)) h
no_null kind.Int s h = let wrong : value.Null ≡ value.Int h.0 = h.3 in absurd (cc)
no_null kind.Long s h = let wrong : value.Null ≡ value.Long h.0 = h.3 in absurd (cc)
no_null kind.Text s h = absurd (cc)
no_null kind.Date s h = let wrong : value.Null ≡ value.Date h.0 = h.2 in absurd (cc)

module _ (s : List ℕ) (apart : s ≢ hive_null) (filled : s ≢ []) where
  -- a text of a kind is one of a value of the kind
  of_kind : (k : PartKind) (v : PartValue) → (IsOfKind k v → ⊥) → Known (IsTextOf k s v)
  of_kind k v other = inr (λ spelled. other (hive_of_kind k s v (inr (apart, filled, spelled))))

  spells : (k : PartKind) (v : PartValue) → Known (IsTextOf k s v)
  spells k value.Null = inr (no_null k s)
  spells kind.Boolean (value.Boolean true) =
      known_as
      (λ (same : s ≡ codes "true"). inl (same, refl))
      (λ (h : IsTextOf kind.Boolean s (value.Boolean true)). ⊎_elim (λ is. is.0) (λ is. let wrong : value.Boolean true ≡ value.Boolean false = is.1 in absurd (cc)) h)
      (text s (codes "true"))
  spells kind.Boolean (value.Boolean false) =
      known_as
      (λ (same : s ≡ codes "false"). inr (same, refl))
      (λ (h : IsTextOf kind.Boolean s (value.Boolean false)). ⊎_elim (λ is. let wrong : value.Boolean false ≡ value.Boolean true = is.1 in absurd (cc)) (λ is. is.0) h)
      (text s (codes "false"))
  spells kind.Int (value.Int z) =
      known_as
      (λ (h : IsDecimal s z × FitsSigned w32 z). (z, h.0, h.1, refl))
      (λ (h : IsTextOf kind.Int s (value.Int z)). let same : h.0 ≡ z = let e = h.3 in cc in subst (λ y. IsDecimal s y × FitsSigned w32 y) same (h.1, h.2))
      (known_both (decimal s z) (fits w32 z))
  spells kind.Long (value.Long z) =
      known_as
      (λ (h : IsDecimal s z × FitsSigned w64 z). (z, h.0, h.1, refl))
      (λ (h : IsTextOf kind.Long s (value.Long z)). let same : h.0 ≡ z = let e = h.3 in cc in subst (λ y. IsDecimal s y × FitsSigned w64 y) same (h.1, h.2))
      (known_both (decimal s z) (fits w64 z))
  spells kind.Text (value.Text t) = known_as (λ (same : t ≡ s). ap value.Text same) (λ (h : value.Text t ≡ value.Text s). let same : t ≡ s = cc in same) (text t s)
  spells kind.Date (value.Date z) =
      known_as
      (λ (h : IsDateText s z). (z, h, refl))
      (λ (h : IsTextOf kind.Date s (value.Date z)). let same : h.0 ≡ z = let e = h.2 in cc in subst (λ y. IsDateText s y) same h.1)
      (date s z)
  spells kind.Boolean v = of_kind kind.Boolean v (λ h. h)
  spells kind.Int v = of_kind kind.Int v (λ h. h)
  spells kind.Long v = of_kind kind.Long v (λ h. h)
  spells kind.Text v = of_kind kind.Text v (λ h. h)
  spells kind.Date v = of_kind kind.Date v (λ h. h)

is_null : (v : PartValue) → Known (v ≡ value.Null)
is_null value.Null = inl refl
is_null (value.Boolean b) = inr (λ (e : value.Boolean b ≡ value.Null). absurd (cc))
is_null (value.Int z) = inr (λ (e : value.Int z ≡ value.Null). absurd (cc))
is_null (value.Long z) = inr (λ (e : value.Long z ≡ value.Null). absurd (cc))
is_null (value.Text t) = inr (λ (e : value.Text t ≡ value.Null). absurd (cc))
is_null (value.Date z) = inr (λ (e : value.Date z ≡ value.Null). absurd (cc))

-- it is known whether a text stands for a value in a hive folder
pub stands : (k : PartKind) (s : List ℕ) (v : PartValue) → Known (HiveStands k s v)
stands k s v =
    ⊎_elim
    (λ (null : s ≡ hive_null). known_as (λ (is : v ≡ value.Null). inl (null, is)) (λ (h : HiveStands k s v). ⊎_elim (λ is. is.1) (λ some. absurd (some.0 null)) h) (is_null v))
    (λ (apart : s ≡ hive_null → ⊥).
    ⊎_elim
    (λ (empty : s ≡ []). inr (λ (h : HiveStands k s v). ⊎_elim (λ is. apart is.0) (λ some. some.1 empty) h))
    (λ (filled : s ≡ [] → ⊥). known_as (λ (is : IsTextOf k s v). inr (apart, filled, is)) (λ (h : HiveStands k s v). ⊎_elim (λ null. absurd (apart null.0)) (λ some. some.2) h) (spells s apart filled k v))
    (text s []))
    (text s hive_null)

abbrev kind_of : PartValue → PartKind
kind_of value.Null = kind.Text
kind_of (value.Boolean b) = kind.Boolean
kind_of (value.Int z) = kind.Int
kind_of (value.Long z) = kind.Long
kind_of (value.Text t) = kind.Text
kind_of (value.Date z) = kind.Date

own_kind : (k : PartKind) (v : PartValue) → v ≢ value.Null → IsOfKind k v → k ≡ kind_of v
own_kind k value.Null some of = absurd (some refl)
own_kind kind.Boolean (value.Boolean b) some of = refl
own_kind kind.Int (value.Int z) some of = refl
own_kind kind.Long (value.Long z) some of = refl
own_kind kind.Text (value.Text t) some of = refl
own_kind kind.Date (value.Date z) some of = refl
own_kind _ _ some of = absurd of

-- A text that stands for a value as one of some kind stands for it as one of the value's kind.
pub stands_so : (k l : PartKind) (s : List ℕ) (v : PartValue) → IsOfKind k v → HiveStands l s v → HiveStands k s v
stands_so k l s v of h =
    ⊎_elim
    (λ null. inl null)
    (λ (some : (s ≢ hive_null) × (s ≢ []) × IsTextOf l s v).
    let filled : v ≢ value.Null = λ e. no_null l s (subst (IsTextOf l s) e some.2) in
    let same : l ≡ k = own_kind l v filled (hive_of_kind l s v (inr some)) ∙ sym (own_kind k v filled of) in
    inr (some.0, some.1, subst (λ m. IsTextOf m s v) same some.2))
    h
