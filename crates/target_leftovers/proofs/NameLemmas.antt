-- The tests of a name against what a commit may have written.
use Rattle.std.proofs.Common.{◌≡◌, ◌≢◌, ◌⊎◌, ◌+◌, ◌-◌, ◌<◌, ℕ, Bool, true, false, List, ◌++◌, codes, length, take, drop, get_or, Some, None, refl, sym, ap, subst, ◌∙◌, inl, inr, append_assoc, arith}
use Rattle.std.specs.Prelude.{◌↔◌, IsTrue}
use Rattle.std.specs.Char.{is_ascii_digit}
use Rattle.std.specs.List.{list_all, position}
use Rattle.std.specs.Str.{all_ascii_digits}
use Rattle.std.specs.Str.Parse.{IsNumeral, digits_value}
use Rattle.std.proofs.lemmas.Bool.{false≢true}
use Rattle.std.proofs.lemmas.Str.Parse.{IsNumeralModel, numerals_by_value, tells_all_ascii_digits}
use Rattle.target_core.proofs.Hyphens.{hyphen_there, is_hyphen, numbers_parts, numbers_split}
use Rattle.target_leftovers.specs.Names.{AreNumbers, IsDecimal, IsDeltaName, IsIcebergName, IsManifestName, IsNumbered, list, manifest, staged}
use Rattle.lake_basics.proofs.Texts.{between_unique, same_digits}

-- ---- decimals

own : IsNumeralModel (λ ds. all_ascii_digits ds ≡ true) (digits_value 10)
own = numerals_by_value _ tells_all_ascii_digits

pub decimal_tested : (ds : List ℕ) (are : Bool) → 0 < length ds → (get_or ds 0 0 ≡ 48 → length ds ≡ 1) → are ≡ list_all is_ascii_digit ds → IsTrue are ↔ IsDecimal ds
decimal_tested ds are some plain is = (
  λ whole. record { numeral = (some, own.to ds (sym (same_digits ds) ∙ sym is ∙ whole)); plain = plain },
  λ decimal. is ∙ same_digits ds ∙ own.from ds decimal.numeral.1,
)

pub counted_digits : (bytes : List ℕ) (count : ℕ) (are : Bool) → 0 < count → length bytes ≡ count → are ≡ list_all is_ascii_digit bytes → IsTrue are ↔ ((length bytes ≡ count) × IsNumeral 10 bytes)
counted_digits bytes count are some len is = (
  λ whole. (len, (omega (arith, some, len), own.to bytes (sym (same_digits bytes) ∙ sym is ∙ whole))),
  λ both. is ∙ same_digits bytes ∙ own.from bytes both.1.1,
)

-- ---- between two texts

module _ (name front behind : List ℕ) where
  abbrev IsBetween : List ℕ → Type 0
  IsBetween middle = name ≡ front ++ (middle ++ behind)

  pub numbered_at : (middle : List ℕ) (is : Bool) → IsBetween middle → IsTrue is ↔ IsDecimal middle → IsTrue is ↔ IsNumbered front behind name
  numbered_at middle is at test = (
    λ whole. record { number = middle; decimal = test.0 whole; is = at },
    λ numbered. test.1 (subst IsDecimal (between_unique front behind numbered.number middle (sym numbered.is ∙ at)) numbered.decimal),
  )

pub manifest_at : (name middle : List ℕ) (is : Bool) → name ≡ codes "lb-m-" ++ (middle ++ codes ".avro") → IsTrue is ↔ AreNumbers middle → IsTrue is ↔ IsManifestName name
manifest_at name middle is at test = (
  λ whole. record { numbers = middle; are = test.0 whole; is = at },
  λ named. test.1 (subst AreNumbers (between_unique (codes "lb-m-") (codes ".avro") named.numbers middle (sym named.is ∙ at)) named.are),
)

pub delta_at : (name digits : List ℕ) (is : Bool) → name ≡ codes ".lakebridge-" ++ (digits ++ codes ".json") → IsTrue is ↔ ((length digits ≡ 20) × IsNumeral 10 digits) → IsTrue is ↔ IsDeltaName name
delta_at name digits is at test = (
  λ whole.
      let both = test.0 whole in record { digits = digits; len = both.0; numeral = both.1; split = at },
  λ named. test.1 (subst (λ (ds : List ℕ). (length ds ≡ 20) × IsNumeral 10 ds) (between_unique (codes ".lakebridge-") (codes ".json") named.digits digits (sym named.split ∙ at)) (named.len, named.numeral)),
)

pub delta_lacks : (name : List ℕ) → ((middle : List ℕ) → name ≢ codes ".lakebridge-" ++ (middle ++ codes ".json")) → IsTrue false ↔ IsDeltaName name
delta_lacks name none = (λ no. absurd (false≢true no), λ named. absurd (none named.digits named.split))

-- ---- two numbers

module _ (bytes : List ℕ) (place : ℕ) (found : Some place ≡ position is_hyphen bytes) (first : Bool) (is_first : IsTrue first ↔ IsDecimal (take place bytes)) where
  pub numbers_by : first ≡ true → (second : Bool) → IsTrue second ↔ IsDecimal (drop (place + 1) bytes) → IsTrue second ↔ AreNumbers bytes
  numbers_by whole second is_second = (
    λ also. record { version = take place bytes; number = drop (place + 1) bytes; first = is_first.0 whole; second = is_second.0 also; is = numbers_split bytes place found },
    λ are. is_second.1 (subst IsDecimal (numbers_parts bytes are.version are.number are.first.numeral are.is place found).1 are.second),
  )

  pub no_numbers : first ≡ false → IsTrue first ↔ AreNumbers bytes
  no_numbers none = (
    λ whole. absurd (false≢true (sym none ∙ whole)),
    λ are. is_first.1 (subst IsDecimal (numbers_parts bytes are.version are.number are.first.numeral are.is place found).0 are.first),
  )

pub hyphen_lacks : (bytes : List ℕ) → None ≡ position is_hyphen bytes → AreNumbers bytes → ⊥
hyphen_lacks bytes none are = hyphen_there bytes are.version are.number are.first.numeral are.is none

-- ---- leftovers

module _ (name : List ℕ) where
  pub staged_name : IsNumbered (codes "lb-v-") (codes ".json") name → IsIcebergName name
  staged_name n = staged n.number n.decimal n.is

  pub list_name : IsNumbered (codes "lb-s-") (codes ".avro") name → IsIcebergName name
  list_name n = list n.number n.decimal n.is

  manifest_name : IsManifestName name → IsIcebergName name
  manifest_name m =
      manifest m.are.version m.are.number m.are.first m.are.second
      (m.is ∙ ap (λ (l : List ℕ). codes "lb-m-" ++ l) (ap (λ (l : List ℕ). l ++ codes ".avro") m.are.is ∙ append_assoc m.are.version (codes "-" ++ m.are.number) (codes ".avro")))

  leftover_kinds : IsIcebergName name → IsNumbered (codes "lb-v-") (codes ".json") name ⊎ (IsNumbered (codes "lb-s-") (codes ".avro") name ⊎ IsManifestName name)
  leftover_kinds (staged version plain is) = inl (record { number = version; decimal = plain; is = is })
  leftover_kinds (list version plain is) = inr (inl (record { number = version; decimal = plain; is = is }))
  leftover_kinds (manifest version number first second is) =
      inr (inr (record {
        numbers = version ++ (codes "-" ++ number);
        are = record { version = version; number = number; first = first; second = second; is = refl };
        is = is ∙ ap (λ (l : List ℕ). codes "lb-m-" ++ l) (sym (append_assoc version (codes "-" ++ number) (codes ".avro")));
      }))

  -- none of the first two, and the third as it is tested
  pub manifest_left : (s l m : Bool) → IsTrue s ↔ IsNumbered (codes "lb-v-") (codes ".json") name → IsTrue l ↔ IsNumbered (codes "lb-s-") (codes ".avro") name → IsTrue m ↔ IsManifestName name
      → s ≡ false → l ≡ false → IsTrue m ↔ IsIcebergName name
  manifest_left s l m is_staged is_list is_manifest no_staged no_list = (
    λ whole. manifest_name (is_manifest.0 whole),
    λ leftover. by (leftover_kinds leftover),
  )
    where
      by : IsNumbered (codes "lb-v-") (codes ".json") name ⊎ (IsNumbered (codes "lb-s-") (codes ".avro") name ⊎ IsManifestName name) → IsTrue m
      by (inl n) = absurd (false≢true (sym no_staged ∙ is_staged.1 n))
      by (inr (inl n)) = absurd (false≢true (sym no_list ∙ is_list.1 n))
      by (inr (inr x)) = is_manifest.1 x
