-- The tests of a name against what a commit may have written.
use Rattle.std.proofs.Common.{◌≡◌, ◌≢◌, ◌⊎◌, ◌+◌, ◌-◌, ◌<◌, ℕ, suc, Bool, true, false, ◌≤◌, List, ◌∷◌, ◌++◌, codes, length, take, drop, get_or, Contains, Some, None, refl, sym, ap, subst, ◌∙◌, inl, inr, ⊎_elim, append_assoc, add-one, drop-cons}
use Rattle.std.specs.Prelude.{◌↔◌, IsTrue}
use Rattle.std.specs.Char.{is_ascii_digit}
use Rattle.std.specs.List.{list_all, position}
use Rattle.std.specs.Str.{all_ascii_digits}
use Rattle.std.specs.Str.Parse.{digits_value}
use Rattle.std.proofs.lemmas.Bool.{false≢true}
use Rattle.std.proofs.lemmas.List.{take-append-drop, take_all, take_more}
use Rattle.std.proofs.lemmas.List.Elements.{Contains-push_cases}
use Rattle.std.proofs.lemmas.Str.Parse.{IsNumeralModel, numerals_by_value, tells_all_ascii_digits}
use Rattle.target_core.proofs.Hyphens.{hyphen_there, is_hyphen, numbers_parts, numbers_split}
use Rattle.target_iceberg.specs.Leftovers.{IsDecimal, IsLeftoverName, list, manifest, staged}
use Rattle.target_iceberg.specs.InspectSteps.{AreNumbers, IsFirstOf, IsManifestName, IsNumbered}
use Rattle.lake_basics.proofs.Texts.{between_unique, same_digits}

-- ---- decimals

own : IsNumeralModel (λ ds. all_ascii_digits ds ≡ true) (digits_value 10)
own = numerals_by_value _ tells_all_ascii_digits

pub decimal_tested : (ds : List ℕ) (are : Bool) → 0 < length ds → (get_or ds 0 0 ≡ 48 → length ds ≡ 1) → are ≡ list_all is_ascii_digit ds → IsTrue are ↔ IsDecimal ds
decimal_tested ds are some plain is = (
  λ whole. record { numeral = (some, own.to ds (sym (same_digits ds) ∙ sym is ∙ whole)); plain = plain },
  λ decimal. is ∙ same_digits ds ∙ own.from ds decimal.numeral.1,
)

-- ---- between two texts

module _ (name front behind : List ℕ) where
  abbrev IsBetween : List ℕ → Type 0
  IsBetween middle = name ≡ front ++ (middle ++ behind)

  pub numbered_at : (middle : List ℕ) (is : Bool) → IsBetween middle → IsTrue is ↔ IsDecimal middle → IsTrue is ↔ IsNumbered front behind name
  numbered_at middle is at test = (
    λ whole. record { number = middle; decimal = test.0 whole; is = at },
    λ numbered. test.1 (subst IsDecimal (between_unique front behind numbered.number middle (sym numbered.is ∙ at)) numbered.decimal),
  )

pub manifest_at : (name middle : List ℕ) (is : Bool) → name ≡ codes "lb-m-" ++ (middle ++ codes ".avro") → IsTrue is ↔ AreNumbers middle → IsTrue is ↔ IsManifestName name
manifest_at name middle is at test = (
  λ whole. record { numbers = middle; are = test.0 whole; is = at },
  λ named. test.1 (subst AreNumbers (between_unique (codes "lb-m-") (codes ".avro") named.numbers middle (sym named.is ∙ at)) named.are),
)

-- ---- two numbers

module _ (bytes : List ℕ) (place : ℕ) (found : Some place ≡ position is_hyphen bytes) (first : Bool) (is_first : IsTrue first ↔ IsDecimal (take place bytes)) where
  pub numbers_by : first ≡ true → (second : Bool) → IsTrue second ↔ IsDecimal (drop (place + 1) bytes) → IsTrue second ↔ AreNumbers bytes
  numbers_by whole second is_second = (
    λ also. record { version = take place bytes; number = drop (place + 1) bytes; first = is_first.0 whole; second = is_second.0 also; is = numbers_split bytes place found },
    λ are. is_second.1 (subst IsDecimal (numbers_parts bytes are.version are.number are.first.numeral are.is place found).1 are.second),
  )

  pub no_numbers : first ≡ false → IsTrue first ↔ AreNumbers bytes
  no_numbers none = (
    λ whole. absurd (false≢true (sym none ∙ whole)),
    λ are. is_first.1 (subst IsDecimal (numbers_parts bytes are.version are.number are.first.numeral are.is place found).0 are.first),
  )

pub hyphen_lacks : (bytes : List ℕ) → None ≡ position is_hyphen bytes → AreNumbers bytes → ⊥
hyphen_lacks bytes none are = hyphen_there bytes are.version are.number are.first.numeral are.is none

-- ---- leftovers

module _ (name : List ℕ) where
  pub staged_name : IsNumbered (codes "lb-v-") (codes ".json") name → IsLeftoverName name
  staged_name n = staged n.number n.decimal n.is

  pub list_name : IsNumbered (codes "lb-s-") (codes ".avro") name → IsLeftoverName name
  list_name n = list n.number n.decimal n.is

  manifest_name : IsManifestName name → IsLeftoverName name
  manifest_name m =
      manifest m.are.version m.are.number m.are.first m.are.second
      (m.is ∙ ap (λ (l : List ℕ). codes "lb-m-" ++ l) (ap (λ (l : List ℕ). l ++ codes ".avro") m.are.is ∙ append_assoc m.are.version (codes "-" ++ m.are.number) (codes ".avro")))

  leftover_kinds : IsLeftoverName name → IsNumbered (codes "lb-v-") (codes ".json") name ⊎ (IsNumbered (codes "lb-s-") (codes ".avro") name ⊎ IsManifestName name)
  leftover_kinds (staged version plain is) = inl (record { number = version; decimal = plain; is = is })
  leftover_kinds (list version plain is) = inr (inl (record { number = version; decimal = plain; is = is }))
  leftover_kinds (manifest version number first second is) =
      inr (inr (record {
        numbers = version ++ (codes "-" ++ number);
        are = record { version = version; number = number; first = first; second = second; is = refl };
        is = is ∙ ap (λ (l : List ℕ). codes "lb-m-" ++ l) (sym (append_assoc version (codes "-" ++ number) (codes ".avro")));
      }))

  -- none of the first two, and the third as it is tested
  pub manifest_left : (s l m : Bool) → IsTrue s ↔ IsNumbered (codes "lb-v-") (codes ".json") name → IsTrue l ↔ IsNumbered (codes "lb-s-") (codes ".avro") name → IsTrue m ↔ IsManifestName name
      → s ≡ false → l ≡ false → IsTrue m ↔ IsLeftoverName name
  manifest_left s l m is_staged is_list is_manifest no_staged no_list = (
    λ whole. manifest_name (is_manifest.0 whole),
    λ leftover. by (leftover_kinds leftover),
  )
    where
      by : IsNumbered (codes "lb-v-") (codes ".json") name ⊎ (IsNumbered (codes "lb-s-") (codes ".avro") name ⊎ IsManifestName name) → IsTrue m
      by (inl n) = absurd (false≢true (sym no_staged ∙ is_staged.1 n))
      by (inr (inl n)) = absurd (false≢true (sym no_list ∙ is_list.1 n))
      by (inr (inr x)) = is_manifest.1 x

-- ---- the first stray name

module _ (names : List (List ℕ)) (i : ℕ) (earlier : (other : List ℕ) → Contains (take i names) other → IsLeftoverName other) where
  module _ (name : List ℕ) (within : i < length names) (is : name ≡ get_or names i name) where
    pub first_of : ¬ IsLeftoverName name → IsFirstOf names name
    first_of stray = record {
      front = take i names;
      behind = drop (i + 1) names;
      split = sym (take-append-drop i names) ∙ ap (λ (l : List (List ℕ)). take i names ++ l) (rw (add-one, drop-cons names i name within) (ap (λ (n : List ℕ). n ∷ drop (suc i) names) (sym is)));
      earlier = earlier;
      stray = stray;
    }

    pub one_more : IsLeftoverName name → (other : List ℕ) → Contains (take (i + 1) names) other → IsLeftoverName other
    one_more leftover other there =
        ⊎_elim
        (λ before. earlier other before)
        (λ (same : get_or names i name ≡ other). subst IsLeftoverName (is ∙ same) leftover)
        (Contains-push_cases (take i names) (get_or names i name) other (subst (λ (l : List (List ℕ)). Contains l other) (take_more names i name within) there))

  pub all_of : length names ≤ i → (name : List ℕ) → Contains names name → IsLeftoverName name
  all_of past name there = earlier name (subst (λ (l : List (List ℕ)). Contains l name) (sym (take_all i names past)) there)
