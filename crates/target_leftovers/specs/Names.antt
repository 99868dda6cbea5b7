-- The names that a commit writes under before it publishes, in a Delta log's folder and in an Iceberg table's folder `metadata`.
use Rattle.std.specs.Prelude.{◌≡◌, ℕ, List, ◌++◌, codes, length, slice_index}
use Rattle.std.specs.Str.Parse.{IsNumeral}

-- 20 digits between `.lakebridge-` and `.json`: a Delta version that is staged
pub record IsDeltaName (name : List ℕ) : Type 0 where
  pub digits : List ℕ
  pub len : length digits ≡ 20
  pub numeral : IsNumeral 10 digits
  pub split : name ≡ codes ".lakebridge-" ++ (digits ++ codes ".json")

-- digits without a leading zero
pub record IsDecimal (digits : List ℕ) : Type 0 where
  pub numeral : IsNumeral 10 digits
  pub plain : slice_index digits 0 ≡ 48 → length digits ≡ 1

-- metadata of an Iceberg version that is staged, a manifest list, or a manifest
pub data IsIcebergName (name : List ℕ) : Type 0 where
  staged : (version : List ℕ) → IsDecimal version → name ≡ codes "lb-v-" ++ (version ++ codes ".json") → IsIcebergName name
  list : (version : List ℕ) → IsDecimal version → name ≡ codes "lb-s-" ++ (version ++ codes ".avro") → IsIcebergName name
  manifest : (version number : List ℕ) → IsDecimal version → IsDecimal number → name ≡ codes "lb-m-" ++ (version ++ (codes "-" ++ (number ++ codes ".avro"))) → IsIcebergName name

-- ---- as they are tested

-- a decimal between these
pub record IsNumbered (front behind name : List ℕ) : Type 0 where
  pub number : List ℕ
  pub decimal : IsDecimal number
  pub is : name ≡ front ++ (number ++ behind)

-- two decimals with a hyphen between them
pub record AreNumbers (bytes : List ℕ) : Type 0 where
  pub version : List ℕ
  pub number : List ℕ
  pub first : IsDecimal version
  pub second : IsDecimal number
  pub is : bytes ≡ version ++ (codes "-" ++ number)

-- two such decimals between `lb-m-` and `.avro`
pub record IsManifestName (name : List ℕ) : Type 0 where
  pub numbers : List ℕ
  pub are : AreNumbers numbers
  pub is : name ≡ codes "lb-m-" ++ (numbers ++ codes ".avro")
