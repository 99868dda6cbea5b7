-- The names in an Iceberg table's folder `metadata` that a commit may have written and not published.
use Rattle.std.specs.Prelude.{◌≡◌, ℕ, List, ◌++◌, codes, length, slice_index}
use Rattle.std.specs.Str.Parse.{IsNumeral}
use Rattle.iceberg_table.specs.Folder.{path_of}

-- digits without a leading zero
pub record IsDecimal (digits : List ℕ) : Type 0 where
  pub numeral : IsNumeral 10 digits
  pub plain : slice_index digits 0 ≡ 48 → length digits ≡ 1

-- a name that a commit of some version may have written and not published: metadata that is staged, a list, or a manifest
pub data IsLeftoverName (name : List ℕ) : Type 0 where
  staged : (version : List ℕ) → IsDecimal version → name ≡ codes "lb-v-" ++ (version ++ codes ".json") → IsLeftoverName name
  list : (version : List ℕ) → IsDecimal version → name ≡ codes "lb-s-" ++ (version ++ codes ".avro") → IsLeftoverName name
  manifest : (version number : List ℕ) → IsDecimal version → IsDecimal number → name ≡ codes "lb-m-" ++ (version ++ (codes "-" ++ (number ++ codes ".avro"))) → IsLeftoverName name

pub record IsLeftover (path : List ℕ) : Type 0 where
  pub name : List ℕ
  pub leftover : IsLeftoverName name
  pub is : path ≡ path_of name
