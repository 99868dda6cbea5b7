-- The names of a log's commits (Delta protocol, "Delta Log Entries").
use Rattle.std.specs.Prelude.{◌≡◌, ◌≤◌, ℕ, List, ◌++◌, length, codes}
use Rattle.std.specs.Str.Parse.{IsNumeral, digits_value}
use Rattle.lake_basics.specs.declared.limits.TheConstants.{MAX_DELTA_VERSION}

-- 20 decimal digits write the version.
pub record IsVersionDigits (digits : List ℕ) (version : ℕ) : Type 0 where
  pub len : length digits ≡ 20
  pub numeral : IsNumeral 10 digits
  pub value : version ≡ digits_value 10 digits

-- the version's digits, and `.json`
pub record IsPaddedName (name : List ℕ) (version : ℕ) : Type 0 where
  pub digits : List ℕ
  pub padded : IsVersionDigits digits version
  pub split : name ≡ digits ++ codes ".json"

-- the name of a commit of this version
pub record IsVersionName (name : List ℕ) (version : ℕ) : Type 0 where
  pub padded : IsPaddedName name version
  pub within : version ≤ MAX_DELTA_VERSION
