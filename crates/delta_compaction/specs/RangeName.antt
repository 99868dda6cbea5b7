-- The names of log compactions (Delta protocol, "Log Compaction Files").
use Rattle.std.specs.Prelude.{◌≡◌, ◌<◌, ◌≤◌, ℕ, List, ◌++◌, codes}
use Rattle.lake_basics.specs.declared.limits.TheConstants.{MAX_DELTA_VERSION}
use Rattle.delta_log.specs.VersionName.{IsVersionDigits}

-- the digits of two numbers with a point between them, and `.compacted.json`
pub record IsPaddedRange (name : List ℕ) (first last : ℕ) : Type 0 where
  pub front : List ℕ
  pub back : List ℕ
  pub from : IsVersionDigits front first
  pub to : IsVersionDigits back last
  pub split : name ≡ front ++ (codes "." ++ (back ++ codes ".compacted.json"))

-- the name of the log compaction of these versions
pub record IsRangeName (name : List ℕ) (first last : ℕ) : Type 0 where
  pub padded : IsPaddedRange name first last
  pub rising : first < last
  pub within : last ≤ MAX_DELTA_VERSION

-- The digits write two versions, the first under the second.
pub record AreDigits (front back : List ℕ) (first last : ℕ) : Type 0 where
  pub from : IsVersionDigits front first
  pub to : IsVersionDigits back last
  pub rising : first < last
  pub within : last ≤ MAX_DELTA_VERSION
