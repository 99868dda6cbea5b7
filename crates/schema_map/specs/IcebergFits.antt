-- Field ids, and schemas that Iceberg's JSON can spell with them.
use Rattle.std.specs.Prelude.{◌≡◌, ℤ, List, length, [], ◌∷◌, Some}
use Rattle.table_history.specs.TypeTree.{ColumnTrees}
use Rattle.table_history.specs.Sound.{IsSound}
use Rattle.table_history.specs.SchemaSize.{IsWithinLimits}
use Rattle.schema_map.specs.Paths.{column_paths}
use Rattle.serde_json.specs.Data.{number}
use Rattle.serde_json.specs.Find.{of_integer}
use Rattle.json_reading.specs.Json.{int}

-- It is a whole number of 32 bits, as JSON's numbers are read.
abbrev pub IsId : ℤ → Type 0
IsId id = int (number (of_integer id)) ≡ Some id

abbrev pub AreIds : List ℤ → Type 0
AreIds [] = Unit {0}
AreIds (id ∷ ids) = IsId id × AreIds ids

-- The schema is sound and within the limits, and has one id of 32 bits for each column path.
pub record FitsIceberg (cs : ColumnTrees) (ids : List ℤ) : Type 0 where
  pub sound : IsSound cs
  pub within : IsWithinLimits cs
  pub are : AreIds ids
  pub size : length ids ≡ length (column_paths cs)
