-- The path in the table of a manifest list or a manifest (Iceberg specification, "Snapshots", `manifest-list`, and "Manifest Lists", `manifest_path`).
use Rattle.std.specs.Prelude.{◌≡◌, ℕ, List, ◌++◌, codes, Option, None, Some, is_some, Result, Ok, Err, if◌then◌else◌}
use Rattle.table_history.specs.Path.{IsPath, is_path}
use Rattle.iceberg_metadata.specs.Location.{front_of, NamesPath, behind}
use Rattle.iceberg_manifest.specs.declared.error.ManifestError.{ManifestError}
use Rattle.iceberg_manifest.specs.declared.error.ManifestError.TheVariants as errors

-- The path lies in the table's folder `metadata`.
abbrev pub LiesInMetadata : List ℕ → Type 0
LiesInMetadata path = (name : List ℕ) × (path ≡ codes "metadata/" ++ name)

-- The file's name is the location, `/` and this path, which lies in the folder `metadata`.
pub record IsMetadataPath (location file path : List ℕ) : Type 0 where
  pub place : file ≡ front_of location ++ path
  pub form : IsPath path
  pub within : LiesInMetadata path

-- The file's name has this fault. Malformed goes first.
abbrev pub HasPathFault : List ℕ → List ℕ → ManifestError → Type 0
HasPathFault location file errors.Malformed = (rest : List ℕ) × (file ≡ front_of location ++ rest) × (IsPath rest → ⊥)
HasPathFault location file errors.OutsideTable = NamesPath location file × ((path : List ℕ) → file ≡ front_of location ++ path → LiesInMetadata path → ⊥)
HasPathFault location file _ = ⊥

-- ---- the same as a function

abbrev pub in_metadata : List ℕ → Result (List ℕ) ManifestError
in_metadata path = if is_path path then (if is_some (behind (codes "metadata/") path) then Ok path else Err errors.OutsideTable) else Err errors.Malformed

abbrev pub in_table : Option (List ℕ) → Result (List ℕ) ManifestError
in_table None = Err errors.OutsideTable
in_table (Some path) = in_metadata path

abbrev pub metadata_path_of : List ℕ → List ℕ → Result (List ℕ) ManifestError
metadata_path_of location file = in_table (behind (front_of location) file)
