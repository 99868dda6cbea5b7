-- The parts of the form of a version, as they are tested.
use Rattle.std.specs.Prelude.{◌≡◌, ◌≢◌, ◌≤ℤ◌, ℕ, ◌+◌, ℤ, pos, List, [], ◌∷◌, ◌++◌, Some}
use Rattle.std.specs.List.{AllByRecursion}
use Rattle.iceberg_metadata.specs.Paths.{PathId}
use Rattle.iceberg_metadata.specs.Schemas.{HeldSchema}
use Rattle.iceberg_metadata.specs.declared.metadata.Metadata.{Metadata}
use Rattle.iceberg_metadata.specs.declared.metadata.Snapshot.{Snapshot}
use Rattle.iceberg_metadata.specs.declared.metadata.SpecField.{SpecField}
use Rattle.iceberg_version.specs.Schemas.{IsSpecField}

-- Neither the snapshot nor its parent is past the version.
pub record IsUpTo (version : ℕ) (s : Snapshot) : Type 0 where
  pub id : s.id ≤ℤ pos version
  pub parent : (parent : ℤ) → s.parent ≡ Some parent → parent ≤ℤ pos version

-- no field id of the schema is past the last one
abbrev pub IsGiven : ℤ → HeldSchema → Type 0
IsGiven last s = AllByRecursion (λ id. id ≤ℤ last) s.2

-- these are fields of a spec, with ids from k on, each of the column of its name
abbrev pub AreFields : List PathId → ℕ → List SpecField → Type 0
AreFields pairs k [] = Unit {0}
AreFields pairs k (f ∷ fields) = IsSpecField pairs k f.name f × AreFields pairs (k + 1) fields

-- what is tested of a version beside its schemas' ids and its spec
pub record IsPlain (version : ℕ) (m : Metadata) : Type 0 where
  pub location : (front : List ℕ) → m.location ≢ front ++ 47 ∷ []
  pub given : AllByRecursion (IsGiven m.last_column_id) m.schemas
  pub snapshots : AllByRecursion (IsUpTo version) m.snapshots
