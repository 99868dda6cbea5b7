-- The form that a version of an Iceberg target has (Iceberg specification, "Table Metadata Fields").
use Rattle.std.specs.Prelude.{◌≡◌, ◌≢◌, ◌≤ℤ◌, ℕ, ℤ, pos, true, List, [], ◌∷◌, ◌++◌, map, flat_map, Contains, Some}
use Rattle.iceberg_metadata.specs.Paths.{current_schema, default_fields}
use Rattle.iceberg_metadata.specs.Schemas.{HeldSchema}
use Rattle.iceberg_metadata.specs.declared.metadata.Metadata.{Metadata}
use Rattle.iceberg_metadata.specs.declared.metadata.Snapshot.{Snapshot}
use Rattle.iceberg_version.specs.Schemas.{AreSpecFields, FIRST_PARTITION_ID}
use Rattle.iceberg_version.specs.Sound.{have_first_ids}

-- the names of the default spec's fields
abbrev pub field_names : Metadata → List (List ℕ)
field_names m = map (λ f. f.name) (default_fields m)

-- the field ids of all held schemas
abbrev pub held_ids : Metadata → List ℤ
held_ids m = flat_map (λ s. s.2) m.schemas

-- The default spec is the one that a commit writes for its columns, which are those of the current schema.
pub record HasOwnSpec (m : Metadata) : Type 0 where
  pub schema : HeldSchema
  pub current : current_schema m ≡ Some schema
  pub id : m.default_spec ≡ pos 0
  pub fields : AreSpecFields schema FIRST_PARTITION_ID (field_names m) (default_fields m)

-- A version of this number has the form in which commits go on from it: no slash ends its location, its default spec is one that is written, its
-- schemas' ids are those from 0 on, no field id is past the last one that was given, and no snapshot, nor the parent of one, is past the version.
pub record HasOwnForm (version : ℕ) (m : Metadata) : Type 0 where
  pub location : (front : List ℕ) → m.location ≢ front ++ 47 ∷ []
  pub spec : HasOwnSpec m
  pub schema_ids : have_first_ids m.schemas ≡ true
  pub field_ids : (id : ℤ) → Contains (held_ids m) id → id ≤ℤ m.last_column_id
  pub snapshots : (s : Snapshot) → Contains m.snapshots s → s.id ≤ℤ pos version
  pub parents : (s : Snapshot) (parent : ℤ) → Contains m.snapshots s → s.parent ≡ Some parent → parent ≤ℤ pos version
