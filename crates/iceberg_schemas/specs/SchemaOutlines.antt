-- What the outline of a held schema tells of its JSON (Iceberg specification, "JSON serialization", Schemas).
use Rattle.std.specs.Prelude.{◌≡◌, ◌⊎◌, ℕ, ℤ, List, [], ◌∷◌, true, false, Some, None, codes}
use Rattle.serde_json.specs.Data.{Data, Items}
use Rattle.serde_json.specs.Find.{get}
use Rattle.json_reading.specs.Json.{text_member, int_member, list_member, items}
use Rattle.schema_map.specs.Among.{IsAmong}
use Rattle.schema_map.specs.Paths.{Path}
use Rattle.schema_map.specs.Places.{IsNamed}
use Rattle.schema_iceberg.specs.IcebergRefusal.{IsBadIcebergSchema, IcebergColumnHasOther}
use Rattle.iceberg_metadata.specs.declared.error.MetadataError.{MetadataError}
use Rattle.iceberg_metadata.specs.declared.error.MetadataError.TheVariants.{Memory, Malformed, SchemaType}
use Rattle.iceberg_metadata.specs.declared.outline.Outline.{Outline}
use Rattle.iceberg_metadata.specs.Schemas.{HeldUnread}

-- ---- columns

-- The second is the JSON of the type of a field of a struct, of the elements of a list, or of the keys
-- or the values of a map. The part has this name and this id.
abbrev pub IsNamedPart : Data → List ℕ → ℤ → Data → Type 0
IsNamedPart whole name id part =
    ((ds : Items) × (field : Data) × IsNamed (codes "struct") whole × (list_member (codes "fields") whole ≡ Some ds) × IsAmong field (items ds)
    × (text_member (codes "name") field ≡ Some name) × (int_member (codes "id") field ≡ Some id) × (get (codes "type") field ≡ Some part))
    ⊎ ((IsNamed (codes "list") whole × (name ≡ codes "element") × (int_member (codes "element-id") whole ≡ Some id) × (get (codes "element") whole ≡ Some part))
    ⊎ ((IsNamed (codes "map") whole × (name ≡ codes "key") × (int_member (codes "key-id") whole ≡ Some id) × (get (codes "key") whole ≡ Some part))
    ⊎ (IsNamed (codes "map") whole × (name ≡ codes "value") × (int_member (codes "value-id") whole ≡ Some id) × (get (codes "value") whole ≡ Some part))))

-- The column at this path has this id: it is the part of that name, or it stands inside the part.
abbrev pub HasColumn : Path → ℤ → Data → Type 0
HasColumn [] id d = ⊥
HasColumn (name ∷ path) id d = (own : ℤ) × (part : Data) × IsNamedPart d name own part × (((path ≡ []) × (own ≡ id)) ⊎ HasColumn path id part)

-- ---- outlines

-- The JSON is in the grammar. The outline has its columns at all levels, and tells whether a column has a place of a type that isn't in the table of types.
pub record IsIcebergOutline (d : Data) (o : Outline) : Type 0 where
  pub grammar : IsBadIcebergSchema d → ⊥
  pub columns : (path : Path) (id : ℤ) → IsAmong (path, id) o.paths → HasColumn path id d
  pub each_column : (path : Path) (id : ℤ) → HasColumn path id d → IsAmong (path, id) o.paths
  pub other : o.has_other ≡ true → (name : List ℕ) × IcebergColumnHasOther d name
  pub none : o.has_other ≡ false → (name : List ℕ) → IcebergColumnHasOther d name → ⊥

-- Memory ran out, or the JSON isn't in the grammar.
abbrev pub IsNoIcebergOutline : Data → MetadataError → Type 0
IsNoIcebergOutline d Memory = Unit {0}
IsNoIcebergOutline d Malformed = IsBadIcebergSchema d
IsNoIcebergOutline d _ = ⊥

-- ---- the schemas of a list

-- The schema that can't be taken over is in the list, with its id. What is known of it is what its outline tells: its columns, and first of all whether a type isn't supported.
pub record IsToldOf (ds : List Data) (told : HeldUnread) : Type 0 where
  pub schema : Data
  pub among : IsAmong schema ds
  pub id : int_member (codes "schema-id") schema ≡ Some told.0
  pub outline : Outline
  pub is : IsIcebergOutline schema outline
  pub paths : told.1.paths ≡ outline.paths
  pub other : outline.has_other ≡ true → told.1.refusal ≡ SchemaType
  pub only : told.1.refusal ≡ SchemaType → outline.has_other ≡ true

-- Memory ran out, or a schema of the list lacks its id or isn't in the grammar.
abbrev pub IsNoSchemaList : List Data → MetadataError → Type 0
IsNoSchemaList ds Memory = Unit {0}
IsNoSchemaList ds Malformed = (d : Data) × IsAmong d ds × ((int_member (codes "schema-id") d ≡ None) ⊎ IsBadIcebergSchema d)
IsNoSchemaList ds _ = ⊥
