-- Why JSON isn't read as a schema in Iceberg's spelling (Iceberg specification, "JSON serialization",
-- Schemas).
use Rattle.std.specs.Prelude.{◌≡◌, ◌⊎◌, ◌<◌, ℕ, ℤ, List, [], ◌∷◌, Some, None, codes}
use Rattle.std.specs.List.{IsDistinct}
use Rattle.std.specs.Str.{bytes_eq}
use Rattle.serde_json.specs.Data.{Data, string, Items}
use Rattle.serde_json.specs.Find.{get}
use Rattle.json_reading.specs.Json.{text_member, bool_member, int_member, list_member, items}
use Rattle.lake_basics.specs.declared.limits.TheConstants.{MAX_COLUMNS, MAX_SCHEMA_LEVELS}
use Rattle.table_history.specs.TypeTree.{TypeTree, ColumnTrees}
use Rattle.table_history.specs.SchemaSize.{column_count}
use Rattle.table_history.specs.declared.limit.LimitKind.{LimitKind}
use Rattle.table_history.specs.declared.limit.LimitKind.TheVariants.{Columns, Depth}
use Rattle.schema_map.specs.declared.fault.MapError.{MapError}
use Rattle.schema_map.specs.declared.fault.MapError.TheVariants as map_errors
use Rattle.schema_map.specs.Among.{IsNoneOf, IsAmong}
use Rattle.schema_iceberg.specs.IcebergSpelling.{IsIcebergType, IsIcebergSchema}
use Rattle.schema_map.specs.Places.{IsWithin, IsNamed, field_names}

-- The second is the JSON of the type of a field of a struct, of the elements of a list, or of the keys
-- or the values of a map.
abbrev pub IsIcebergPart : Data → Data → Type 0
IsIcebergPart whole part =
    ((ds : Items) × (field : Data) × IsNamed (codes "struct") whole × (list_member (codes "fields") whole ≡ Some ds) × IsAmong field (items ds) × (get (codes "type") field ≡ Some part))
    ⊎ ((IsNamed (codes "list") whole × (get (codes "element") whole ≡ Some part))
    ⊎ (IsNamed (codes "map") whole × ((get (codes "key") whole ≡ Some part) ⊎ (get (codes "value") whole ≡ Some part))))

-- ---- what isn't in the grammar

-- A field lacks its id, its name, its type or whether it is required.
abbrev pub IsBadIcebergField : Data → Type 0
IsBadIcebergField field =
    (int_member (codes "id") field ≡ None)
    ⊎ ((text_member (codes "name") field ≡ None) ⊎ ((bool_member (codes "required") field ≡ None) ⊎ (get (codes "type") field ≡ None)))

-- A struct lacks its list of fields, or two of them have one name, or one is bad.
abbrev pub HasBadIcebergFields : Data → Type 0
HasBadIcebergFields d =
    (list_member (codes "fields") d ≡ None)
    ⊎ ((ds : Items) × (list_member (codes "fields") d ≡ Some ds) × ((IsDistinct bytes_eq (field_names ds) → ⊥) ⊎ ((field : Data) × IsAmong field (items ds) × IsBadIcebergField field)))

-- A list lacks the id of its elements, their type or whether they are required.
abbrev pub IsBadIcebergList : Data → Type 0
IsBadIcebergList d =
    (int_member (codes "element-id") d ≡ None)
    ⊎ ((bool_member (codes "element-required") d ≡ None) ⊎ (get (codes "element") d ≡ None))

-- A map lacks the id of its keys or of its values, a type of theirs, or whether values are required.
abbrev pub IsBadIcebergMap : Data → Type 0
IsBadIcebergMap d =
    (int_member (codes "key-id") d ≡ None)
    ⊎ ((int_member (codes "value-id") d ≡ None)
    ⊎ ((bool_member (codes "value-required") d ≡ None) ⊎ ((get (codes "key") d ≡ None) ⊎ (get (codes "value") d ≡ None))))

-- The value is neither a word nor an object with one, or a member that its word asks for isn't there
-- or is of another kind. An id is a whole number of 32 bits.
abbrev pub IsBadIcebergType : Data → Type 0
IsBadIcebergType d =
    (((word : List ℕ) → d ≡ string word → ⊥) × (text_member (codes "type") d ≡ None))
    ⊎ ((IsNamed (codes "struct") d × HasBadIcebergFields d)
    ⊎ ((IsNamed (codes "list") d × IsBadIcebergList d)
    ⊎ (IsNamed (codes "map") d × IsBadIcebergMap d)))

-- ---- what has no row in the table of types

-- The value is a word that spells no type, or an object whose word is of no type with parts.
abbrev pub IsOtherIcebergType : Data → Type 0
IsOtherIcebergType d =
    ((word : List ℕ) × (d ≡ string word) × ((t : TypeTree) (ids : List ℤ) → IsIcebergType t ids d → ⊥))
    ⊎ ((word : List ℕ) × IsNamed word d × IsNoneOf (codes "struct" ∷ codes "list" ∷ codes "map" ∷ []) (Some word))

-- ---- refusals

-- The schema passes this limit: that of columns, or that of levels, of which it is itself the first.
abbrev pub IcebergPasses : Data → LimitKind → Type 0
IcebergPasses d Columns = (cs : ColumnTrees) × (ids : List ℤ) × IsIcebergSchema cs ids d × (MAX_COLUMNS < column_count cs)
IcebergPasses d Depth = (place : Data) × IsWithin IsIcebergPart MAX_SCHEMA_LEVELS d place
IcebergPasses d _ = ⊥

-- The column of this name has a place of another type in it.
abbrev pub IcebergColumnHasOther : Data → List ℕ → Type 0
IcebergColumnHasOther d name =
    (ds : Items) × (field : Data) × (kind : Data) × (n : ℕ) × (place : Data)
    × (list_member (codes "fields") d ≡ Some ds) × IsAmong field (items ds) × (text_member (codes "name") field ≡ Some name) × (get (codes "type") field ≡ Some kind)
    × IsWithin IsIcebergPart n kind place × IsOtherIcebergType place

-- It is no struct, or a place in it isn't in the grammar.
abbrev pub IsBadIcebergSchema : Data → Type 0
IsBadIcebergSchema d = (IsNamed (codes "struct") d → ⊥) ⊎ ((n : ℕ) × (place : Data) × IsWithin IsIcebergPart n d place × IsBadIcebergType place)

-- Why the JSON is refused.
abbrev pub IsIcebergRefused : Data → MapError → Type 0
IsIcebergRefused d map_errors.Memory = Unit {0}
IsIcebergRefused d map_errors.BadSchema = IsBadIcebergSchema d
IsIcebergRefused d (map_errors.SchemaType name) = IcebergColumnHasOther d name
IsIcebergRefused d (map_errors.AvroName name) = ⊥
IsIcebergRefused d (map_errors.Limit which) = IcebergPasses d which
