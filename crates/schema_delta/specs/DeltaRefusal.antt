-- Why a text isn't read as a schema in Delta's spelling (Delta Lake protocol, "Schema Serialization
-- Format").
use Rattle.std.specs.Prelude.{◌≡◌, ◌⊎◌, ◌<◌, ℕ, List, [], ◌∷◌, Some, None, codes}
use Rattle.std.specs.List.{IsDistinct}
use Rattle.std.specs.Str.{bytes_eq}
use Rattle.serde_json.specs.Data.{Data, string, Items}
use Rattle.serde_json.specs.Find.{get}
use Rattle.json_reading.specs.Json.{json, text_member, bool_member, list_member, items}
use Rattle.lake_basics.specs.declared.limits.TheConstants.{MAX_COLUMNS, MAX_SCHEMA_LEVELS}
use Rattle.table_history.specs.TypeTree.{TypeTree, ColumnTrees, struct_of}
use Rattle.table_history.specs.SchemaSize.{column_count}
use Rattle.table_history.specs.declared.limit.LimitKind.{LimitKind}
use Rattle.table_history.specs.declared.limit.LimitKind.TheVariants.{Columns, Depth}
use Rattle.schema_map.specs.declared.fault.MapError.{MapError}
use Rattle.schema_map.specs.declared.fault.MapError.TheVariants as map_errors
use Rattle.schema_map.specs.Among.{IsNoneOf, IsAmong}
use Rattle.schema_delta.specs.DeltaSpelling.{IsDeltaType}
use Rattle.schema_map.specs.Places.{IsWithin, IsNamed, field_names}

-- The second is the JSON of the type of a field of a struct, of the elements of an array, or of the
-- keys or the values of a map.
abbrev pub IsDeltaPart : Data → Data → Type 0
IsDeltaPart whole part =
    ((ds : Items) × (field : Data) × IsNamed (codes "struct") whole × (list_member (codes "fields") whole ≡ Some ds) × IsAmong field (items ds) × (get (codes "type") field ≡ Some part))
    ⊎ ((IsNamed (codes "array") whole × (get (codes "elementType") whole ≡ Some part))
    ⊎ (IsNamed (codes "map") whole × ((get (codes "keyType") whole ≡ Some part) ⊎ (get (codes "valueType") whole ≡ Some part))))

-- ---- what isn't in the grammar

-- A field lacks its name, its type or whether it may be null.
abbrev pub IsBadDeltaField : Data → Type 0
IsBadDeltaField field = (text_member (codes "name") field ≡ None) ⊎ ((bool_member (codes "nullable") field ≡ None) ⊎ (get (codes "type") field ≡ None))

-- A struct lacks its list of fields, or two of them have one name, or one is bad.
abbrev pub HasBadDeltaFields : Data → Type 0
HasBadDeltaFields d =
    (list_member (codes "fields") d ≡ None)
    ⊎ ((ds : Items) × (list_member (codes "fields") d ≡ Some ds) × ((IsDistinct bytes_eq (field_names ds) → ⊥) ⊎ ((field : Data) × IsAmong field (items ds) × IsBadDeltaField field)))

-- The value is neither a word nor an object with one, or a member that its word asks for isn't there
-- or is of another kind.
abbrev pub IsBadDeltaType : Data → Type 0
IsBadDeltaType d =
    (((word : List ℕ) → d ≡ string word → ⊥) × (text_member (codes "type") d ≡ None))
    ⊎ ((IsNamed (codes "struct") d × HasBadDeltaFields d)
    ⊎ ((IsNamed (codes "array") d × ((bool_member (codes "containsNull") d ≡ None) ⊎ (get (codes "elementType") d ≡ None)))
    ⊎ (IsNamed (codes "map") d × ((bool_member (codes "valueContainsNull") d ≡ None) ⊎ ((get (codes "keyType") d ≡ None) ⊎ (get (codes "valueType") d ≡ None))))))

-- ---- what has no row in the table of types

-- The value is a word that spells no type, or an object whose word is of no type with parts.
abbrev pub IsOtherDeltaType : Data → Type 0
IsOtherDeltaType d =
    ((word : List ℕ) × (d ≡ string word) × ((t : TypeTree) → IsDeltaType t d → ⊥))
    ⊎ ((word : List ℕ) × IsNamed word d × IsNoneOf (codes "struct" ∷ codes "array" ∷ codes "map" ∷ []) (Some word))

-- ---- refusals

-- The schema passes this limit: that of columns, or that of levels, of which it is itself the first.
abbrev pub DeltaPasses : Data → LimitKind → Type 0
DeltaPasses d Columns = (cs : ColumnTrees) × IsDeltaType (struct_of cs) d × (MAX_COLUMNS < column_count cs)
DeltaPasses d Depth = (place : Data) × IsWithin IsDeltaPart MAX_SCHEMA_LEVELS d place
DeltaPasses d _ = ⊥

-- The column of this name has a place of another type in it.
abbrev pub DeltaColumnHasOther : Data → List ℕ → Type 0
DeltaColumnHasOther d name =
    (ds : Items) × (field : Data) × (kind : Data) × (n : ℕ) × (place : Data)
    × (list_member (codes "fields") d ≡ Some ds) × IsAmong field (items ds) × (text_member (codes "name") field ≡ Some name) × (get (codes "type") field ≡ Some kind)
    × IsWithin IsDeltaPart n kind place × IsOtherDeltaType place

-- It is no struct, or a place in it isn't in the grammar.
abbrev pub IsBadDeltaSchema : Data → Type 0
IsBadDeltaSchema d = (IsNamed (codes "struct") d → ⊥) ⊎ ((n : ℕ) × (place : Data) × IsWithin IsDeltaPart n d place × IsBadDeltaType place)

abbrev pub IsRefusedDelta : Data → MapError → Type 0
IsRefusedDelta d map_errors.Memory = Unit {0}
IsRefusedDelta d map_errors.BadSchema = IsBadDeltaSchema d
IsRefusedDelta d (map_errors.SchemaType name) = DeltaColumnHasOther d name
IsRefusedDelta d (map_errors.AvroName name) = ⊥
IsRefusedDelta d (map_errors.Limit which) = DeltaPasses d which

-- Why a text is refused: it is no JSON, or the JSON that it is shows why.
abbrev pub IsDeltaRefused : List ℕ → MapError → Type 0
IsDeltaRefused text map_errors.Memory = Unit {0}
IsDeltaRefused text map_errors.BadSchema = (json text ≡ None) ⊎ ((d : Data) × (json text ≡ Some d) × IsBadDeltaSchema d)
IsDeltaRefused text (map_errors.SchemaType name) = (d : Data) × (json text ≡ Some d) × DeltaColumnHasOther d name
IsDeltaRefused text (map_errors.AvroName name) = ⊥
IsDeltaRefused text (map_errors.Limit which) = (d : Data) × (json text ≡ Some d) × DeltaPasses d which
