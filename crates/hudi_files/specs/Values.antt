-- The partition values of a file, which its folder spells.
use Rattle.std.specs.Prelude.{◌≡◌, ℕ, List, [], ◌∷◌, length, Bool, Option, Some, None, is_some, option_and_then, option_map}
use Rattle.std.specs.List.{list_all}
use Rattle.table_history.specs.Row.{Row}
use Rattle.table_history.specs.declared.row.PartValue.{PartValue}
use Rattle.partition_map.specs.declared.folder.FolderStyle.{FolderStyle}
use Rattle.partition_map.specs.declared.kind.PartKind.{PartKind}
use Rattle.partition_map.specs.Folder.{last_components, value_part, unescaped_text}
use Rattle.partition_map.specs.Stands.{HiveStands}
use Rattle.table_history.specs.declared.feature.Feature.TheVariants.{PartitionValue}
use Rattle.hudi_names.specs.declared.error.HudiError.{HudiError}
use Rattle.hudi_names.specs.declared.error.HudiError.TheVariants.{Memory, Malformed, Unsupported, Limit}
use Rattle.hudi_properties.specs.declared.table.HudiTable.{HudiTable}

abbrev pub style_of : HudiTable → FolderStyle
style_of table = record { hive_style = table.hive_style; url_encode = table.url_encode }

-- the part of each component that spells its column's value
abbrev pub component_parts : FolderStyle → List (List ℕ) → List (List ℕ) → Option (List (List ℕ))
component_parts style [] components = Some []
component_parts style (name ∷ names) [] = None
component_parts style (name ∷ names) (component ∷ components) =
    option_and_then (λ part. option_map (λ parts. part ∷ parts) (component_parts style names components)) (value_part style name component)

-- the same of a path, whose folder's last components are those of the columns; none where it has too few, or one of another name
abbrev pub value_parts : FolderStyle → List (List ℕ) → List ℕ → Option (List (List ℕ))
value_parts style names path = option_and_then (component_parts style names) (last_components (length names) path)

-- the file is in a folder of the partition columns
abbrev pub is_in_folder : FolderStyle → List (List ℕ) → Row → Bool
is_in_folder style names row = is_some (value_parts style names row.path)

abbrev pub are_in_folders : FolderStyle → List (List ℕ) → List Row → Bool
are_in_folders style names rows = list_all (is_in_folder style names) rows

-- The part unescapes to a text that stands for the value.
abbrev pub PartStands : FolderStyle → PartKind → List ℕ → PartValue → Type 0
PartStands style kind part v = (text : List ℕ) × (unescaped_text style part ≡ Some text) × HiveStands kind text v

-- Each part stands for the value in its place.
abbrev pub PartsStand : FolderStyle → List PartKind → List (List ℕ) → List PartValue → Type 0
PartsStand style [] parts vs = vs ≡ []
PartsStand style (kind ∷ kinds) [] vs = ⊥
PartsStand style (kind ∷ kinds) (part ∷ parts) vs =
    (first : PartValue) × (rest : List PartValue) × PartStands style kind part first × PartsStand style kinds parts rest × (vs ≡ first ∷ rest)

-- the row of a file, with these values
abbrev pub with_values : Row × List PartValue → Row
with_values p = record { path = p.0.path; values = p.1; count = p.0.count; size = p.0.size }

-- the row of a file, with the values that its folder spells
pub record HasValues (style : FolderStyle) (names : List (List ℕ)) (kinds : List PartKind) (bare row : Row) : Type 0 where
  pub parts : List (List ℕ)
  pub spelled : value_parts style names bare.path ≡ Some parts
  pub values : PartsStand style kinds parts row.values
  pub path : row.path ≡ bare.path
  pub count : row.count ≡ bare.count
  pub size : row.size ≡ bare.size

-- the same of files in their order
abbrev pub HaveValues : FolderStyle → List (List ℕ) → List PartKind → List Row → List Row → Type 0
HaveValues style names kinds [] rows = rows ≡ []
HaveValues style names kinds (bare ∷ files) rows =
    (row : Row) × (rest : List Row) × HasValues style names kinds bare row × HaveValues style names kinds files rest × (rows ≡ row ∷ rest)

-- a path whose folder spells no values of these kinds
pub record SpellsNoValues (style : FolderStyle) (names : List (List ℕ)) (kinds : List PartKind) (path : List ℕ) : Type 0 where
  pub parts : List (List ℕ)
  pub spelled : value_parts style names path ≡ Some parts
  pub none : (vs : List PartValue) → ¬ PartsStand style kinds parts vs

-- The refusal says that there are no such values, unless memory ran out.
abbrev pub ShowsNoValue : Type 0 → HudiError → Type 0
ShowsNoValue none Memory = Unit {0}
ShowsNoValue none (Malformed line) = ⊥
ShowsNoValue none (Unsupported feature) = (feature ≡ PartitionValue) × none
ShowsNoValue none (Limit which) = ⊥
