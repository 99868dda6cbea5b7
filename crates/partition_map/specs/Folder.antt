-- Partition values in the folder of a file: in the style of Hive, or as Hudi may write them.
use Rattle.std.specs.Prelude.{◌≡◌, ℕ, ◌-◌, nat_le, Bool, true, ◌&&◌, ◌==◌, if◌then◌else◌, List, [], ◌∷◌, ◌++◌, length, map, take, drop, Option, None, Some, MatchBool, Contains, IsUtf8, Vec}
use Rattle.std.specs.Borrow.{Bor}
use Rattle.std.specs.List.{slice_split, before_first, after_first, list_any}
use Rattle.std.specs.Str.{bytes_eq, is_utf8}
use Rattle.percent_encoding.specs.Percent.{percent_decode}
use Rattle.table_history.specs.Path.{is_slash}
use Rattle.table_history.specs.declared.row.PartValue.{PartValue}
use Rattle.partition_map.specs.declared.folder.FolderStyle.{FolderStyle}
use Rattle.partition_map.specs.Stands.{StandsInFolder}

-- `=`
abbrev pub equals_sign : ℕ
equals_sign = 61

abbrev pub is_equals : ℕ → Bool
is_equals b = b == equals_sign

-- The parts of the path's folder, in order: all that stand before a `/`.
abbrev pub folder_components : List ℕ → List (List ℕ)
folder_components path = take (length (slice_split is_slash path) - 1) (slice_split is_slash path)

-- The parts that a list of texts points to.
abbrev pub texts_of : {A : Type 0} → Vec (Bor (List ℕ)) A → List (List ℕ)
texts_of parts = map (λ (part : Bor (List ℕ)). part.now) parts.items

-- The last n parts of the path's folder, or none where there are fewer.
abbrev pub last_components : ℕ → List ℕ → Option (List (List ℕ))
last_components n path =
    if nat_le n (length (folder_components path))
    then Some (drop (length (folder_components path) - n) (folder_components path))
    else None

-- Percent-decoding, where the folders of the table are escaped.
abbrev pub unescaped_bytes : FolderStyle → List ℕ → List ℕ
unescaped_bytes style part = if style.url_encode then percent_decode part else part

-- The same as a text, which is UTF-8.
abbrev pub unescaped_text : FolderStyle → List ℕ → Option (List ℕ)
unescaped_text style part =
    if is_utf8 (unescaped_bytes style part) then Some (unescaped_bytes style part) else None

-- A component is NAME=PART, cut at its first `=`, and the name unescapes to the column's.
pub record IsNamedPart (style : FolderStyle) (column component part : List ℕ) : Type 0 where
  pub name : List ℕ
  pub split : component ≡ name ++ equals_sign ∷ part
  pub first : ¬ Contains name equals_sign
  pub unescapes : unescaped_bytes style name ≡ column

-- The part of a component that spells the column's value: without hive style that is all of it.
abbrev pub IsValuePart : FolderStyle → List ℕ → List ℕ → List ℕ → Type 0
IsValuePart style column component part =
    MatchBool style.hive_style (IsNamedPart style column component part) (part ≡ component)

-- This part spells the column's value, or no part does.
abbrev pub IsValuePartOrNone : FolderStyle → List ℕ → List ℕ → Option (Bor (List ℕ)) → Type 0
IsValuePartOrNone style column component None =
    (part : List ℕ) → ¬ IsValuePart style column component part
IsValuePartOrNone style column component (Some part) =
    IsValuePart style column component part.now

-- The same as a function.
abbrev pub named_part : FolderStyle → List ℕ → List ℕ → Option (List ℕ)
named_part style column component =
    if list_any is_equals component
    && bytes_eq (unescaped_bytes style (before_first is_equals component)) column
    then Some (after_first is_equals component)
    else None

abbrev pub value_part : FolderStyle → List ℕ → List ℕ → Option (List ℕ)
value_part style column component =
    if style.hive_style then named_part style column component else Some component

-- Hive style, with escapes.
abbrev pub hive_folders : FolderStyle
hive_folders = record { hive_style = true; url_encode = true }

-- A part behind the first `=` unescapes to a text that stands for the value.
pub record PartCarries (part : List ℕ) (value : PartValue) : Type 0 where
  pub utf8 : IsUtf8 (unescaped_bytes hive_folders part)
  pub stands : StandsInFolder (unescaped_bytes hive_folders part) value

-- A component spells the column's value, in hive style with escapes.
pub record CarriesValue (column component : List ℕ) (value : PartValue) : Type 0 where
  pub part : List ℕ
  pub named : IsNamedPart hive_folders column component part
  pub carries : PartCarries part value

-- Each component, in order, spells the value of its column.
abbrev pub EachCarries : List (List ℕ) → List (List ℕ) → List PartValue → Type 0
EachCarries [] components values = Unit {0}
EachCarries (column ∷ columns) (component ∷ components) (value ∷ values) =
    CarriesValue column component value × EachCarries columns components values
EachCarries (column ∷ columns) [] values = ⊥
EachCarries (column ∷ columns) (component ∷ components) [] = ⊥

-- The last components of the path's folder, as many as there are columns, spell the values.
pub record CarriesValues (path : List ℕ) (columns : List (List ℕ)) (values : List PartValue)
    : Type 0 where
  pub front : List (List ℕ)
  pub components : List (List ℕ)
  pub last : folder_components path ≡ front ++ components
  pub count : length components ≡ length columns
  pub spelled : EachCarries columns components values
