-- The paths of a table's rows, by the names of the file groups that file ids name.
use Rattle.std.specs.Prelude.{◌≡◌, ℕ, Bool, ◌&&◌, List, [], ◌∷◌, ◌++◌, Option, None, Some}
use Rattle.std.specs.List.{list_any}
use Rattle.std.specs.Str.{bytes_eq}
use Rattle.std.specs.HashMap.{HashMap, get_by}
use Rattle.std.specs.declared.hash.FoldHasher.{FoldHasher}
use Rattle.std.specs.declared.hash.BuildHasherDefault.{BuildHasherDefault}
use Rattle.table_history.specs.Row.{Row}
use Rattle.hudi_groups.specs.declared.form.Form.TheVariants.{Base}
use Rattle.hudi_groups.specs.declared.index.Paths.{Paths}
use Rattle.hudi_groups.specs.declared.index.Paths.TheVariants.{One, Many}
use Rattle.hudi_groups.specs.Files.{group_name}
use Rattle.hudi_groups.specs.GroupSets.{row_in_group}

abbrev pub Index : Type 0
Index = HashMap (List ℕ) Paths (BuildHasherDefault FoldHasher)

-- ---- what the index has

abbrev pub keys_of : Paths → List (List ℕ)
keys_of (One path) = path ∷ []
keys_of (Many paths) = paths.value.keys

abbrev pub keys_in : Option Paths → List (List ℕ)
keys_in None = []
keys_in (Some paths) = keys_of paths

-- p is one of these paths
abbrev pub is_among : List ℕ → Option Paths → Bool
is_among p paths = list_any (bytes_eq p) (keys_in paths)

-- the paths of the group q
abbrev pub paths_at : Index → List ℕ → List (List ℕ)
paths_at index q = keys_in (get_by (bytes_eq q) index)

-- The index has the path p in the group q.
abbrev pub has_path : Index → List ℕ → List ℕ → Bool
has_path index q p = is_among p (get_by (bytes_eq q) index)

-- p is this path, and q its group
abbrev pub is_path_of : List ℕ → List ℕ → List ℕ → Bool
is_path_of q p path = bytes_eq q (group_name Base path) && bytes_eq p path

-- p is the path of this row, and q its group
abbrev pub is_row_of : List ℕ → List ℕ → Row → Bool
is_row_of q p row = is_path_of q p row.path

-- The index has the path of each row in the row's group, and nothing else.
abbrev pub IsIndexOf : Index → List Row → Type 0
IsIndexOf index rows = (q p : List ℕ) → has_path index q p ≡ list_any (is_row_of q p) rows

-- ---- what is found by it

-- the rows of the group q at these paths
abbrev pub rows_among : List Row → List ℕ → List (List ℕ) → List Row
rows_among rows q [] = []
rows_among rows q (path ∷ paths) = row_in_group Base rows q path ++ rows_among rows q paths

-- the rows of these groups at the paths that the index has of them
abbrev pub rows_by_index : List Row → Index → List (List ℕ) → List Row
rows_by_index rows index [] = []
rows_by_index rows index (group ∷ groups) = rows_among rows group (paths_at index group) ++ rows_by_index rows index groups
