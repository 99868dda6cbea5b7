-- The file groups of rows and of replaced file ids.
use Rattle.std.specs.Prelude.{◌≡◌, ℕ, Bool, ◌&&◌, ◌||◌, not, List, [], ◌∷◌, ◌++◌, filter, reverse, Contains, Option, Some, None, if◌then◌else◌}
use Rattle.std.specs.List.{list_any}
use Rattle.std.specs.Str.{bytes_eq}
use Rattle.std.specs.HashSet.{HashSet}
use Rattle.std.specs.declared.hash.FoldHasher.{FoldHasher}
use Rattle.std.specs.declared.hash.BuildHasherDefault.{BuildHasherDefault}
use Rattle.table_history.specs.Path.{is_slash}
use Rattle.table_history.specs.Row.{Row}
use Rattle.table_history.specs.Rows.{row_at}
use Rattle.hudi_groups.specs.declared.form.Form.{Form}
use Rattle.hudi_groups.specs.Group.{joined}
use Rattle.hudi_groups.specs.Files.{group_name}

abbrev pub Groups : Type 0
Groups = HashSet (List ℕ) (BuildHasherDefault FoldHasher)

-- the set has the group of this name
abbrev pub has_group : Groups → List ℕ → Bool
has_group groups q = list_any (bytes_eq q) groups.keys

abbrev pub is_row_of_group : Form → List ℕ → Row → Bool
is_row_of_group form q row = bytes_eq q (group_name form row.path)

-- The partition and file id name this group. No file id has a `/` in it, so that a text with one names none.
abbrev pub names_group : List ℕ → List ℕ × List ℕ → Bool
names_group q p = not (list_any is_slash p.1) && bytes_eq q (joined p.0 p.1)

-- the rows of which no later one is of the same group
abbrev pub newest_rows : Form → List Row → List Row
newest_rows form [] = []
newest_rows form (row ∷ rows) = if list_any (is_row_of_group form (group_name form row.path)) rows then newest_rows form rows else row ∷ newest_rows form rows

-- ---- the rows of groups that are named by whole paths

abbrev pub one_or_none : Option Row → List Row
one_or_none None = []
one_or_none (Some row) = row ∷ []

-- the row at the path, where its group is q
abbrev pub row_in_group : Form → List Row → List ℕ → List ℕ → List Row
row_in_group form rows q path = if bytes_eq (group_name form path) q then one_or_none (row_at rows path) else []

-- the rows of the group q at q and at q behind a `/`
abbrev pub rows_at_group : Form → List Row → List ℕ → List Row
rows_at_group form rows q = row_in_group form rows q q ++ row_in_group form rows q (47 ∷ q)

abbrev pub rows_at_paths : Form → List Row → List (List ℕ) → List Row
rows_at_paths form rows [] = []
rows_at_paths form rows (key ∷ keys) = rows_at_group form rows key ++ rows_at_paths form rows keys

-- ---- the same as a relation

-- a row of these, of which no later one is of its group
pub record IsNewestOfGroup (form : Form) (rows : List Row) (row : Row) : Type 0 where
  pub before : List Row
  pub after : List Row
  pub split : rows ≡ before ++ row ∷ after
  pub last : (later : Row) → Contains after later → ¬ (group_name form row.path ≡ group_name form later.path)

-- ---- what an instant makes of the groups that it writes or replaces

-- a group that is written or replaced
abbrev pub is_touched : Form → List (List ℕ × List ℕ) → List Row → List ℕ → Bool
is_touched form replaced rows q = list_any (is_row_of_group form q) rows || list_any (names_group q) replaced

-- the rows of other groups, and the newest row of each group that is written
abbrev pub rows_after : Form → List (List ℕ × List ℕ) → List Row → List Row → List Row
rows_after form replaced before rows = filter (λ r. not (is_touched form replaced rows (group_name form r.path))) before ++ reverse (newest_rows form rows)
