-- Schemas that a table may have.
use Rattle.std.specs.Prelude.{◌≡◌, ◌<◌, ◌≤◌, ℕ, List, [], ◌∷◌, Bool, true, false, not, ◌&&◌, ◌||◌}
use Rattle.std.specs.Str.{bytes_eq}
use Rattle.table_history.specs.TypeTree.{TypeTree, decimal, struct_of, list_of, map_of, ColumnTrees, no_columns, column}

abbrev pub names_of : ColumnTrees → List (List ℕ)
names_of no_columns = []
names_of (column n t b cs) = n ∷ names_of cs

-- whether one of the columns has the name
abbrev pub is_named : List ℕ → ColumnTrees → Bool
is_named name no_columns = false
is_named name (column n t b cs) = bytes_eq n name || is_named name cs

-- whether no two of the columns have one name
abbrev pub have_own_names : ColumnTrees → Bool
have_own_names no_columns = true
have_own_names (column n t b cs) = not (is_named n cs) && have_own_names cs

-- The columns of each struct have names of their own, and each decimal has a precision from 1 to 38 and a scale up to it.
abbrev mutual
  pub IsSoundType : TypeTree → Type 0
  IsSoundType (decimal p s) = (0 < p) × (p < 39) × (s ≤ p)
  IsSoundType (struct_of cs) = (have_own_names cs ≡ true) × AreSound cs
  IsSoundType (list_of t b) = IsSoundType t
  IsSoundType (map_of k v b) = IsSoundType k × IsSoundType v
  IsSoundType _ = Unit {0}

  pub AreSound : ColumnTrees → Type 0
  AreSound no_columns = Unit {0}
  AreSound (column n t b cs) = IsSoundType t × AreSound cs

abbrev pub IsSound : ColumnTrees → Type 0
IsSound cs = IsSoundType (struct_of cs)
