-- The column paths of a schema, and the field ids that some of them are known by.
use Rattle.std.specs.Prelude.{ℕ, List, [], ◌∷◌, ◌++◌, map, codes, ℤ, Option, Some, None, if◌then◌else◌}
use Rattle.table_history.specs.TypeTree as tree
use Rattle.table_history.specs.TypeTree.{TypeTree, ColumnTrees, no_columns, column}
use Rattle.std.specs.Str.{bytes_eq}
use Rattle.std.specs.Cmp.Lexicographic.{pointwise}

-- names from the top, with `element`, `key` and `value` for the parts of lists and maps
abbrev pub Path : Type 0
Path = List (List ℕ)

abbrev pub below : List ℕ → List Path → List Path
below name paths = (name ∷ []) ∷ map (λ p. name ∷ p) paths

-- Depth first: the path of each part stands before those inside the part.
abbrev mutual
  pub inner_paths : TypeTree → List Path
  inner_paths (tree.struct_of cs) = column_paths cs
  inner_paths (tree.list_of t b) = below (codes "element") (inner_paths t)
  inner_paths (tree.map_of k v b) = below (codes "key") (inner_paths k) ++ below (codes "value") (inner_paths v)
  inner_paths _ = []

  pub column_paths : ColumnTrees → List Path
  column_paths no_columns = []
  column_paths (column n t b cs) = below n (inner_paths t) ++ column_paths cs

-- the id of a path: that of the first pair that has it
abbrev pub known_id : List (Path × ℤ) → Path → Option ℤ
known_id [] path = None
known_id (k ∷ known) path = if pointwise bytes_eq k.0 path then Some k.1 else known_id known path
