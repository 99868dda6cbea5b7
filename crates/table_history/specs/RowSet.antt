-- The set that holds a table's rows. It takes two rows of one path for one.
use Rattle.std.specs.Prelude.{ℕ, List, [], ◌∷◌, Bool}
use Rattle.std.specs.Str.{bytes_eq}
use Rattle.table_history.specs.declared.row.FileRow.{FileRow}

abbrev pub same_path : FileRow → FileRow → Bool
same_path x y = bytes_eq x.path y.path

-- what a hasher is fed for a path: its bytes, in one write
abbrev pub path_writes : List ℕ → List (List ℕ)
path_writes path = path ∷ []
