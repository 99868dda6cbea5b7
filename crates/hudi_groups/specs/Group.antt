-- The file group of a path: its folder, and the file id in its name (Hudi technical specification, file layout).
use Rattle.std.specs.Prelude.{ℕ, List, [], ◌∷◌, ◌++◌, ◌==◌}
use Rattle.std.specs.List.{before_last, after_last, before_first}

-- what stands before the last `/`, or nothing
abbrev pub folder_of : List ℕ → List ℕ
folder_of path = before_last (λ b. b == 47) path

-- what stands behind the last `/`, or all
abbrev pub file_name_of : List ℕ → List ℕ
file_name_of path = after_last (λ b. b == 47) path

-- what stands in the name before its first `_`, or the whole name
abbrev pub file_id_of : List ℕ → List ℕ
file_id_of path = before_first (λ b. b == 95) (file_name_of path)

-- a folder and a name as one path: the name alone in the table's own folder
abbrev pub joined : List ℕ → List ℕ → List ℕ
joined [] name = name
joined (b ∷ bs) name = (b ∷ bs) ++ 47 ∷ name
