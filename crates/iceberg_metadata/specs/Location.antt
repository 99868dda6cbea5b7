-- Where a table lies, and the paths that are written in its files (Iceberg specification, "Table Metadata Fields", `location`).
use Rattle.std.specs.Prelude.{◌≡◌, ℕ, ◌-◌, List, [], ◌∷◌, ◌++◌, Bool, true, Option, Some, None, length, take, drop, codes, if◌then◌else◌}
use Rattle.std.specs.Str.{bytes_eq}
use Rattle.table_history.specs.Path.{IsPath, is_path}

-- a location without the slash at its end, if it has one there
abbrev pub without_slash : List ℕ → List ℕ
without_slash bs = if bytes_eq (drop (length bs - 1) bs) (codes "/") then take (length bs - 1) bs else bs

-- what each path in the table begins with
abbrev pub front_of : List ℕ → List ℕ
front_of location = without_slash location ++ 47 ∷ []

-- Where the file lies in the table's location, what is left of its name is a path.
abbrev pub NamesPath : List ℕ → List ℕ → Type 0
NamesPath location file = (rest : List ℕ) → file ≡ front_of location ++ rest → IsPath rest

-- ---- the same as a test

-- what is left of a path behind a front that it begins with
abbrev pub behind : List ℕ → List ℕ → Option (List ℕ)
behind front path = if bytes_eq (take (length front) path) front then Some (drop (length front) path) else None

abbrev pub is_path_behind : Option (List ℕ) → Bool
is_path_behind None = true
is_path_behind (Some rest) = is_path rest

abbrev pub names_path : List ℕ → List ℕ → Bool
names_path front file = is_path_behind (behind front file)
