-- The newest types at the column paths of held schemas, as they are looked up.
use Rattle.std.specs.Prelude.{◌≡◌, ℕ, ℤ, int_lt, Bool, true, false, not, List, [], ◌∷◌, ◌++◌, Contains, Option, None, Some, Vec, if◌then◌else◌}
use Rattle.std.specs.Cmp.Lexicographic.{pointwise}
use Rattle.std.specs.Str.{bytes_eq}
use Rattle.std.specs.declared.alloc.Global.{Global}
use Rattle.indexmap.specs.IndexMap.{IndexMap, get_by}
use Rattle.schema_map.specs.Paths.{Path}
use Rattle.table_history.specs.TypeTree.{TypeTree}
use Rattle.target_iceberg.specs.Fitting.{IdSchema, type_at}
use Rattle.target_iceberg.specs.Shapes.{shape_of, widens}
use Rattle.target_iceberg.specs.declared.shape.Shape.{Shape}

-- a shape with the id of the schema that has it
abbrev pub HeldShape : Type 0
HeldShape = ℤ × Shape

-- whether a schema of this id is newer than the one that this is of
abbrev pub is_older : Option HeldShape → ℤ → Bool
is_older None id = true
is_older (Some held) id = int_lt held.0 id

-- the newer of two
abbrev pub later : Option HeldShape → HeldShape → Option HeldShape
later held shape = if is_older held shape.0 then Some shape else held

abbrev pub with_type : Option HeldShape → ℤ → Option TypeTree → Option HeldShape
with_type held id None = held
with_type held id (Some t) = later held (id, shape_of t)

-- the newest shape at the path, where a schema is held too
abbrev pub with_schema : Option HeldShape → IdSchema → Path → Option HeldShape
with_schema held schema path = with_type held schema.0 (type_at schema.1 path)

-- the newest shape at the path, where these are held too
abbrev pub with_schemas : Option HeldShape → List IdSchema → Path → Option HeldShape
with_schemas held [] path = held
with_schemas held (schema ∷ schemas) path = with_schemas (with_schema held schema path) schemas path

-- the shape that is kept at the path
abbrev pub shape_at : {S : Type 0} → IndexMap (Vec (List ℕ) Global) HeldShape S → Path → Option HeldShape
shape_at shapes path = get_by (λ key. pointwise bytes_eq path key.items) shapes

-- whether the path has the first shape, may not get the other, and does
abbrev pub is_changed : Option HeldShape → Option HeldShape → Bool
is_changed (Some before) (Some after) = not (widens before.1 after.1)
is_changed _ _ = false

-- the top-level column of the first of the paths that has the property
pub record IsTopOfFirst (holds : Path → Bool) (paths : List Path) (name : List ℕ) : Type 0 where
  pub front : List Path
  pub path : Path
  pub behind : List Path
  pub split : paths ≡ front ++ path ∷ behind
  pub here : holds path ≡ true
  pub none : (other : Path) → Contains front other → holds other ≡ false
  pub below : Path
  pub is : path ≡ name ∷ below

-- This is the column of the first of the paths that has the property, if one has it.
abbrev pub IsTop : (Path → Bool) → List Path → Option (List ℕ) → Type 0
IsTop holds paths None = (path : Path) → Contains paths path → holds path ≡ false
IsTop holds paths (Some name) = IsTopOfFirst holds paths name
