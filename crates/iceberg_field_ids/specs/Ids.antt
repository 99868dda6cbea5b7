-- The field ids of column paths, known and new.
use Rattle.std.specs.Prelude.{◌≡◌, ◌<◌, ◌+ℤ◌, ◌<ℤ◌, ℕ, zero, suc, ℤ, pos, int_lt, List, [], ◌∷◌, is_some, Option, Some, None, Result, Ok, Err, if◌then◌else◌}
use Rattle.table_history.specs.declared.limit.LimitKind.TheVariants.{Versions}
use Rattle.lake_basics.specs.declared.limits.TheConstants.{MAX_ICEBERG_VERSION}
use Rattle.schema_map.specs.declared.fault.MapError.{MapError}
use Rattle.schema_map.specs.declared.fault.MapError.TheVariants as map_errors
use Rattle.lake_basics.specs.Outcome.{◌>>=◌}
use Rattle.schema_map.specs.declared.fault.MapError.TheVariants.{Limit}
use Rattle.schema_map.specs.Paths.{Path, known_id}

abbrev pub next_id : ℤ → Result ℤ MapError
next_id last = if int_lt last (pos MAX_ICEBERG_VERSION) then Ok (last +ℤ pos 1) else Err (Limit Versions)

-- the id of a path and the last id then: a known id, or the next
abbrev pub id_step : ℤ → Option ℤ → Result (ℤ × ℤ) MapError
id_step last (Some id) = Ok (id, last)
id_step last None = do
  id ← next_id last
  Ok (id, id)

-- A known path keeps its id, and each other takes the next.
abbrev pub ids_for : List (Path × ℤ) → ℤ → List Path → Result (List ℤ) MapError
ids_for known last [] = Ok []
ids_for known last (path ∷ paths) = do
  t ← id_step last (known_id known path)
  others ← ids_for known t.1 paths
  Ok (t.0 ∷ others)

-- ---- the ids of new paths

-- how many of the paths aren't known
abbrev pub new_count : List (Path × ℤ) → List Path → ℕ
new_count known [] = 0
new_count known (path ∷ paths) = if is_some (known_id known path) then new_count known paths else suc (new_count known paths)

-- the ids of the paths that aren't known, in order
abbrev pub new_ids : List (Path × ℤ) → List Path → List ℤ → List ℤ
new_ids known [] ids = []
new_ids known (path ∷ paths) [] = []
new_ids known (path ∷ paths) (id ∷ ids) = if is_some (known_id known path) then new_ids known paths ids else id ∷ new_ids known paths ids

-- so many ids behind the last one
abbrev pub ids_after : ℤ → ℕ → List ℤ
ids_after last zero = []
ids_after last (suc n) = (last +ℤ pos 1) ∷ ids_after (last +ℤ pos 1) n

-- A new id would pass the greatest one.
abbrev pub PassesGreatest : List (Path × ℤ) → ℤ → List Path → Type 0
PassesGreatest known last paths = (0 < new_count known paths) × (pos MAX_ICEBERG_VERSION <ℤ (last +ℤ pos (new_count known paths)))

-- Why no ids are given.
abbrev pub HasNoIds : List (Path × ℤ) → ℤ → List Path → MapError → Type 0
HasNoIds known last paths map_errors.Memory = Unit {0}
HasNoIds known last paths map_errors.BadSchema = ⊥
HasNoIds known last paths (map_errors.SchemaType name) = ⊥
HasNoIds known last paths (map_errors.AvroName name) = ⊥
HasNoIds known last paths (map_errors.Limit which) = (which ≡ Versions) × PassesGreatest known last paths
