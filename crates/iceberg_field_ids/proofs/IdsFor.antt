-- A loop that gives ids to paths: those that it gave, before those of the paths left.
use Rattle.std.proofs.Common.{◌≡◌, List, [], ◌∷◌, ◌++◌, Result, Ok, Err, refl, ap, append_assoc}
use Rattle.std.proofs.lemmas.List.{append-nil}
use Rattle.std.specs.Prelude.{ℤ}
use Rattle.schema_map.specs.declared.fault.MapError.{MapError}
use Rattle.lake_basics.specs.Outcome.{◌>>=◌}
use Rattle.schema_map.specs.Paths.{Path, known_id}
use Rattle.iceberg_field_ids.specs.Ids.{id_step, ids_for}

abbrev pub with_ids : List ℤ → Result (List ℤ) MapError → Result (List ℤ) MapError
with_ids ids reading = do
  rest ← reading
  Ok (ids ++ rest)

pub with_ids-none : (reading : Result (List ℤ) MapError) → with_ids [] reading ≡ reading
with_ids-none (Ok p) = refl
with_ids-none (Err e) = refl

pub with_ids-end : (ids : List ℤ) → with_ids ids (Ok []) ≡ Ok ids
with_ids-end ids = ap Ok (append-nil ids)

joined : (ids : List ℤ) (id : ℤ) (reading : Result (List ℤ) MapError) → with_ids (ids ++ id ∷ []) reading ≡ with_ids ids (reading >>= λ others. Ok (id ∷ others))
joined ids id (Ok xs) = ap Ok (append_assoc ids (id ∷ []) xs)
joined ids id (Err e) = refl

pub with_ids-step : (ids : List ℤ) (known : List (Path × ℤ)) (last id later : ℤ) (path : Path) (paths : List Path) → id_step last (known_id known path) ≡ Ok (id, later) → with_ids (ids ++ id ∷ []) (ids_for known later paths) ≡ with_ids ids (ids_for known last (path ∷ paths))
with_ids-step ids known last id later path paths is = rw is (joined ids id (ids_for known later paths))
