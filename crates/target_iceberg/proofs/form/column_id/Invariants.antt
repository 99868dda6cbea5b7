use Rattle.std.proofs.Common.{◌≡◌, ◌∷◌, [], drop}
use Rattle.std.specs.List.{zip}
use Rattle.schema_map.specs.Paths.{known_id}
use Rattle.target_iceberg.proofs.form.column_id.Given as goal

abbrev pub invariant-loop-place : goal.invariant-loop-place
invariant-loop-place l = known_id (zip (drop l.place l.paths) (drop l.place l.ids)) (l.name ∷ []) ≡ known_id (zip l.paths l.ids) (l.name ∷ [])
