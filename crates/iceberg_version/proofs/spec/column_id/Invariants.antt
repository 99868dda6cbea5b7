use Rattle.std.proofs.Common.{◌≡◌, ◌∷◌, [], drop}
use Rattle.schema_map.specs.Paths.{known_id}
use Rattle.iceberg_version.proofs.spec.column_id.Given as goal

abbrev pub invariant-loop-pair : goal.invariant-loop-pair
invariant-loop-pair l = known_id (drop l.pair-index l.pairs) (l.name ∷ []) ≡ known_id l.pairs (l.name ∷ [])
