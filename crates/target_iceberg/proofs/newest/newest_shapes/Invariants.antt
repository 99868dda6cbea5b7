use Rattle.std.proofs.Common.{◌≡◌, None, drop, map}
use Rattle.schema_map.specs.Paths.{Path}
use Rattle.target_iceberg.specs.Newest.{shape_at, with_schemas}
use Rattle.target_iceberg.proofs.newest.newest_shapes.Given as goal

abbrev pub invariant-loop-held : goal.invariant-loop-held
invariant-loop-held l = (path : Path) → with_schemas (shape_at l.newest path) (map (λ s. (s.0, s.1)) (drop l.held-index l.schemas)) path ≡ with_schemas None (map (λ s. (s.0, s.1)) l.schemas) path
