use Rattle.std.proofs.Common.{◌≡◌, map}
use Rattle.std.specs.List.{zip}
use Rattle.schema_map.specs.Paths.{Path, column_paths}
use Rattle.target_iceberg.specs.Fitting.{column_types}
use Rattle.target_iceberg.specs.Newest.{shape_at}
use Rattle.target_iceberg.specs.Shapes.{shape_of}
use Rattle.target_iceberg.proofs.NewestLemmas.{with_pairs}
use Rattle.target_iceberg.proofs.newest.keep_schema.Given as goal

abbrev pub invariant-loop-path : goal.invariant-loop-path
invariant-loop-path l = (path : Path) → with_pairs l.id path (shape_at l.newest path) (zip l.path-iterator.rest.items l.left) ≡ with_pairs l.id path (shape_at l.fn.newest path) (zip (column_paths l.schema) (map shape_of (column_types l.schema)))
