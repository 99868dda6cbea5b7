use Rattle.std.proofs.Common.{◌≡◌, false, take, Contains}
use Rattle.schema_map.specs.Paths.{Path}
use Rattle.target_iceberg.specs.Newest.{is_changed, shape_at}
use Rattle.target_iceberg.proofs.newest.first_changed.Given as goal

abbrev pub invariant-loop-path : goal.invariant-loop-path
invariant-loop-path l = (path : Path) → Contains (take l.path-index l.paths) path → is_changed (shape_at l.newest path) (shape_at l.stated path) ≡ false
