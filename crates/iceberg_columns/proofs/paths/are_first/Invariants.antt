use Rattle.std.proofs.Common.{◌≡◌, ◌&&◌, true, take}
use Rattle.std.specs.List.{list_all}
use Rattle.iceberg_metadata.specs.Judging.{is_path, is_id}
use Rattle.iceberg_columns.specs.PathMaps.{path_at, id_at}
use Rattle.iceberg_columns.proofs.paths.are_first.Given as goal

abbrev pub invariant-loop-pair : goal.invariant-loop-pair
invariant-loop-pair l = list_all (λ p. is_path (path_at l.by_id p.1) p.0 && is_id (id_at l.by_path p.0) p.1) (take l.pair-index l.pairs) ≡ true
