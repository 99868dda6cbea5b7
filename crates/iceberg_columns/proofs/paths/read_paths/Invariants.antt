use Rattle.std.proofs.Common.{◌≡◌, ◌++◌, drop}
use Rattle.std.specs.Prelude.{flat_map}
use Rattle.iceberg_metadata.specs.Paths.{path_ids}
use Rattle.iceberg_columns.proofs.paths.read_paths.Given as goal

abbrev pub invariant-loop-held : goal.invariant-loop-held
invariant-loop-held l = l.found.items ++ flat_map path_ids (drop l.held-index l.schemas) ≡ flat_map path_ids l.schemas
