use Rattle.std.proofs.Common.{◌≡◌, ◌++◌, drop}
use Rattle.std.specs.Prelude.{flat_map}
use Rattle.iceberg_metadata.specs.Paths.{path_ids}
use Rattle.iceberg_version.proofs.schemas.known_ids.Given as goal

abbrev pub invariant-loop-held : goal.invariant-loop-held
invariant-loop-held l = l.pairs.items ++ flat_map path_ids (drop l.held-index l.metadata.schemas) ≡ flat_map path_ids l.metadata.schemas
