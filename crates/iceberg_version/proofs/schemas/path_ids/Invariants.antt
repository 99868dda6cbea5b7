use Rattle.std.proofs.Common.{◌≡◌, ◌++◌}
use Rattle.std.specs.List.{zip}
use Rattle.iceberg_metadata.specs.Paths.{path_ids_of}
use Rattle.iceberg_version.proofs.schemas.path_ids.Given as goal

abbrev pub invariant-loop-path : goal.invariant-loop-path
invariant-loop-path l = l.pairs.items ++ zip l.path-iterator.rest.items l.left ≡ path_ids_of l.schema l.ids
