use Rattle.std.proofs.Common.{◌≡◌, ◌++◌}
use Rattle.std.specs.List.{zip}
use Rattle.iceberg_metadata.specs.Paths.{path_ids_of}
use Rattle.iceberg_columns.proofs.paths.path_ids_of.Given as goal

abbrev pub invariant-loop-path : goal.invariant-loop-path
invariant-loop-path l = l.found.items ++ zip l.path-iterator.rest.items l.left ≡ path_ids_of l.schema l.ids
