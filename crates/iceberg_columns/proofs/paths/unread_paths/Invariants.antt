use Rattle.std.proofs.Common.{◌≡◌, ◌++◌, drop}
use Rattle.iceberg_metadata.specs.Paths.{unread_paths}
use Rattle.iceberg_columns.proofs.paths.unread_paths.Given as goal

abbrev pub invariant-loop-held : goal.invariant-loop-held
invariant-loop-held l = l.found.items ++ unread_paths (drop l.held-index l.unread) ≡ unread_paths l.unread
