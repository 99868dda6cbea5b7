use Rattle.std.proofs.Common.{◌≡◌, ◌++◌}
use Rattle.schema_map.specs.Paths.{column_paths}
use Rattle.target_iceberg.proofs.FollowLemmas.{zero_ids}
use Rattle.target_iceberg.proofs.fitting.image_of.Given as goal

abbrev pub invariant-loop-path : goal.invariant-loop-path
invariant-loop-path l = l.pairs.items ++ zero_ids l.path-iterator.rest.items ≡ zero_ids (column_paths l.schema)
