use Rattle.std.proofs.Common.{◌≡◌, drop}
use Rattle.iceberg_metadata.specs.Paths.{kind_at}
use Rattle.iceberg_columns.proofs.partition.kind_at.Given as goal

abbrev pub invariant-loop-kind : goal.invariant-loop-kind
invariant-loop-kind l = kind_at (drop l.kind-index l.kinds) l.id ≡ kind_at l.kinds l.id
