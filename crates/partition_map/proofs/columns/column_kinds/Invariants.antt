use Rattle.std.proofs.Common.{◌≡◌, map, take}
use Rattle.partition_map.specs.Columns.{column_kind}
use Rattle.partition_map.proofs.columns.column_kinds.Given as goal

abbrev pub invariant-loop-name : goal.invariant-loop-name
invariant-loop-name l = l.kinds.items ≡ map (column_kind l.schema) (take l.name-index l.names)
