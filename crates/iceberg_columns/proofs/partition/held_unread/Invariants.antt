use Rattle.std.proofs.Common.{◌≡◌, drop}
use Rattle.iceberg_metadata.specs.Paths.{held_unread}
use Rattle.iceberg_columns.proofs.partition.held_unread.Given as goal

abbrev pub invariant-loop-schema : goal.invariant-loop-schema
invariant-loop-schema l = held_unread (drop l.schema-index l.unread) l.id ≡ held_unread l.unread l.id
