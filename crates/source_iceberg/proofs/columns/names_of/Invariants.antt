use Rattle.std.proofs.Common.{◌≡◌, ◌++◌, drop}
use Rattle.iceberg_table.specs.Plan.{names_of}
use Rattle.source_iceberg.proofs.columns.names_of.Given as goal

abbrev pub invariant-loop-column : goal.invariant-loop-column
invariant-loop-column l = l.names ++ names_of (drop l.column-index l.columns) ≡ names_of l.columns
