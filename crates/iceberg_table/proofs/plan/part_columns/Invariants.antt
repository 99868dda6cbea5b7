use Rattle.std.proofs.Common.{◌≡◌, ◌++◌, drop}
use Rattle.iceberg_table.specs.Plan.{part_columns}
use Rattle.iceberg_table.proofs.plan.part_columns.Given as goal

abbrev pub invariant-loop-column : goal.invariant-loop-column
invariant-loop-column l = l.parts ++ part_columns (drop l.column-index l.columns) ≡ part_columns l.columns
