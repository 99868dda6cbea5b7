use Rattle.iceberg_version.proofs.ColumnLemmas.{AreColumnsUpTo}
use Rattle.iceberg_version.proofs.columns.part_columns.Given as goal

abbrev pub invariant-loop-place : goal.invariant-loop-place
invariant-loop-place l = AreColumnsUpTo l.schema l.partition l.fields l.place l.columns.items
