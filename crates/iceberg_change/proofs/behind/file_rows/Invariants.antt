use Rattle.std.proofs.Common.{◌≡◌, ◌++◌}
use Rattle.table_history.specs.Rows.{HasDistinctPaths}
use Rattle.iceberg_change.proofs.behind.file_rows.Given as goal

abbrev pub invariant-loop-row : goal.invariant-loop-row
invariant-loop-row l = record {
  parts : l.fn.rows.items ≡ l.found ++ l.row-iterator.rest.items;
  distinct : HasDistinctPaths l.found;
}
