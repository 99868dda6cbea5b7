use Rattle.std.proofs.Common.{◌≡◌, ◌++◌}
use Rattle.iceberg_table.specs.Tables.{rows_in}
use Rattle.iceberg_change.proofs.held.move_rows.Given as goal

abbrev pub invariant-loop-found : goal.invariant-loop-found
invariant-loop-found l = l.rows.items ++ rows_in l.found-iterator.rest.items ≡ l.fn.rows.items ++ rows_in l.fn.live
