use Rattle.std.proofs.Common.{◌≡◌, ◌++◌, take}
use Rattle.iceberg_table.specs.Tables.{rows_in}
use Rattle.iceberg_change.proofs.held.push_rows.Given as goal

abbrev pub invariant-loop-found : goal.invariant-loop-found
invariant-loop-found l = l.rows.items ≡ l.fn.rows.items ++ rows_in (take l.found-index l.live)
