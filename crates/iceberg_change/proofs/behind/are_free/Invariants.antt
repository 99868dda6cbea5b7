use Rattle.std.proofs.Common.{Contains, take}
use Rattle.table_history.specs.Rows.{HasPath}
use Rattle.table_history.specs.declared.row.FileRow.{FileRow}
use Rattle.iceberg_change.proofs.behind.are_free.Given as goal

abbrev pub invariant-loop-row : goal.invariant-loop-row
invariant-loop-row l = (row : FileRow) → Contains (take l.row-index l.rows) row → HasPath l.before.rows row.path → HasPath l.went.rows row.path
