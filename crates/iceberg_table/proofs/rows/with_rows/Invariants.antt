use Rattle.std.proofs.Common.{◌≡◌, ◌++◌, ℕ, List}
use Rattle.table_history.specs.TypeTree.{ColumnTrees}
use Rattle.table_history.specs.declared.row.FileRow.{FileRow}
use Rattle.iceberg_live.specs.declared.live.LiveRow.{LiveRow}
use Rattle.iceberg_table.specs.Tables.{IsTableOfRows, rows_in}
use Rattle.iceberg_table.proofs.rows.with_rows.Given as goal

abbrev pub invariant-loop-found : goal.invariant-loop-found
invariant-loop-found l =
    (front : List LiveRow)
    × (l.fn.live ≡ front ++ l.found-iterator.rest.items)
    × ((schema : ColumnTrees) (partition : List (List ℕ)) (rows : List FileRow) → IsTableOfRows schema partition rows l.fn.before → IsTableOfRows schema partition (rows ++ rows_in front) l.table)
