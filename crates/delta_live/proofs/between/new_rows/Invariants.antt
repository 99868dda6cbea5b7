use Rattle.std.proofs.Common.{◌≡◌, List, ◌++◌, reverse, filter, vec_len}
use Rattle.table_history.specs.Rows.{paths_of}
use Rattle.table_history.specs.declared.row.FileRow.{FileRow}
use Rattle.table_history.proofs.RowListLemmas.{lacks}
use Rattle.delta_live.specs.RowSteps.{has_path}
use Rattle.delta_live.proofs.between.new_rows.Given as goal

abbrev pub invariant-loop-row : goal.invariant-loop-row
invariant-loop-row l =
    (rest : List FileRow) × (l.rows.items ++ rest ≡ l.fn.rows.items) × (l.new.rows.items ≡ reverse (filter (lacks l.before) rest)) × (l.new.replaced.items ≡ filter (has_path l.before) (paths_of l.new.rows.items))

abbrev pub decreases-loop-row : goal.decreases-loop-row
decreases-loop-row l = vec_len l.rows
