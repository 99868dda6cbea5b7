use Rattle.std.proofs.Common.{◌≡◌, ℕ, List, ◌++◌, reverse, vec_len}
use Rattle.std.specs.List.{list_any}
use Rattle.table_history.specs.declared.row.FileRow.{FileRow}
use Rattle.hudi_groups.specs.GroupSets.{has_group, is_row_of_group, newest_rows}
use Rattle.hudi_groups.proofs.groups.newest_rows.Given as goal

abbrev pub invariant-loop-row : goal.invariant-loop-row
invariant-loop-row l =
    (rest : List FileRow) × (l.left.items ++ rest ≡ l.initial.left.items) × (l.newest.items ≡ reverse (newest_rows l.form rest))
    × ((q : List ℕ) → has_group l.groups q ≡ list_any (is_row_of_group l.form q) rest)

abbrev pub decreases-loop-row : goal.decreases-loop-row
decreases-loop-row l = vec_len l.left
