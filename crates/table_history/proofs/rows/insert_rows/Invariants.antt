use Rattle.std.proofs.Common.{◌≡◌, ℕ, ◌≤◌, List, vec_len}
use Rattle.std.specs.Option.{option_or}
use Rattle.indexmap.specs.IndexSet.{spare, IsUnique}
use Rattle.table_history.specs.Rows.{row_at}
use Rattle.table_history.specs.RowSet.{same_path}
use Rattle.table_history.proofs.rows.insert_rows.Given as goal

abbrev pub invariant-loop-row : goal.invariant-loop-row
invariant-loop-row l = record {
  lookups : (p : List ℕ) → option_or (row_at l.added.items p) (row_at l.rows.keys p) ≡ option_or (row_at l.initial.added.items p) (row_at l.initial.rows.keys p);
  room : vec_len l.added ≤ spare l.rows;
  unique : IsUnique same_path l.rows;
}

abbrev pub decreases-loop-row : goal.decreases-loop-row
decreases-loop-row l = vec_len l.added
