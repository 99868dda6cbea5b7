use Rattle.std.proofs.Common.{◌≡◌, ℕ, ◌||◌, List, take}
use Rattle.std.specs.List.{list_any}
use Rattle.hudi_groups.specs.GroupIndex.{has_path, is_row_of}
use Rattle.hudi_groups.proofs.index.with_rows.Given as goal

abbrev pub invariant-loop-row : goal.invariant-loop-row
invariant-loop-row l = (q p : List ℕ) → has_path l.all q p ≡ (list_any (is_row_of q p) (take l.row-index l.rows) || has_path l.fn.index q p)
