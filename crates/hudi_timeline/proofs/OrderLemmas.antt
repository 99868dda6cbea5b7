-- The change that puts rows in that were sorted.
use Rattle.std.proofs.Common.{◌≡◌, ℕ, List, [], Contains, sym, subst}
use Rattle.std.specs.List.Sorted.{IsStrictlySortedBy}
use Rattle.table_history.specs.Rows.{IsInByteOrder, IsInPathOrder, SameRows}
use Rattle.table_history.specs.Tables.{IsDiff}
use Rattle.table_history.specs.declared.row.FileRow.{FileRow}
use Rattle.table_history.proofs.RowListLemmas.{Contains-none}

none_rises : IsInByteOrder []
unfolding IsStrictlySortedBy
none_rises = tt

pub diff_from_none : (rows added : List FileRow) (removed : List (List ℕ)) → removed ≡ [] → SameRows added rows → IsInPathOrder added → IsDiff [] rows removed added
diff_from_none rows added removed none same rises = record {
  removed_paths = λ path. (λ gone. absurd (Contains-none path (subst (λ l. Contains l path) none gone)), λ was. absurd (Contains-none was.0 was.1));
  added_rows = λ row. (λ there. ((same row).0 there, λ was. Contains-none row was), λ new. (same row).1 new.0);
  removed_order = subst IsInByteOrder (sym none) none_rises;
  added_order = rises;
}
