use Rattle.std.proofs.Common.{ℕ, List, Contains, ◌↔◌, refl, sym, subst}
use Rattle.table_history.specs.Rows.{IsInByteOrder, IsInPathOrder}
use Rattle.table_history.specs.declared.row.FileRow.{FileRow}
use Rattle.delta_live.proofs.order.in_order.Goals as goal

pub returns : goal.returns
returns c = record {
  schema = refl;
  removed = λ path. subst (λ (l : List (List ℕ) × List (List ℕ)). Contains l.0 path ↔ Contains l.1 path) (λ i. (sym c.from_vec.ensures i, c.into_vec.ensures i)) (c.in_ok-sorted_texts.ensures.texts path);
  added = λ row. subst (λ (l : List FileRow × List FileRow). Contains l.0 row ↔ Contains l.1 row) (λ i. (sym c.from_vec-2.ensures i, c.into_vec-2.ensures i)) (c.in_ok-sorted_rows.ensures.rows row);
  removed_order = subst IsInByteOrder (sym c.from_vec.ensures) c.in_ok-sorted_texts.ensures.order;
  added_order = subst IsInPathOrder (sym c.from_vec-2.ensures) c.in_ok-sorted_rows.ensures.order;
}
