use Rattle.std.proofs.Common.{List, Contains, subst, sym, rules}
use Rattle.std.proofs.lemmas.List.Sorted.{answers_always}
use Rattle.table_history.proofs.RowListLemmas.{path_below, path_below-order, Contains-sorted, order_sorted}
use Rattle.table_history.specs.Rows.{HasDistinctPaths}
use Rattle.table_history.specs.declared.row.FileRow.{FileRow}
use Rattle.table_lines.proofs.put.rows_in_order.Goals as goal

pub returns-clause-order : goal.returns-clause-order
returns-clause-order c =
    order_sorted c.in_ok-list.list.items c.sort_by.new.self.items c.in_ok-sort_by.ensures.permutation (subst HasDistinctPaths (sym c.in_ok-list.ensures.rows) c.in_ok-list.ensures.distinct) (c.in_ok-sort_by.ensures.sorted path_below path_below-order (answers_always _ _ _ (λ f a r f' h. search rules)))

pub returns-clause-same : goal.returns-clause-same
returns-clause-same c = λ row.
    let same = Contains-sorted c.in_ok-list.list.items c.sort_by.new.self.items c.in_ok-sort_by.ensures.permutation row in
    let is = c.in_ok-list.ensures.rows in (
      λ h. subst (λ (l : List FileRow). Contains l row) is (same.0 h),
      λ h. same.1 (subst (λ (l : List FileRow). Contains l row) (sym is) h),
    )
