use Rattle.std.proofs.Common.{Bor, Contains, List, ap, length, rules, subst, sym, ◌∙◌}
use Rattle.std.proofs.lemmas.List.Sorted.{answers_always, length_permutation}
use Rattle.std.proofs.lemmas.List.{length-map}
use Rattle.table_history.proofs.RowListLemmas.{Contains-sorted, order_sorted, path_below, path_below-order}
use Rattle.table_history.specs.Rows.{HasDistinctPaths}
use Rattle.table_history.specs.declared.row.FileRow.{FileRow}
use Rattle.table_history.proofs.sorting.rows_in_order.Goals as goal

pub returns-clause-rows : goal.returns-clause-rows
returns-clause-rows c = λ row.
    let same = Contains-sorted c.in_ok-sorted.sorted.items c.sort_by.new.self.items c.in_ok-sort_by.ensures.permutation row in
    let all = c.in_ok-sorted.ensures in
    (λ h. same.1 (subst (λ (rs : List FileRow). Contains rs row) (sym all) h), λ h. subst (λ (rs : List FileRow). Contains rs row) all (same.0 h))

pub returns-clause-order : goal.returns-clause-order
returns-clause-order c =
    order_sorted c.in_ok-sorted.sorted.items c.sort_by.new.self.items c.in_ok-sort_by.ensures.permutation (subst HasDistinctPaths (sym c.in_ok-sorted.ensures) c.requires) (c.in_ok-sort_by.ensures.sorted path_below path_below-order (answers_always _ _ _ (λ f a r f' h. search rules)))

pub returns-clause-count : goal.returns-clause-count
returns-clause-count c =
    let rows = c.in_ok-sorted.sorted.items in
    length_permutation rows c.sort_by.new.self.items c.in_ok-sort_by.ensures.permutation ∙ sym (length-map rows (λ (r : Bor FileRow). r.now)) ∙ ap length c.in_ok-sorted.ensures
