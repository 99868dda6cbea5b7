use Rattle.std.proofs.Common.{rules}
use Rattle.std.proofs.lemmas.List.Sorted.{answers_always}
use Rattle.table_history.proofs.RowListLemmas.{row_below, row_below-order, rows_rise, same_rows}
use Rattle.table_history.proofs.sorting.sorted_rows.Goals as goal

pub returns-clause-rows : goal.returns-clause-rows
returns-clause-rows c = same_rows c.args.rows.items c.sort_by.new.self.items c.in_ok-sort_by.ensures.permutation

pub returns-clause-order : goal.returns-clause-order
returns-clause-order c =
    rows_rise c.args.rows.items c.sort_by.new.self.items c.in_ok-sort_by.ensures.permutation c.requires (c.in_ok-sort_by.ensures.sorted row_below row_below-order (answers_always _ _ _ (λ f a r f' h. search rules)))
