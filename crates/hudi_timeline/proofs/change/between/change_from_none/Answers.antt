use Rattle.std.proofs.Common.{subst, sym}
use Rattle.table_history.specs.Rows.{IsInPathOrder, SameRows}
use Rattle.hudi_timeline.proofs.OrderLemmas.{diff_from_none}
use Rattle.hudi_timeline.proofs.change.between.change_from_none.Goals as goal

pub returns : goal.returns
returns c = diff_from_none c.args.rows.items _ _ c.new.ensures
    (subst (λ l. SameRows l c.args.rows.items) (sym c.from_vec.ensures) c.in_ok-sorted_rows.ensures.rows)
    (subst IsInPathOrder (sym c.from_vec.ensures) c.in_ok-sorted_rows.ensures.order)
