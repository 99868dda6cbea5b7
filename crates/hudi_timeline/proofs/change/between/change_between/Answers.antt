use Rattle.std.proofs.lemmas.Result.{IfOk-weaker}
use Rattle.table_history.specs.Tables.{IsDiff}
use Rattle.table_history.specs.declared.table.Change.{Change}
use Rattle.table_history.proofs.Laws.{change_of_same_rows}
use Rattle.hudi_timeline.proofs.change.between.change_between.Goals as goal

pub returns : goal.returns
returns c =
    IfOk-weaker c.change_to.result (λ (d : Change). IsDiff c.in_ok-before.before.rows c.in_ok-after.after.rows d.removed d.added) (λ (d : Change). IsDiff c.args.before.items c.args.after.items d.removed d.added)
    (λ d is. change_of_same_rows c.in_ok-before.before.rows c.args.before.items c.in_ok-after.after.rows c.args.after.items d.removed d.added c.in_ok-before.ensures c.in_ok-after.ensures is)
    c.change_to.ensures.diff
