use Rattle.std.proofs.Common.{sym, subst}
use Rattle.sync_driver.specs.Checked.{IsFirstDifference}
use Rattle.sync_driver.proofs.checking.first_difference.Goals as goal

pub returns-in-None : goal.returns-in-None
returns-in-None c = c.in-None.ensures c.args.held.now.rows c.args.table.now.rows c.in_ok-change.ensures.leads c.in_ok-change.ensures.diff

pub returns : goal.returns
returns c = subst (IsFirstDifference c.args.held.now.rows c.args.table.now.rows) (sym c.in_ok-copy-in-Some.ensures) (c.in-Some.ensures c.args.held.now.rows c.args.table.now.rows c.in_ok-change.ensures.leads c.in_ok-change.ensures.diff)
