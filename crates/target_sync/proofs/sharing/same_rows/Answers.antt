use Rattle.target_sync.proofs.DueToo.{same_rows}
use Rattle.target_sync.proofs.sharing.same_rows.Goals as goal

pub returns : goal.returns
returns c same =
    let change = c.in_ok-change.change in
    let none = c.moves_nothing.ensures same in
    same_rows c.args.table.now.rows c.args.other.now.rows change.removed change.added c.in_ok-change.ensures.leads none.0 none.1
