use Rattle.std.proofs.Common.{refl}
use Rattle.target_sync.proofs.sharing.same_table.Goals as goal

pub returns : goal.returns
returns c same =
    let columns = c.if-not-same_columns.ensures refl in
    record { rows = c.in_ok-same.ensures same; partition = columns.0; schema = columns.1 }
