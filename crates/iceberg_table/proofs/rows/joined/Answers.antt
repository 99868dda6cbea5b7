use Rattle.std.proofs.Common.{◌++◌}
use Rattle.iceberg_table.specs.Tables.{AreShared, rows_in}
use Rattle.iceberg_table.proofs.FaultLaws.{told_at}
use Rattle.iceberg_table.proofs.rows.joined.Goals as goal

pub returns-in-Err-clause-refused : goal.returns-in-Err-clause-refused
returns-in-Err-clause-refused c schema partition rows is =
    told_at c.args.path.now (AreShared (rows ++ rows_in c.args.live)) c.in-Err.error c.refusal.result c.refusal.ensures (c.in-Err.ensures.refused schema partition rows is)
