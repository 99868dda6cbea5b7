use Rattle.iceberg_change.proofs.ColumnLaws.{columns_same}
use Rattle.iceberg_change.proofs.behind.is_for.Goals as goal

pub returns-in-Some : goal.returns-in-Some
returns-in-Some c = λ same. columns_same c.args.known.now c.in-Some.known c.args.columns.now c.eq.result c.in-Some.is c.eq.ensures same
