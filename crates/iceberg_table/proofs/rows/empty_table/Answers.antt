use Rattle.std.proofs.Common.{refl}
use Rattle.iceberg_table.proofs.RowLaws.{empty_of}
use Rattle.iceberg_table.proofs.rows.empty_table.Goals as goal

pub returns : goal.returns
returns c = empty_of c.args.schema c.args.partition (record { schema = c.args.schema; partition = c.args.partition; rows = c.new.result }) refl refl c.new.ensures
