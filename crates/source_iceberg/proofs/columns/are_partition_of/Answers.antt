use Rattle.std.proofs.lemmas.Slice.Eq.{bytes_eq-Decides, slice_eq-Decides}
use Rattle.source_iceberg.proofs.columns.are_partition_of.Goals as goal

pub returns : goal.returns
returns c = slice_eq-Decides bytes_eq-Decides c.args.names.now c.args.before.now.partition c.eq.result c.eq.ensures
