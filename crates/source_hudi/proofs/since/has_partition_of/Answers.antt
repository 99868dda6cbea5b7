use Rattle.std.proofs.lemmas.Slice.Eq.{bytes_eq-Decides, slice_eq-Decides}
use Rattle.source_hudi.proofs.since.has_partition_of.Goals as goal

pub returns : goal.returns
returns c = slice_eq-Decides bytes_eq-Decides c.args.table.now.partition c.args.base.now.partition c.eq.result c.eq.ensures
