use Rattle.std.proofs.lemmas.Slice.Eq.{bytes_eq-Decides, slice_eq-Decides}
use Rattle.target_sync.proofs.sharing.same_partition.Goals as goal

pub returns : goal.returns
returns c = slice_eq-Decides bytes_eq-Decides c.args.table.now.partition c.args.other.now.partition c.eq.result c.eq.ensures
