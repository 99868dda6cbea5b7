use Rattle.partition_map.proofs.EqualKinds.{kinds_decide}
use Rattle.target_iceberg.proofs.fitting.are_same_kinds.Goals as goal

pub returns : goal.returns
returns c = kinds_decide c.args.kinds.now c.args.others.now c.eq.result c.eq.ensures
