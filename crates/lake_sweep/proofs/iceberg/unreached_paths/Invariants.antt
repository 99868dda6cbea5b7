use Rattle.std.proofs.Common.{take, codes}
use Rattle.lake_sweep.specs.Picking.{ArePicked}
use Rattle.lake_sweep.specs.Reading.{IsFree}
use Rattle.lake_sweep.proofs.iceberg.unreached_paths.Given as goal

abbrev pub invariant-loop-name : goal.invariant-loop-name
invariant-loop-name l = ArePicked (IsFree l.reached) (codes "metadata/") (take l.name-index l.names) l.paths
