use Rattle.std.proofs.Common.{take, codes}
use Rattle.lake_sweep.specs.Picking.{ArePicked}
use Rattle.target_leftovers.specs.Names.{IsDeltaName}
use Rattle.lake_sweep.proofs.delta.staged_paths.Given as goal

abbrev pub invariant-loop-name : goal.invariant-loop-name
invariant-loop-name l = ArePicked IsDeltaName (codes "_delta_log/") (take l.name-index l.names) l.paths
