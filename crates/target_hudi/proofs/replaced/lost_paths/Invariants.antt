use Rattle.std.proofs.Common.{◌≡◌, filter, take}
use Rattle.target_core.proofs.RowPaths.{is_lost}
use Rattle.target_hudi.proofs.replaced.lost_paths.Given as goal

abbrev pub invariant-loop-path : goal.invariant-loop-path
invariant-loop-path l = l.lost.items ≡ filter (is_lost l.after) (take l.path-index l.removed)
