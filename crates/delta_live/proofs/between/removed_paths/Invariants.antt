use Rattle.std.proofs.Common.{◌≡◌, filter, take}
use Rattle.delta_live.specs.RowSteps.{has_path, removed_paths}
use Rattle.delta_live.proofs.between.removed_paths.Given as goal

abbrev pub invariant-loop-file : goal.invariant-loop-file
invariant-loop-file l = l.paths.items ≡ filter (has_path l.rows) (removed_paths (take l.file-index l.files))
