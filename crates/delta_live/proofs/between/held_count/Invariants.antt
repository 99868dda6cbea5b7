use Rattle.std.proofs.Common.{◌≡◌, take}
use Rattle.std.specs.List.{count_by}
use Rattle.delta_log.specs.Commit.{file_path}
use Rattle.delta_live.specs.RowSteps.{has_path}
use Rattle.delta_live.proofs.between.held_count.Given as goal

abbrev pub invariant-loop-file : goal.invariant-loop-file
invariant-loop-file l = l.count ≡ count_by (λ f. has_path l.rows (file_path f)) (take l.file-index l.files)
